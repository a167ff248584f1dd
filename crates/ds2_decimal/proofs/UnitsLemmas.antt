-- Facts on units: a product with a power of ten, and the tests of their digits.
use Rattle.std.proofs.Common.{◌≡◌, ℕ, ◌-◌, ◌*◌, ◌^◌, ◌<◌, ◌≤◌, ℤ, pos, ◌*ℤ◌, unsigned_abs, FitsSigned, Option, Some, None, Bool, true, false, cond, refl, ap, ◌∙◌, arith}
use Rattle.std.specs.Int.{w128, cast_signed, cast_unsigned}
use Rattle.std.proofs.Math.Nat.{mul-lt-mul_of_pos_right, mul-le-mul_right}
use Rattle.std.proofs.lemmas.Bool.Decides.{nat_tests}
use Rattle.std.proofs.lemmas.Int.{unsigned_abs-mul, fits_signed_from_abs, to_z-of_z, to_z_pos}
use Rattle.ds2_decimal.specs.Decimal.{is_within}
use Rattle.ds2_decimal.specs.Steps.{raised}
use Rattle.ds2_decimal.proofs.TenPowers.{pow-ten_pos, pow-ten_le, pow-ten_split}

pub is_within_yes : (p : ℕ) (z : ℤ) → unsigned_abs z < 10 ^ p → is_within p z ≡ true
is_within_yes p z h = grind (arith, nat_tests)

pub is_within_no : (p : ℕ) (z : ℤ) → 10 ^ p ≤ unsigned_abs z → is_within p z ≡ false
is_within_no p z h = grind (arith, nat_tests)

-- how many digits a number may have so that k zeros more fit into n digits
pub zeros_fit : (m n k : ℕ) → k ≤ n → m < 10 ^ (n - k) → m * 10 ^ k < 10 ^ n
zeros_fit m n k h small =
    let more : m * 10 ^ k < 10 ^ (n - k) * 10 ^ k = mul-lt-mul_of_pos_right small (pow-ten_pos k) in
    omega (arith, pow-ten_split n k h)

pub zeros_pass : (m n k : ℕ) → k ≤ n → 10 ^ (n - k) ≤ m → 10 ^ n ≤ m * 10 ^ k
zeros_pass m n k h large =
    let more : 10 ^ (n - k) * 10 ^ k ≤ m * 10 ^ k = mul-le-mul_right (10 ^ k) large in
    omega (arith, pow-ten_split n k h)

pub unsigned_abs-raised : (z : ℤ) (n : ℕ) → unsigned_abs (z *ℤ pos n) ≡ unsigned_abs z * n
unsigned_abs-raised z n = unsigned_abs-mul z (pos n)

pub raised_small : (z : ℤ) (k : ℕ) → k ≤ 38 → unsigned_abs z < 10 ^ (38 - k) → raised z k ≡ Some (z *ℤ pos (10 ^ k))
raised_small z k h small =
    let fits : unsigned_abs (z *ℤ pos (10 ^ k)) < 10 ^ 38 = omega (arith, unsigned_abs-raised z (10 ^ k), zeros_fit (unsigned_abs z) 38 k h small) in
    ap (λ (b : Bool). cond b (Some (z *ℤ pos (10 ^ k))) None) (is_within_yes 38 (z *ℤ pos (10 ^ k)) fits)

pub raised_large : (z : ℤ) (k : ℕ) → k ≤ 38 → 10 ^ (38 - k) ≤ unsigned_abs z → raised z k ≡ None
raised_large z k h large =
    let passes : 10 ^ 38 ≤ unsigned_abs (z *ℤ pos (10 ^ k)) = omega (arith, unsigned_abs-raised z (10 ^ k), zeros_pass (unsigned_abs z) 38 k h large) in
    ap (λ (b : Bool). cond b (Some (z *ℤ pos (10 ^ k))) None) (is_within_no 38 (z *ℤ pos (10 ^ k)) passes)

-- the product that `raise` makes fits 128 bits
pub raised_fits : (z : ℤ) (k : ℕ) → k ≤ 38 → unsigned_abs z < 10 ^ (38 - k) → FitsSigned w128 (z *ℤ pos (10 ^ k))
raised_fits z k h small =
    let bound : unsigned_abs (z *ℤ pos (10 ^ k)) < 10 ^ 38 = omega (arith, unsigned_abs-raised z (10 ^ k), zeros_fit (unsigned_abs z) 38 k h small) in
    fits_signed_from_abs w128 (z *ℤ pos (10 ^ k)) (omega arith)

-- what 128 bits hold of the operands of that product
pub product_read : (z : ℤ) (k p : ℕ) → FitsSigned w128 z → k ≤ 38 → p ≡ 10 ^ k → cast_signed w128 (cast_unsigned w128 z) *ℤ cast_signed w128 p ≡ z *ℤ pos (10 ^ k)
product_read z k p fits h e =
    let bound : p < 2 ^ 127 = omega (arith, pow-ten_le k 38 h) in
    let right : cast_signed w128 p ≡ pos (10 ^ k) = to_z_pos w128 p bound ∙ ap (λ (n : ℕ). pos n) e in
    ap (λ (x : ℤ). x *ℤ cast_signed w128 p) (to_z-of_z w128 z fits) ∙ ap (λ (x : ℤ). z *ℤ x) right

-- what has more than 38 digits has more than p
pub is_within-raised_none : (p : ℕ) (z : ℤ) (k : ℕ) → p ≤ 38 → raised z k ≡ None → is_within p (z *ℤ pos (10 ^ k)) ≡ false
is_within-raised_none p z k h none =
    let tens : 10 ^ p ≤ 10 ^ 38 = pow-ten_le p 38 h in
    let passes : is_within 38 (z *ℤ pos (10 ^ k)) ≡ false = no_some (is_within 38 (z *ℤ pos (10 ^ k))) (z *ℤ pos (10 ^ k)) none in
    let large : 10 ^ 38 ≤ unsigned_abs (z *ℤ pos (10 ^ k)) = grind (arith, nat_tests) in
    is_within_no p (z *ℤ pos (10 ^ k)) (omega arith)
  where
    no_some : (t : Bool) (x : ℤ) → let none : Option ℤ = None in cond t (Some x) none ≡ none → t ≡ false
    no_some true x e = cc
    no_some false x e = refl
