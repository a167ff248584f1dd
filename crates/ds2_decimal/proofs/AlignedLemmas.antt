-- Facts on decimals brought to a common scale.
use Rattle.std.proofs.Common.{◌≡◌, ℕ, ◌+◌, ◌-◌, ◌*◌, ◌^◌, ◌<◌, ◌≤◌, max, ℤ, pos, neg_ℤ, ◌+ℤ◌, ◌-ℤ◌, ◌*ℤ◌, unsigned_abs, Bool, true, false, ◌&&◌, Option, Some, None, Result, Ok, Err, cond, leb, refl, sym, ap, ◌∙◌, arith}
use Rattle.std.specs.Option.{option_map_or}
use Rattle.std.specs.Ordering.{int_cmp, ordering_reverse}
use Rattle.std.proofs.Math.Nat.{pow-zero, mul-lt-mul_of_pos_right}
use Rattle.std.proofs.lemmas.Int.{unsigned_abs-mul}
use Rattle.std.specs.Prelude.{int_rem}
use Rattle.std.proofs.lemmas.Nat.{pow-add}
use Rattle.ds2_decimal.specs.declared.dec.DecFault.{DecFault}
use Rattle.ds2_decimal.specs.declared.dec.DecFault.TheVariants.{Overflow, DivideByZero}
use Rattle.ds2_decimal.specs.Decimal.{Decimal, is_within, units_at, value}
use Rattle.ds2_decimal.specs.Steps.{raised, signed_quotient}
use Rattle.ds2_decimal.specs.Rounding.{is_zero, moved_sign, round}
use Rattle.std.proofs.lemmas.Bool.Decides.{nat_tests}
use Rattle.ds2_decimal.specs.Arithmetic as spec
use Rattle.ds2_decimal.proofs.TenPowers.{pow-ten_pos}
use Rattle.ds2_decimal.proofs.UnitsLemmas.{is_within_yes, is_within-raised_none}
use Rattle.ds2_decimal.proofs.IntegerLemmas.{times_one, times_twice, times-neg, unsigned_abs-neg, int_cmp-times, int_cmp_turned}

-- no zeros more
pub units_at-same : (s : ℕ) (d : Decimal) → s ≡ d.scale → units_at s d ≡ d.units
units_at-same s d e =
    let none : s - d.scale ≡ 0 = omega arith in
    ap (λ (k : ℕ). d.units *ℤ pos (10 ^ k)) none ∙ ap (λ (k : ℕ). d.units *ℤ pos k) (pow-zero 10) ∙ times_one d.units

-- at equal scales nothing is brought
pub on_aligned-same : (f : ℤ → ℤ → ℤ) (a b : Decimal) → unsigned_abs a.units < 10 ^ 38 → unsigned_abs b.units < 10 ^ 38 → a.scale ≡ b.scale → spec.on_aligned f a b ≡ spec.within 38 (f a.units b.units) a.scale
on_aligned-same f a b left right e =
    let scale : max a.scale b.scale ≡ a.scale = omega arith in
    let first : units_at (max a.scale b.scale) a ≡ a.units = units_at-same (max a.scale b.scale) a scale in
    let second : units_at (max a.scale b.scale) b ≡ b.units = units_at-same (max a.scale b.scale) b (scale ∙ e) in
    let of : ℤ → ℤ → Result Decimal DecFault = λ x y. option_map_or (λ (p : ℤ × ℤ). spec.within 38 (f p.0 p.1) (max a.scale b.scale)) (cond (is_within 38 x && is_within 38 y) (Some (x, y)) None) (Err Overflow) in
    let tests : Bool → Bool → Result Decimal DecFault = λ p q. option_map_or (λ (p : ℤ × ℤ). spec.within 38 (f p.0 p.1) (max a.scale b.scale)) (cond (p && q) (Some (a.units, b.units)) None) (Err Overflow) in
    ap (λ (x : ℤ). of x (units_at (max a.scale b.scale) b)) first
    ∙ ap (λ (y : ℤ). of a.units y) second
    ∙ ap (λ (p : Bool). tests p (is_within 38 b.units)) (is_within_yes 38 a.units left)
    ∙ ap (λ (q : Bool). tests true q) (is_within_yes 38 b.units right)
    ∙ ap (λ (s : ℕ). spec.within 38 (f a.units b.units) s) scale

-- the other sign, brought
pub units_at-neg : (s : ℕ) (d : Decimal) → units_at s (spec.neg d) ≡ neg_ℤ (units_at s d)
units_at-neg s d = times-neg d.units (10 ^ (s - d.scale))

-- the last step of `add-neg`, where the tests are made
sum_or_none : (t : Bool) (x y : ℤ) (s : ℕ) → option_map_or (λ (p : ℤ × ℤ). spec.within 38 (p.0 +ℤ p.1) s) (cond t (Some (x, neg_ℤ y)) None) (Err Overflow) ≡ option_map_or (λ (p : ℤ × ℤ). spec.within 38 (p.0 -ℤ p.1) s) (cond t (Some (x, y)) None) (Err Overflow)
sum_or_none true x y s = refl
sum_or_none false x y s = refl

-- to take away is to add the other sign
pub add-neg : (a b : Decimal) → spec.add a (spec.neg b) ≡ spec.sub a b
add-neg a b =
    let s : ℕ = max a.scale b.scale in
    let x : ℤ = units_at s a in
    let y : ℤ = units_at s b in
    let of : Bool → ℤ → Result Decimal DecFault = λ p z. option_map_or (λ (p : ℤ × ℤ). spec.within 38 (p.0 +ℤ p.1) s) (cond (is_within 38 x && p) (Some (x, z)) None) (Err Overflow) in
    let test : is_within 38 (neg_ℤ y) ≡ is_within 38 y = ap (λ (n : ℕ). Rattle.std.specs.Prelude.nat_lt n (10 ^ 38)) (unsigned_abs-neg y) in
    ap (λ (z : ℤ). of (is_within 38 z) z) (units_at-neg s b)
    ∙ ap (λ (p : Bool). of p (neg_ℤ y)) test
    ∙ sum_or_none (is_within 38 x && is_within 38 y) x y s

-- an exact value by the units at a scale on the way to 38
pub value-units_at : (s : ℕ) (d : Decimal) → d.scale ≤ s → s ≤ 38 → value d ≡ units_at s d *ℤ pos (10 ^ (38 - s))
value-units_at s d h k =
    let digits : 10 ^ (s - d.scale) * 10 ^ (38 - s) ≡ 10 ^ (38 - d.scale) = sym (pow-add 10 (s - d.scale) (38 - s)) ∙ ap (λ (n : ℕ). 10 ^ n) (omega arith) in
    sym (times_twice d.units (10 ^ (s - d.scale)) (10 ^ (38 - s)) ∙ ap (λ (n : ℕ). d.units *ℤ pos n) digits)

-- two exact values stand as their units at one scale do
pub compare_at : (s : ℕ) (a b : Decimal) → a.scale ≤ s → b.scale ≤ s → s ≤ 38 → spec.compare a b ≡ int_cmp (units_at s a) (units_at s b)
compare_at s a b h k l =
    ap (λ (z : ℤ). int_cmp z (value b)) (value-units_at s a h l)
    ∙ ap (λ (z : ℤ). int_cmp (units_at s a *ℤ pos (10 ^ (38 - s))) z) (value-units_at s b k l)
    ∙ int_cmp-times (units_at s a) (units_at s b) (10 ^ (38 - s)) (pow-ten_pos (38 - s))

pub compare_second : (a b : Decimal) → a.scale ≤ b.scale → b.scale ≤ 38 → spec.compare a b ≡ int_cmp (units_at b.scale a) b.units
compare_second a b h k =
    compare_at b.scale a b h (omega arith) k ∙ ap (λ (z : ℤ). int_cmp (units_at b.scale a) z) (units_at-same b.scale b refl)

pub compare_first : (a b : Decimal) → b.scale ≤ a.scale → a.scale ≤ 38 → spec.compare a b ≡ ordering_reverse (int_cmp (units_at a.scale b) a.units)
compare_first a b h k =
    sym (int_cmp_turned (value a) (value b)) ∙ ap ordering_reverse (compare_second b a h k)

pub compare-same : (a b : Decimal) → a.scale ≡ b.scale → b.scale ≤ 38 → spec.compare a b ≡ int_cmp a.units b.units
compare-same a b e k =
    compare_second a b (omega arith) k ∙ ap (λ (z : ℤ). int_cmp z b.units) (units_at-same b.scale a (sym e))

-- a number whose zeros do not fit 38 digits does not fit p
pub rescale_none : (p s : ℕ) (d : Decimal) → p ≤ 38 → d.scale ≤ s → raised d.units (s - d.scale) ≡ None → spec.rescale p s d ≡ Err Overflow
rescale_none p s d h k none =
    let scales : leb d.scale s ≡ true = grind (arith, nat_tests) in
    ap (λ (t : Bool). spec.within p (cond t (units_at s d) (round d.units (10 ^ (d.scale - s)))) s) scales
    ∙ ap (λ (t : Bool). cond t (Ok (record { units = units_at s d; scale = s })) (Err Overflow)) (is_within-raised_none p d.units (s - d.scale) h none)

some_pair : (t : Bool) (x y p q : ℤ) → let none : Option (ℤ × ℤ) = None in cond t (Some (x, y)) none ≡ Some (p, q) → (p ≡ x) × (q ≡ y)
some_pair true x y p q e =
    let first : Option (ℤ × ℤ) → ℤ = λ o. option_map_or (λ (p : ℤ × ℤ). p.0) o (pos 0) in
    let second : Option (ℤ × ℤ) → ℤ = λ o. option_map_or (λ (p : ℤ × ℤ). p.1) o (pos 0) in
    (sym (ap first e), sym (ap second e))
some_pair false x y p q e = cc

-- a divisor other than 0, brought, is not 0
pub aligned_divisor : (a b : Decimal) (x y : ℤ) → 0 < unsigned_abs b.units → spec.aligned a b ≡ Some (x, y) → 0 < unsigned_abs y
aligned_divisor a b x y some e =
    let s : ℕ = max a.scale b.scale in
    let is = some_pair (is_within 38 (units_at s a) && is_within 38 (units_at s b)) (units_at s a) (units_at s b) x y e in
    let size : unsigned_abs y ≡ unsigned_abs b.units * 10 ^ (s - b.scale) = ap unsigned_abs is.1 ∙ unsigned_abs-mul b.units (pos (10 ^ (s - b.scale))) in
    let tens : 0 < 10 ^ (s - b.scale) = pow-ten_pos (s - b.scale) in
    let more : 0 * 10 ^ (s - b.scale) < unsigned_abs b.units * 10 ^ (s - b.scale) = mul-lt-mul_of_pos_right some tens in
    omega arith

-- units that could be brought are those of the pair
raised_is : (t : Bool) (x y : ℤ) → let none : Option ℤ = None in cond t (Some x) none ≡ Some y → (t ≡ true) × (x ≡ y)
raised_is true x y e =
    let held : Option ℤ → ℤ = λ o. option_map_or (λ (z : ℤ). z) o (pos 0) in
    (refl, ap held e)
raised_is false x y e = cc

-- only the number of the lesser scale is brought
pub aligned_first : (a b : Decimal) (x : ℤ) → a.scale ≤ b.scale → unsigned_abs b.units < 10 ^ 38 → raised a.units (b.scale - a.scale) ≡ Some x → spec.aligned a b ≡ Some (x, b.units)
aligned_first a b x h fits e =
    let is = raised_is (is_within 38 (units_at b.scale a)) (units_at b.scale a) x e in
    let of : ℤ → ℤ → Option (ℤ × ℤ) = λ y z. cond (is_within 38 y && is_within 38 z) (Some (y, z)) None in
    let tests : Bool → Bool → Option (ℤ × ℤ) = λ p q. cond (p && q) (Some (units_at b.scale a, b.units)) None in
    ap (λ (s : ℕ). of (units_at s a) (units_at s b)) (omega arith)
    ∙ ap (λ (z : ℤ). of (units_at b.scale a) z) (units_at-same b.scale b refl)
    ∙ ap (λ (p : Bool). tests p (is_within 38 b.units)) is.0
    ∙ ap (λ (q : Bool). tests true q) (is_within_yes 38 b.units fits)
    ∙ ap (λ (y : ℤ). Some (y, b.units)) is.1

pub aligned_second : (a b : Decimal) (y : ℤ) → b.scale ≤ a.scale → unsigned_abs a.units < 10 ^ 38 → raised b.units (a.scale - b.scale) ≡ Some y → spec.aligned a b ≡ Some (a.units, y)
aligned_second a b y h fits e =
    let is = raised_is (is_within 38 (units_at a.scale b)) (units_at a.scale b) y e in
    let of : ℤ → ℤ → Option (ℤ × ℤ) = λ x z. cond (is_within 38 x && is_within 38 z) (Some (x, z)) None in
    let tests : Bool → Bool → Option (ℤ × ℤ) = λ p q. cond (p && q) (Some (a.units, units_at a.scale b)) None in
    ap (λ (s : ℕ). of (units_at s a) (units_at s b)) (omega arith)
    ∙ ap (λ (x : ℤ). of x (units_at a.scale b)) (units_at-same a.scale a refl)
    ∙ ap (λ (p : Bool). tests p (is_within 38 (units_at a.scale b))) (is_within_yes 38 a.units fits)
    ∙ ap (λ (q : Bool). tests true q) is.0
    ∙ ap (λ (z : ℤ). Some (a.units, z)) is.1

-- what has at most p digits is a result
pub within_ok : (p : ℕ) (z : ℤ) (s : ℕ) → unsigned_abs z < 10 ^ p → spec.within p z s ≡ Ok (record { units = z; scale = s })
within_ok p z s fits = ap (λ (t : Bool). cond t (Ok (record { units = z; scale = s })) (Err Overflow)) (is_within_yes p z fits)

-- a result, or Overflow, by units or none
within_option : (t : Bool) (z : ℤ) (s : ℕ) → let of : Option ℤ → Result Decimal DecFault = λ o. option_map_or (λ (z : ℤ). Ok (record { units = z; scale = s })) o (Err Overflow) in cond t (Ok (record { units = z; scale = s })) (Err Overflow) ≡ of (cond t (Some z) None)
within_option true z s = refl
within_option false z s = refl

-- a quotient, or Overflow, by its units or none
pub div_is : (a b : Decimal) (s k : ℕ) (o : Option ℤ) → 0 < unsigned_abs b.units → s ≡ spec.quotient_scale a b → k ≡ s + b.scale - a.scale → signed_quotient a.units k b.units ≡ o → spec.div a b ≡ option_map_or (λ (z : ℤ). Ok (record { units = z; scale = s })) o (Err Overflow)
div_is a b s k o some scale zeros e =
    let units : ℕ → ℤ = λ k. round (moved_sign b.units a.units *ℤ pos (10 ^ k)) (unsigned_abs b.units) in
    let divisor : is_zero b.units ≡ false = grind (arith, nat_tests) in
    let same : spec.quotient_scale a b + b.scale - a.scale ≡ k = omega arith in
    ap (λ (t : Bool). cond t (Err DivideByZero) (spec.within 38 (units (spec.quotient_scale a b + b.scale - a.scale)) (spec.quotient_scale a b))) divisor
    ∙ ap (λ (k : ℕ). spec.within 38 (units k) (spec.quotient_scale a b)) same
    ∙ ap (λ (s : ℕ). spec.within 38 (units k) s) (sym scale)
    ∙ within_option (is_within 38 (units k)) (units k) s
    ∙ ap (λ (o : Option ℤ). option_map_or (λ (z : ℤ). Ok (record { units = z; scale = s })) o (Err Overflow)) e
