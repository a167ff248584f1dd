-- Facts on products and comparisons of whole numbers with a sign.
use Rattle.std.proofs.Common.{◌≡◌, ℕ, zero, suc, ◌-◌, ◌*◌, ◌<◌, ℤ, pos, negsuc, neg_ℤ, ◌*ℤ◌, unsigned_abs, true, ltb, refl, sym, ap, ◌∙◌, arith}
use Rattle.std.proofs.Math.Nat.{mul-lt-mul_of_pos_right, lt_of_mul-lt-mul_right}
use Rattle.std.proofs.Math.IntN.{neg_ℤ-neg_ℤ}
use Rattle.std.proofs.lemmas.Bool.Decides.{nat_tests}
use Rattle.std.specs.Prelude.{int_lt}
use Rattle.std.specs.Ordering.{int_cmp, ordering_reverse}

pub neg_pos : (m : ℕ) → 0 < m → neg_ℤ (pos m) ≡ negsuc (m - 1)
neg_pos zero h = absurd (omega arith)
neg_pos (suc m) h = ap (λ (n : ℕ). negsuc n) (omega arith)

pub unsigned_abs-neg : (z : ℤ) → unsigned_abs (neg_ℤ z) ≡ unsigned_abs z
unsigned_abs-neg (pos zero) = refl
unsigned_abs-neg (pos (suc n)) = refl
unsigned_abs-neg (negsuc n) = refl

pub times_one : (z : ℤ) → z *ℤ pos 1 ≡ z
times_one (pos n) = ap (λ (m : ℕ). pos m) (omega arith)
times_one (negsuc n) = neg_pos (suc n * 1) (omega arith) ∙ ap (λ (m : ℕ). negsuc m) (omega arith)

pub times-neg : (z : ℤ) (n : ℕ) → neg_ℤ z *ℤ pos n ≡ neg_ℤ (z *ℤ pos n)
times-neg (pos zero) n =
    let none : 0 * n ≡ 0 = omega arith in
    ap (λ (k : ℕ). pos k) none ∙ sym (ap (λ (k : ℕ). neg_ℤ (pos k)) none)
times-neg (pos (suc m)) n = refl
times-neg (negsuc m) n = sym (neg_ℤ-neg_ℤ (pos (suc m * n)))

-- one factor after another
pub times_twice : (z : ℤ) (m n : ℕ) → z *ℤ pos m *ℤ pos n ≡ z *ℤ pos (m * n)
times_twice (pos a) m n = ap (λ (k : ℕ). pos k) (omega arith)
times_twice (negsuc a) m n = times-neg (pos (suc a * m)) n ∙ ap (λ (k : ℕ). neg_ℤ (pos k)) (omega arith)

same_test : (a b c d : ℕ) → (a < b → c < d) → (c < d → a < b) → ltb a b ≡ ltb c d
same_test a b c d h k = grind (arith, nat_tests)

times_below : (a b n : ℕ) → 0 < n → a < b → a * n < b * n
times_below a b n h k = mul-lt-mul_of_pos_right k h

pub int_lt-times : (x y : ℤ) (n : ℕ) → 0 < n → int_lt (x *ℤ pos n) (y *ℤ pos n) ≡ int_lt x y
int_lt-times (pos a) (pos b) n h = same_test (a * n) (b * n) a b (lt_of_mul-lt-mul_right n) (times_below a b n h)
int_lt-times (pos a) (negsuc b) n h =
    let some : 0 < suc b * n = omega arith in
    ap (λ (z : ℤ). int_lt (pos (a * n)) z) (neg_pos (suc b * n) some)
int_lt-times (negsuc a) (pos b) n h =
    let some : 0 < suc a * n = omega arith in
    ap (λ (z : ℤ). int_lt z (pos (b * n))) (neg_pos (suc a * n) some)
int_lt-times (negsuc a) (negsuc b) n h =
    let left : 0 < suc a * n = omega arith in
    let right : 0 < suc b * n = omega arith in
    let below : suc b * n - 1 < suc a * n - 1 → b < a = λ k. let l : suc b < suc a = lt_of_mul-lt-mul_right n (omega arith) in omega arith in
    let above : b < a → suc b * n - 1 < suc a * n - 1 = λ k. let l : suc b * n < suc a * n = times_below (suc b) (suc a) n h (omega arith) in omega arith in
    ap (λ (z : ℤ). int_lt z (neg_ℤ (pos (suc b * n)))) (neg_pos (suc a * n) left)
    ∙ ap (λ (z : ℤ). int_lt (negsuc (suc a * n - 1)) z) (neg_pos (suc b * n) right)
    ∙ same_test (suc b * n - 1) (suc a * n - 1) b a below above

pub int_cmp-times : (x y : ℤ) (n : ℕ) → 0 < n → int_cmp (x *ℤ pos n) (y *ℤ pos n) ≡ int_cmp x y
int_cmp-times x y n h = rw (int_lt-times x y n h, int_lt-times y x n h) refl

lt_once : (a b : ℕ) → ltb a b ≡ true → ltb b a ≡ true → ⊥
lt_once a b h k = grind (arith, nat_tests)

int_lt_once : (x y : ℤ) → int_lt x y ≡ true → int_lt y x ≡ true → ⊥
int_lt_once (pos a) (pos b) h k = lt_once a b h k
int_lt_once (pos a) (negsuc b) h k = cc
int_lt_once (negsuc a) (pos b) h k = cc
int_lt_once (negsuc a) (negsuc b) h k = lt_once b a h k

pub int_cmp_turned : (x y : ℤ) → ordering_reverse (int_cmp y x) ≡ int_cmp x y
int_cmp_turned x y = let once = int_lt_once x y in grind arith
