-- Digits with the fewest after the point.
use Rattle.std.proofs.Common.{◌≡◌, ◌≢◌, ◌≤◌, ◌<◌, ◌+◌, ◌-◌, ◌*◌, ◌/◌, ◌%◌, ◌^◌, ℕ, zero, suc, ℤ, pos, negsuc, ◌*ℤ◌, unsigned_abs, false, refl, sym, ap, ◌∙◌, arith}
use Rattle.std.proofs.lemmas.Bool.{ne_eqb}
use Rattle.std.proofs.lemmas.Bool.Decides.{nat_tests}
use Rattle.std.proofs.Math.Nat.{pow-suc, mul_assoc, one-le-pow}
use Rattle.std.specs.Int.{is_negative}
use Rattle.ds2_decimal.specs.Decimal.{Decimal, value}
use Rattle.ds2_value.specs.Hashing.{lowest, digits_of}
use Rattle.ds2_value.proofs.IntegerLemmas.{neg_pos}

pub lowest-step : (m s : ℕ) → m % 10 ≡ 0 → lowest m (suc s) ≡ lowest (m / 10) s
unfolding lowest
lowest-step m s h = rw h refl

pub lowest-stop : (m s : ℕ) → m % 10 ≢ 0 → lowest m s ≡ (m, s)
unfolding lowest
lowest-stop m zero h = refl
lowest-stop m (suc s) h = rw (ne_eqb (m % 10) 0 h) refl

pub lowest-zero : (m : ℕ) → lowest m 0 ≡ (m, 0)
unfolding lowest
lowest-zero m = refl

pred-of : (k : ℕ) → suc k - 1 ≡ k
pred-of k = omega arith

pub lowest-less : (m s : ℕ) → 0 < s → m % 10 ≡ 0 → lowest (m / 10) (s - 1) ≡ lowest m s
lowest-less m zero p h = absurd (omega arith)
lowest-less m (suc s) p h = rw (pred-of s) (sym (lowest-step m s h))

pub lowest-none : (m s : ℕ) → s ≤ 0 → lowest m s ≡ (m, s)
lowest-none m zero p = lowest-zero m
lowest-none m (suc s) p = absurd (omega arith)

-- ten times as much over ten times as much
scaled-once : (x n : ℕ) → lowest (x * 10) (suc n) ≡ lowest x n
scaled-once x n =
    let z : (x * 10) % 10 ≡ 0 = omega arith in
    let d : (x * 10) / 10 ≡ x = omega arith in
    lowest-step (x * 10) n z ∙ rw d refl

lowest-scaled : (m s k : ℕ) → lowest (m * 10 ^ k) (s + k) ≡ lowest m s
lowest-scaled m s zero =
    let a : m * 1 ≡ m = omega arith in
    let b : s + 0 ≡ s = omega arith in
    rw (a, b) refl
lowest-scaled m s (suc k) =
    let a : m * 10 ^ suc k ≡ (m * 10 ^ k) * 10 = rw (pow-suc 10 k) (sym (mul_assoc m (10 ^ k) 10)) in
    let b : s + suc k ≡ suc (s + k) = omega arith in
    rw (a, b) (scaled-once (m * 10 ^ k) (s + k) ∙ lowest-scaled m s k)

never : (n : ℕ) → is_negative (pos n) ≡ false
never n = grind (arith, nat_tests)

-- sign and magnitude of a multiple
negative-times : (z : ℤ) (k : ℕ) → 0 < k → is_negative (z *ℤ pos k) ≡ is_negative z
negative-times (pos a) k h = never (a * k) ∙ sym (never a)
negative-times (negsuc a) k h = let some : 0 < suc a * k = omega arith in ap is_negative (neg_pos (suc a * k) some)

pub abs-times : (z : ℤ) (k : ℕ) → 0 < k → unsigned_abs (z *ℤ pos k) ≡ unsigned_abs z * k
abs-times (pos a) k h = refl
abs-times (negsuc a) k h = let some : 0 < suc a * k = omega arith in ap unsigned_abs (neg_pos (suc a * k) some) ∙ omega arith

-- the digits of a decimal are those of its units
pub digits-dec : (d : Decimal) → d.scale ≤ 38 → digits_of (value d) ≡ (is_negative d.units, (lowest (unsigned_abs d.units) d.scale).0, (lowest (unsigned_abs d.units) d.scale).1)
digits-dec d h =
    let some : 0 < 10 ^ (38 - d.scale) = one-le-pow (38 - d.scale) 10 (omega arith) in
    let all : 38 ≡ d.scale + (38 - d.scale) = omega arith in
    let low : lowest (unsigned_abs (value d)) 38 ≡ lowest (unsigned_abs d.units) d.scale =
    ap (λ (m : ℕ). lowest m 38) (abs-times d.units (10 ^ (38 - d.scale)) some)
    ∙ ap (lowest (unsigned_abs d.units * 10 ^ (38 - d.scale))) all
    ∙ lowest-scaled (unsigned_abs d.units) d.scale (38 - d.scale)
    in
    rw (negative-times d.units (10 ^ (38 - d.scale)) some, low) refl

pub digits-int : (i : ℤ) → digits_of (value (record { units = i; scale = 0 })) ≡ (is_negative i, unsigned_abs i, 0)
digits-int i = digits-dec (record { units = i; scale = 0 }) (omega arith) ∙ rw (lowest-zero (unsigned_abs i)) refl

pub ruleset digit_forms = (digits-int, digits-dec)
