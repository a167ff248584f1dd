-- The table of powers of ten.
use Rattle.std.proofs.Common.{◌≡◌, ℕ, zero, suc, ◌-◌, ◌*◌, ◌^◌, ◌<◌, ◌≤◌, List, [], ◌∷◌, get_or, sym, ap, subst, ◌∙◌, arith}
use Rattle.std.proofs.Math.Nat.{pow-zero, pow-succ', pow-le-pow_right}
use Rattle.std.proofs.lemmas.Nat.{pow-add}

-- n powers of ten, the first of them p
abbrev pub tens_from : ℕ → ℕ → List ℕ
tens_from zero p = []
tens_from (suc n) p = p ∷ tens_from n (p * 10)

pub get_or-tens_from : (n p k : ℕ) → k < n → get_or (tens_from n p) k 0 ≡ p * 10 ^ k
get_or-tens_from zero p k h = absurd (omega arith)
get_or-tens_from (suc n) p zero h = omega (arith, pow-zero 10)
get_or-tens_from (suc n) p (suc k) h =
    let below : k < n = omega arith in
    let later : get_or (tens_from n (p * 10)) k 0 ≡ p * 10 * 10 ^ k = get_or-tens_from n (p * 10) k below in
    let next = ap (λ (x : ℕ). p * x) (pow-succ' 10 k) in
    later ∙ omega (arith, next)

pub pow-ten_pos : (k : ℕ) → 0 < 10 ^ k
pow-ten_pos zero = omega (arith, pow-zero 10)
pow-ten_pos (suc k) = omega (arith, pow-succ' 10 k, pow-ten_pos k)

pub pow-ten_le : (i j : ℕ) → i ≤ j → 10 ^ i ≤ 10 ^ j
pow-ten_le i j h = pow-le-pow_right (omega arith) h

-- the zeros that k digits leave of n
pub pow-ten_split : (n k : ℕ) → k ≤ n → 10 ^ (n - k) * 10 ^ k ≡ 10 ^ n
pow-ten_split n k h = sym (pow-add 10 (n - k) k) ∙ ap (λ (i : ℕ). 10 ^ i) (omega arith)

-- the table of the powers up to 10 ^ 38
abbrev pub table : List ℕ
table = tens_from 39 1

pub get_or-table : (k : ℕ) → k ≤ 38 → get_or table k 0 ≡ 10 ^ k
get_or-table k h = get_or-tens_from 39 1 k (omega arith) ∙ omega arith

pub get_or-table_pos : (k : ℕ) → k ≤ 38 → 0 < get_or table k 0
get_or-table_pos k h = let P : ℕ → Type 0 = λ n. 0 < n in subst P (sym (get_or-table k h)) (pow-ten_pos k)

pub get_or-table_le : (k : ℕ) → k ≤ 38 → get_or table k 0 ≤ 10 ^ 38
get_or-table_le k h = let P : ℕ → Type 0 = λ n. n ≤ 10 ^ 38 in subst P (sym (get_or-table k h)) (pow-ten_le k 38 h)
