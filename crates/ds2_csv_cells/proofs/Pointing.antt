-- The digits of a number, with a point before the last of them.
use Rattle.std.proofs.Common.{◌≡◌, ◌⊎◌, inl, inr, ℕ, zero, suc, ◌+◌, ◌-◌, ◌/◌, ◌%◌, ◌^◌, ◌<◌, ◌≤◌, ◌==◌, false, List, [], ◌∷◌, ◌++◌, length, take, drop, refl, sym, ap, ◌∙◌, arith, length-append, append_assoc}
use Rattle.std.specs.Prelude.{if◌then◌else◌}
use Rattle.std.specs.Fmt.{decimal}
use Rattle.std.proofs.Math.Nat.{pow-zero, pow-succ', div-one, div-div-eq-div-mul, div-le_self}
use Rattle.std.proofs.Math.Seq.{take-append_seam, drop-append_seam}
use Rattle.std.proofs.lemmas.Bool.{cases_lt}
use Rattle.std.proofs.lemmas.Fmt.{decimal_digit, decimal_step_wide}
use Rattle.std.proofs.lemmas.List.{append-nil}
use Rattle.ds2_decimal.specs.Text.{last_digits, written_magnitude}
use Rattle.ds2_csv_cells.specs.Pointed.{with_point}

length-last : (k n : ℕ) → length (last_digits k n) ≡ k
length-last zero n = refl
length-last (suc k) n = length-append (last_digits k (n / 10)) ((48 + n % 10) ∷ []) ∙ omega (arith, length-last k (n / 10))

-- a number of more than s digits has those of n / 10 ^ s, and then the last s
digits-cut : (s n : ℕ) → n < 10 ^ 64 → s < length (decimal n) → decimal n ≡ decimal (n / 10 ^ s) ++ last_digits s n
digits-cut zero n small long =
    let one : n / 10 ^ 0 ≡ n = ap (λ (k : ℕ). n / k) (pow-zero 10) ∙ div-one n in
    sym (append-nil (decimal (n / 10 ^ 0)) ∙ ap decimal one)
digits-cut (suc s) n small long = by (cases_lt n 10) (λ a b. digits-cut s (n / 10) a b)
  where
    by : (n < 10) ⊎ (10 ≤ n) → (n / 10 < 10 ^ 64 → s < length (decimal (n / 10)) → decimal (n / 10) ≡ decimal (n / 10 / 10 ^ s) ++ last_digits s (n / 10)) → decimal n ≡ decimal (n / 10 ^ suc s) ++ last_digits (suc s) n
    by (inl few) shorter = let one : length (decimal n) ≡ 1 = ap (λ (t : List ℕ). length t) (decimal_digit n few) in absurd (omega arith)
    by (inr many) shorter =
        let step = decimal_step_wide n many small in
        let less : n / 10 ≤ n = div-le_self n 10 in
        let wide : length (decimal n) ≡ length (decimal (n / 10)) + 1 = ap (λ (t : List ℕ). length t) step ∙ length-append (decimal (n / 10)) ((48 + n % 10) ∷ []) in
        let more = shorter (omega arith) (omega arith) in
        let whole : n / 10 / 10 ^ s ≡ n / 10 ^ suc s = div-div-eq-div-mul n 10 (10 ^ s) ∙ ap (λ (k : ℕ). n / k) (sym (pow-succ' 10 s)) in
        step ∙ ap (λ (t : List ℕ). t ++ ((48 + n % 10) ∷ [])) more
        ∙ append_assoc (decimal (n / 10 / 10 ^ s)) (last_digits s (n / 10)) ((48 + n % 10) ∷ [])
        ∙ ap (λ (k : ℕ). decimal k ++ last_digits (suc s) n) whole

with_point-seam : (xs ys : List ℕ) (s : ℕ) → length ys ≡ s → with_point s (xs ++ ys) ≡ xs ++ (46 ∷ ys)
with_point-seam xs ys s e =
    let k : length (xs ++ ys) - s ≡ length xs = omega (arith, length-append xs ys, e) in
    ap (λ (n : ℕ). take n (xs ++ ys) ++ (46 ∷ drop n (xs ++ ys))) k
    ∙ ap (λ (t : List ℕ). t ++ (46 ∷ drop (length xs) (xs ++ ys))) (take-append_seam xs ys)
    ∙ ap (λ (t : List ℕ). xs ++ (46 ∷ t)) (drop-append_seam xs ys)

pub magnitude-pointed : (old new digits : List ℕ) (n s : ℕ) → n < 10 ^ 64 → (s == 0) ≡ false → digits ≡ decimal n → s < length digits → new ≡ old ++ with_point s digits → new ≡ old ++ written_magnitude n s
magnitude-pointed old new digits n s small some is long e =
    let enough : s < length (decimal n) = let same = ap (λ (t : List ℕ). length t) is in omega arith in
    let parts : digits ≡ decimal (n / 10 ^ s) ++ last_digits s n = is ∙ digits-cut s n small enough in
    e ∙ ap (λ (t : List ℕ). old ++ with_point s t) parts ∙ ap (λ (t : List ℕ). old ++ t) (with_point-seam (decimal (n / 10 ^ s)) (last_digits s n) s (length-last s n))
    ∙ ap (λ b. old ++ (if b then decimal n else decimal (n / 10 ^ s) ++ (46 ∷ last_digits s n))) (sym some)
