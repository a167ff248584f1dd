-- Numbers in the spelling of a type.
use Rattle.std.proofs.Common.{◌≡◌, ◌≤◌, ◌<◌, ◌+◌, ◌*◌, ◌⊎◌, inl, inr, ℕ, Bool, true, false, List, [], ◌∷◌, ◌-◌, Some, None, length, get_or, refl, sym, ap, ◌∙◌, arith}
use Rattle.std.specs.Prelude.{if◌then◌else◌, ◌&&◌, min, nat_lt, option_map}
use Rattle.std.specs.Char.{is_ascii_digit}
use Rattle.std.specs.Str.{all_ascii_digits}
use Rattle.std.proofs.lemmas.Bool.{cases_lt}
use Rattle.std.proofs.lemmas.Bool.Decides.{nat_tests}
use Rattle.ds2_csv_cells.specs.Spelling.{number_of}
use Rattle.ds2_csv_cells.specs.Number.{number_from}
use Rattle.ds2_csv_cells.proofs.NumberLemmas.{number_from-le}
use Rattle.ds2_csv_cells.proofs.Front.{after, after_cons}

-- a number above a bound stays there whatever digits follow
capped : (b n : ℕ) (ds : List ℕ) → min (number_from (min n b) ds) b ≡ min (number_from n ds) b
capped b n ds = by (cases_lt n b)
  where
    by : (n < b) ⊎ (b ≤ n) → min (number_from (min n b) ds) b ≡ min (number_from n ds) b
    by (inl h) = let e : min n b ≡ n = omega arith in ap (λ k. min (number_from k ds) b) e
    by (inr h) =
        let e : min n b ≡ b = omega arith in
        let f : min (number_from b ds) b ≡ b = let l = number_from-le b ds in omega arith in
        let g : min (number_from n ds) b ≡ b = let l = number_from-le n ds in omega arith in
        ap (λ k. min (number_from k ds) b) e ∙ f ∙ sym g

-- one more digit
pub number-took : (b n m : ℕ) (rest whole : List ℕ) → 1 ≤ length rest → m ≡ min (n * 10 + (get_or rest 0 0 - 48)) b
    → min (number_from n rest) b ≡ min (number_from 0 whole) b → min (number_from m (after rest)) b ≡ min (number_from 0 whole) b
number-took b n m [] whole some is before = absurd (omega arith)
number-took b n m (c ∷ cs) whole some is before =
    ap (λ (t : List ℕ). min (number_from m t) b) (after_cons c cs) ∙ ap (λ k. min (number_from k cs) b) is ∙ capped b (n * 10 + (c - 48)) cs ∙ before

pub digits-took : (rest whole : List ℕ) → 1 ≤ length rest → is_ascii_digit (get_or rest 0 0) ≡ true → all_ascii_digits rest ≡ all_ascii_digits whole → all_ascii_digits (after rest) ≡ all_ascii_digits whole
digits-took [] whole some digit before = absurd (omega arith)
digits-took (c ∷ cs) whole some digit before = ap (λ (t : List ℕ). all_ascii_digits t) (after_cons c cs) ∙ ap (λ b. b && all_ascii_digits cs) (sym digit) ∙ before

not-number : (some : Bool) (whole : List ℕ) (cap : ℕ → ℕ) (digits : Bool) → digits ≡ false → None ≡ option_map cap (if some && digits then Some (number_from 0 whole) else None)
not-number some whole cap true e = cc e
not-number true whole cap false e = refl
not-number false whole cap false e = refl

-- a byte that is no digit
pub number-stopped : (cap : ℕ → ℕ) (rest whole : List ℕ) → 1 ≤ length rest → is_ascii_digit (get_or rest 0 0) ≡ false → all_ascii_digits rest ≡ all_ascii_digits whole → None ≡ option_map cap (number_of whole)
number-stopped cap [] whole some letter before = absurd (omega arith)
number-stopped cap (c ∷ cs) whole some letter before =
    not-number (nat_lt 0 (length whole)) whole cap (all_ascii_digits whole) (sym before ∙ ap (λ b. b && all_ascii_digits cs) letter)

a-number : (some digits : Bool) (whole : List ℕ) (cap : ℕ → ℕ) → some ≡ true → digits ≡ true → Some (cap (number_from 0 whole)) ≡ option_map cap (if some && digits then Some (number_from 0 whole) else None)
a-number true true whole cap e f = refl
a-number true false whole cap e f = cc f
a-number false digits whole cap e f = cc e

-- the last digit
pub number-ended : (b n : ℕ) (rest whole : List ℕ) → n ≤ b → 0 < length whole → length rest < 1 → min (number_from n rest) b ≡ min (number_from 0 whole) b
    → all_ascii_digits rest ≡ all_ascii_digits whole → Some n ≡ option_map (λ m. min m b) (number_of whole)
number-ended b n (c ∷ cs) whole small some none number digits = absurd (omega arith)
number-ended b n [] whole small some none number digits =
    let e : n ≡ min (number_from 0 whole) b = let f : n ≡ min n b = omega arith in f ∙ number in
    ap (λ (k : ℕ). Some k) e ∙ a-number (nat_lt 0 (length whole)) (all_ascii_digits whole) whole (λ m. min m b) (long (length whole) some) (sym digits)
  where
    long : (k : ℕ) → 0 < k → nat_lt 0 k ≡ true
    long k h = grind (arith, nat_tests)
