-- The size that digits spell.
use Rattle.std.proofs.Common.{◌≡◌, ℕ, ◌+◌, ◌-◌, ◌*◌, ◌^◌, ◌<◌, ◌≤◌, Bool, true, false, List, [], ◌∷◌, Some, None, length, get_or, refl, sym, ap, ◌∙◌, arith}
use Rattle.std.specs.Prelude.{◌&&◌, nat_le, if◌then◌else◌}
use Rattle.std.specs.Char.{is_ascii_digit}
use Rattle.std.specs.Str.{all_ascii_digits}
use Rattle.std.proofs.lemmas.Bool.Decides.{nat_tests}
use Rattle.ds2_csv_cells.specs.Number.{begins_well, number_from, size_of}

-- more digits make no smaller number
pub number_from-le : (n : ℕ) (ds : List ℕ) → n ≤ number_from n ds
number_from-le n [] = omega arith
number_from-le n (c ∷ cs) = omega (arith, number_from-le (n * 10 + (c - 48)) cs)

pub no_size_start : (ds : List ℕ) → begins_well ds ≡ false → size_of ds ≡ None
unfolding size_of
no_size_start ds e = rw e refl

pub no_size_letter : (ds : List ℕ) → all_ascii_digits ds ≡ false → size_of ds ≡ None
unfolding size_of
no_size_letter ds e = by (begins_well ds)
  where
    by : (b : Bool) → (if b && all_ascii_digits ds && nat_le (number_from 0 ds) (2 ^ 63) then Some (number_from 0 ds) else None) ≡ None
    by true = rw e refl
    by false = refl

pub no_size_large : (ds : List ℕ) → 2 ^ 63 < number_from 0 ds → size_of ds ≡ None
unfolding size_of
no_size_large ds h = by (begins_well ds && all_ascii_digits ds) (number_from 0 ds) h
  where
    by : (b : Bool) (n : ℕ) → 2 ^ 63 < n → (if b && nat_le n (2 ^ 63) then Some n else None) ≡ None
    by b n l = grind (arith, nat_tests)

pub size_is : (ds : List ℕ) → begins_well ds ≡ true → all_ascii_digits ds ≡ true → number_from 0 ds ≤ 2 ^ 63 → size_of ds ≡ Some (number_from 0 ds)
unfolding size_of
size_is ds a b h = rw (a, b) (by (number_from 0 ds) h)
  where
    by : (n : ℕ) → n ≤ 2 ^ 63 → (if nat_le n (2 ^ 63) then Some n else None) ≡ Some n
    by n l = grind (arith, nat_tests)

-- a byte that is no digit
pub size_stopped : (ds rest : List ℕ) → all_ascii_digits rest ≡ all_ascii_digits ds → 1 ≤ length rest → is_ascii_digit (get_or rest 0 0) ≡ false → None ≡ size_of ds
size_stopped ds [] same some e = absurd (omega arith)
size_stopped ds (c ∷ cs) same some e = sym (no_size_letter ds (sym same ∙ ap (λ b. b && all_ascii_digits cs) e))

-- a digit too many
pub size_passed : (ds rest : List ℕ) (n : ℕ) → number_from n rest ≡ number_from 0 ds → 1 ≤ length rest → 922337203685477580 < n → None ≡ size_of ds
size_passed ds [] n same some large = absurd (omega arith)
size_passed ds (c ∷ cs) n same some large = sym (no_size_large ds (omega (arith, same, number_from-le (n * 10 + (c - 48)) cs)))

-- the last digit
pub size_ended : (ds rest : List ℕ) (n : ℕ) → begins_well ds ≡ true → all_ascii_digits rest ≡ all_ascii_digits ds → number_from n rest ≡ number_from 0 ds → length rest < 1 → n ≤ 2 ^ 63 → Some n ≡ size_of ds
size_ended ds [] n well same number none fits = ap (λ m. Some m) number ∙ sym (size_is ds well (sym same) (omega arith))
size_ended ds (c ∷ cs) n well same number none fits = absurd (omega arith)

pub size_large : (ds rest : List ℕ) (n : ℕ) → number_from n rest ≡ number_from 0 ds → length rest < 1 → 2 ^ 63 < n → None ≡ size_of ds
size_large ds [] n number none large = sym (no_size_large ds (omega arith))
size_large ds (c ∷ cs) n number none large = absurd (omega arith)
