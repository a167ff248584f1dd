-- The digits of a number spell it.
use Rattle.std.proofs.Common.{◌≡◌, ◌+◌, ◌*◌, ◌-◌, ◌/◌, ◌%◌, ◌^◌, ◌<◌, ◌≤◌, ℕ, Bool, true, false, List, [], ◌∷◌, ◌++◌, length, refl, ap, ◌∙◌, arith, length-append}
use Rattle.std.specs.Prelude.{◌&&◌, ◌==◌, not, nat_lt, slice_index, Some, None, if◌then◌else◌}
use Rattle.std.specs.Char.{is_ascii_digit, to_ascii_lowercase}
use Rattle.std.specs.Fmt.{decimal}
use Rattle.std.specs.List.{list_all, list_any}
use Rattle.std.specs.Prelude.{map}
use Rattle.std.specs.Str.{all_ascii_digits}
use Rattle.std.proofs.lemmas.Bool.{and_from, and_parts, or_from}
use Rattle.std.proofs.lemmas.Bool.Decides.{nat_tests}
use Rattle.std.proofs.lemmas.Fmt.{decimal_by_steps_wide}
use Rattle.ds2_csv_cells.specs.Spelling.{number_of}
use Rattle.ds2_csv_cells.specs.Number.{begins_well, number_from}

digits-append : (xs ys : List ℕ) → all_ascii_digits xs ≡ true → all_ascii_digits ys ≡ true → all_ascii_digits (xs ++ ys) ≡ true
digits-append [] ys e f = f
digits-append (x ∷ xs) ys e f =
    let p = and_parts (is_ascii_digit x) (all_ascii_digits xs) e in
    and_from (is_ascii_digit x) (all_ascii_digits (xs ++ ys)) p.0 (digits-append xs ys p.1 f)

number-append : (n : ℕ) (xs ys : List ℕ) → number_from n (xs ++ ys) ≡ number_from (number_from n xs) ys
number-append n [] ys = refl
number-append n (x ∷ xs) ys = number-append (n * 10 + (x - 48)) xs ys

-- digits of a number, the first of which is 0 only where it is the only one
pub record Spells (n : ℕ) (ds : List ℕ) : Type 0 where
  pub some : 0 < length ds
  pub digits : all_ascii_digits ds ≡ true
  pub number : number_from 0 ds ≡ n
  pub first : 0 < n → (slice_index ds 0 == 48) ≡ false
  pub well : begins_well ds ≡ true

a-digit : (d : ℕ) → d < 10 → is_ascii_digit (48 + d) ≡ true
a-digit d h = grind (arith, nat_tests)

not-zero : (d : ℕ) → 0 < d → ((48 + d) == 48) ≡ false
not-zero d h = grind (arith, nat_tests)

begins : (k : ℕ) (b : Bool) → 0 < k → b ≡ false → (nat_lt 0 k && not (nat_lt 1 k && b)) ≡ true
begins k true h e = cc e
begins k false h e = grind (arith, nat_tests)

one : (n : ℕ) → n < 10 → Spells n ((48 + n) ∷ [])
one n h = record {
  some = omega arith;
  digits = and_from (is_ascii_digit (48 + n)) true (a-digit n h) refl;
  number = omega arith;
  first = λ some. not-zero n some;
  well = refl;
}

first-same : (ds : List ℕ) (c : ℕ) → 0 < length ds → slice_index (ds ++ (c ∷ [])) 0 ≡ slice_index ds 0
first-same [] c h = absurd (omega arith)
first-same (d ∷ ds) c h = refl

more : (n : ℕ) (ds : List ℕ) → 10 ≤ n → Spells (n / 10) ds → Spells n (ds ++ ((48 + n % 10) ∷ []))
more n ds h is =
    let c : ℕ = 48 + n % 10 in
    let long = length-append ds (c ∷ []) in
    let lead : (slice_index (ds ++ (c ∷ [])) 0 == 48) ≡ false = ap (λ k. k == 48) (first-same ds c is.some) ∙ is.first (omega arith) in
    record {
      some = omega arith;
      digits = digits-append ds (c ∷ []) is.digits (and_from (is_ascii_digit c) true (a-digit (n % 10) (omega arith)) refl);
      number = number-append 0 ds (c ∷ []) ∙ ap (λ k. k * 10 + (c - 48)) is.number ∙ omega arith;
      first = λ some. lead;
      well = begins (length (ds ++ (c ∷ []))) (slice_index (ds ++ (c ∷ [])) 0 == 48) (omega arith) lead;
    }

pub spells : (n : ℕ) → n < 10 ^ 64 → Spells n (decimal n)
spells n h = decimal_by_steps_wide Spells one more n h

pub number-is : (n : ℕ) → n < 10 ^ 64 → number_of (decimal n) ≡ Some n
number-is n h =
    let is = spells n h in
    by (nat_lt 0 (length (decimal n))) (all_ascii_digits (decimal n)) (number_from 0 (decimal n)) (long (length (decimal n)) is.some) is.digits is.number
  where
    long : (k : ℕ) → 0 < k → nat_lt 0 k ≡ true
    long k l = grind (arith, nat_tests)

    by : (a b : Bool) (k : ℕ) → a ≡ true → b ≡ true → k ≡ n → (if a && b then Some k else None) ≡ Some n
    by true true k e f g = ap (λ (m : ℕ). Some m) g
    by true false k e f g = cc f
    by false b k e f g = cc e

-- digits are none of the other bytes
pub no-digit : (test : ℕ → Bool) (ds : List ℕ) → ((d : ℕ) → is_ascii_digit d ≡ true → test d ≡ false) → all_ascii_digits ds ≡ true → list_any test ds ≡ false
no-digit test [] other e = refl
no-digit test (d ∷ ds) other e =
    let p = and_parts (is_ascii_digit d) (all_ascii_digits ds) e in
    or_from (test d) (list_any test ds) (other d p.0) (no-digit test ds other p.1)

lower-digit : (d : ℕ) → is_ascii_digit d ≡ true → to_ascii_lowercase d ≡ d
lower-digit d e = grind (arith, nat_tests)

pub lower-digits : (ds : List ℕ) → all_ascii_digits ds ≡ true → map to_ascii_lowercase ds ≡ ds
lower-digits [] e = refl
lower-digits (d ∷ ds) e =
    let p = and_parts (is_ascii_digit d) (all_ascii_digits ds) e in
    rw (lower-digit d p.0, lower-digits ds p.1) refl

small-digit : (d : ℕ) → is_ascii_digit d ≡ true → nat_lt d 128 ≡ true
small-digit d e = grind (arith, nat_tests)

pub ascii-digits : (ds : List ℕ) → all_ascii_digits ds ≡ true → list_all (λ c. nat_lt c 128) ds ≡ true
ascii-digits [] e = refl
ascii-digits (d ∷ ds) e =
    let p = and_parts (is_ascii_digit d) (all_ascii_digits ds) e in
    and_from (nat_lt d 128) (list_all (λ c. nat_lt c 128) ds) (small-digit d p.0) (ascii-digits ds p.1)
