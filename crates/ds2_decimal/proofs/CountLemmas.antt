-- The number of a number's digits.
use Rattle.std.proofs.Common.{◌≡◌, ℕ, ◌+◌, ◌/◌, ◌%◌, ◌^◌, ◌<◌, ◌≤◌, ◌⊎◌, inl, inr, [], ◌∷◌, length, ap, ◌∙◌, arith, length-append}
use Rattle.std.specs.Fmt.{decimal}
use Rattle.std.proofs.lemmas.Bool.{cases_lt}
use Rattle.std.proofs.lemmas.Fmt.{decimal_digit, decimal_step_wide, length-decimal-le_wide}

-- one digit less without the last one
pub one-more : (n : ℕ) → 10 ≤ n → n < 10 ^ 38 → length (decimal n) ≡ length (decimal (n / 10)) + 1
one-more n h small = ap length (decimal_step_wide n h (omega arith)) ∙ length-append (decimal (n / 10)) ((48 + n % 10) ∷ [])

pub only-one : (n : ℕ) → n < 10 → length (decimal n) ≡ 1
only-one n h = ap length (decimal_digit n h)

pub at-most : (n : ℕ) → n < 10 ^ 38 → length (decimal n) ≤ 38
at-most n h = length-decimal-le_wide 38 n (omega arith) h (omega arith)

pub some-digits : (n : ℕ) → n < 10 ^ 38 → 1 ≤ length (decimal n)
some-digits n small = by (cases_lt n 10)
  where
    by : (n < 10) ⊎ (10 ≤ n) → 1 ≤ length (decimal n)
    by (inl low) = let one = only-one n low in omega (arith, one)
    by (inr high) = let more = one-more n high small in omega (arith, more)
