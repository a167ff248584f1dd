-- Numbers that a word writes, and what `parse` makes of them.
use Rattle.std.proofs.Common.{◌≡◌, ◌+◌, ◌-◌, ◌*◌, ◌<◌, ◌≤◌, ◌^◌, ◌==◌, ◌&&◌, not, nat_lt, nat_le, ℕ, Bool, true, false, cond, List, [], ◌∷◌, length, get_or, IfSome, Option, Some, None, Ok, Err, refl, sym, subst, arith, rules}
use Rattle.std.specs.Char.{is_ascii_digit}
use Rattle.std.specs.List.{list_all}
use Rattle.std.specs.Str.Parse.{ParsesUnsigned}
use Rattle.std.proofs.lemmas.Bool.Decides.{nat_tests}
use Rattle.std.proofs.lemmas.Str.Parse.{IsNumeralModel, numerals_by_fold, parse_digits}
use Rattle.ds2_answer.specs.Words.{is_number, decimal_from, number_within}

-- digits and their number are those of std
digits : IsNumeralModel (λ ds. list_all is_ascii_digit ds ≡ true) (decimal_from 0)
digits = numerals_by_fold _ (search rules) decimal_from (search rules)

picked : (b c : Bool) (v : ℕ) → b ≡ true → c ≡ true → Some v ≡ cond (b && c) (Some v) None
picked true true v p q = refl
picked true false v p q = absurd (cc)
picked false c v p q = absurd (cc)

missed : (b c : Bool) (v : ℕ) → c ≡ false → None ≡ cond (b && c) (Some v) None
missed true true v q = absurd (cc)
missed true false v q = refl
missed false c v q = refl

right : (b c : Bool) → (b && c) ≡ true → c ≡ true
right true c p = p
right false c p = absurd (cc)

are_digits : (word : List ℕ) → is_number word ≡ true → list_all is_ascii_digit word ≡ true
are_digits word is = right (nat_lt 0 (length word) && not (get_or word 0 0 == 48)) (list_all is_ascii_digit word) is

is_long : (word : List ℕ) → is_number word ≡ true → 0 < length word
is_long word is = grind (arith, nat_tests)

below : (m n : ℕ) → m ≤ n → nat_le m n ≡ true
below m n low = grind (arith, nat_tests)

above : (m n : ℕ) → n < m → nat_le m n ≡ false
above m n high = grind (arith, nat_tests)

pub number_found : (most number : ℕ) (word : List ℕ) → ParsesUnsigned {E = ℕ} 64 10 word (Ok number) → is_number word ≡ true → number ≤ most → Some number ≡ number_within most word
number_found most number word parsed is low =
    let same : number ≡ decimal_from 0 word = (parse_digits digits {E = ℕ} 64 word (Ok number) parsed (are_digits word is)).1 in
    subst (λ (n : ℕ). Some n ≡ number_within most word) (sym same)
    (picked (is_number word) (nat_le (decimal_from 0 word) most) (decimal_from 0 word) is (below (decimal_from 0 word) most (subst (λ (n : ℕ). n ≤ most) same low)))

pub number_above : (most number : ℕ) (word : List ℕ) → ParsesUnsigned {E = ℕ} 64 10 word (Ok number) → is_number word ≡ true → most < number → None ≡ number_within most word
number_above most number word parsed is high =
    let same : number ≡ decimal_from 0 word = (parse_digits digits {E = ℕ} 64 word (Ok number) parsed (are_digits word is)).1 in
    missed (is_number word) (nat_le (decimal_from 0 word) most) (decimal_from 0 word) (above (decimal_from 0 word) most (subst (λ (n : ℕ). most < n) same high))

too_large : (n most : ℕ) → most < 2 ^ 64 → (n < 2 ^ 64 → ⊥) → nat_le n most ≡ false
too_large n most fits absent = grind (arith, nat_tests)

-- a number that is not parsed has no place in 64 bits
pub number_wrong : (most : ℕ) (word : List ℕ) → ParsesUnsigned {E = ℕ} 64 10 word (Err 0) → is_number word ≡ true → most < 2 ^ 64 → None ≡ number_within most word
number_wrong most word parsed is fits =
    missed (is_number word) (nat_le (decimal_from 0 word) most) (decimal_from 0 word)
    (too_large (decimal_from 0 word) most fits (λ small. parse_digits digits {E = ℕ} 64 word (Err 0) parsed (are_digits word is) (is_long word is, small)))

-- ---- a number that a word writes is at least 1

left : (b c : Bool) → (b && c) ≡ true → b ≡ true
left true c p = refl
left false c p = absurd (cc)

-- more digits make no smaller number
no_smaller : (number : ℕ) (ds : List ℕ) → number ≤ decimal_from number ds
no_smaller number [] = omega arith
no_smaller number (d ∷ ds) = let more : 10 * number + (d - 48) ≤ decimal_from (10 * number + (d - 48)) ds = no_smaller (10 * number + (d - 48)) ds in omega (arith, more)

above_zero : (d : ℕ) → is_ascii_digit d ≡ true → not (d == 48) ≡ true → 48 < d
above_zero d digit other = grind (arith, nat_tests)

from_one : (word : List ℕ) → is_number word ≡ true → 1 ≤ decimal_from 0 word
from_one [] is = absurd (cc)
from_one (d ∷ ds) is =
    let first : not (d == 48) ≡ true = right (nat_lt 0 (length (d ∷ ds))) (not (d == 48)) (left (nat_lt 0 (length (d ∷ ds)) && not (d == 48)) (list_all is_ascii_digit (d ∷ ds)) is) in
    let digit : is_ascii_digit d ≡ true = left (is_ascii_digit d) (list_all is_ascii_digit ds) (are_digits (d ∷ ds) is) in
    let more : 10 * 0 + (d - 48) ≤ decimal_from (10 * 0 + (d - 48)) ds = no_smaller (10 * 0 + (d - 48)) ds in
    let some : 48 < d = above_zero d digit first in
    omega (arith, more, some)

pub some_written : (most number : ℕ) (word : List ℕ) → Some number ≡ number_within most word → 1 ≤ number
some_written most number word e = by (is_number word) (nat_le (decimal_from 0 word) most) (from_one word) e
  where
    by : (is small : Bool) → (is ≡ true → 1 ≤ decimal_from 0 word) → Some number ≡ cond (is && small) (Some (decimal_from 0 word)) None → 1 ≤ number
    by true true some e = subst (λ (o : Option ℕ). IfSome o (λ n. 1 ≤ n)) (sym e) (some refl)
    by true false some e = absurd (cc e)
    by false small some e = absurd (cc e)
