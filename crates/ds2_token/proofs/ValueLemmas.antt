-- Facts of names and numbers.
use Rattle.std.proofs.Common.{◌≡◌, ℕ, ◌+◌, ◌-◌, ◌*◌, ◌<◌, ◌≤◌, Bool, true, false, List, [], ◌∷◌, length, get_or, Some, None, Err, refl, sym, ap, ◌∙◌, arith}
use Rattle.std.specs.List.{filter}
use Rattle.std.specs.Char.{is_ascii_digit, digit_value}
use Rattle.std.specs.Str.{IsUtf8, is_utf8}
use Rattle.std.specs.Str.Parse.{digits_value_after}
use Rattle.std.proofs.lemmas.Str.{is_utf8-from_IsUtf8, IsUtf8-from_is_utf8}
use Rattle.std.proofs.lemmas.Bool.Decides.{nat_tests}
use Rattle.ds2_base.specs.Name.{name_of}
use Rattle.ds2_token.specs.Values.{name_of_bytes, below}

pub name_of_text : (bs : List ℕ) → IsUtf8 bs → name_of_bytes bs ≡ name_of bs
name_of_text bs h = rw (is_utf8-from_IsUtf8 bs h) refl

no_text : (b : Bool) (bs : List ℕ) → is_utf8 bs ≡ b → (IsUtf8 bs → ⊥) → b ≡ false
no_text true bs is h = absurd (h (IsUtf8-from_is_utf8 bs is))
no_text false bs is h = refl

pub name_of_no_text : (bs : List ℕ) → (IsUtf8 bs → ⊥) → name_of_bytes bs ≡ Err (record {})
name_of_no_text bs h = rw (no_text (is_utf8 bs) bs refl h) refl

-- digits make a number no smaller
value_grows : (n : ℕ) (digits : List ℕ) → n ≤ digits_value_after 10 n digits
value_grows n [] = omega arith
value_grows n (c ∷ cs) = omega (arith, value_grows (n * 10 + digit_value c) cs)

digit_is : (c : ℕ) → is_ascii_digit c ≡ true → digit_value c ≡ c - 48
digit_is c h = grind (arith, nat_tests)

-- one more digit
pub value_step : (n c : ℕ) (cs : List ℕ) → is_ascii_digit c ≡ true
    → digits_value_after 10 n (filter is_ascii_digit (c ∷ cs)) ≡ digits_value_after 10 (n * 10 + (c - 48)) (filter is_ascii_digit cs)
value_step n c cs h = rw h (ap (λ (d : ℕ). digits_value_after 10 (n * 10 + d) (filter is_ascii_digit cs)) (digit_is c h))

none_below : (limit n : ℕ) → limit ≤ n → None ≡ below limit n
none_below limit n h = grind (arith, nat_tests)

some_below : (limit n : ℕ) → n < limit → Some n ≡ below limit n
some_below limit n h = grind (arith, nat_tests)

-- a number that has grown past the limit is none
pub value_large : (limit n c : ℕ) (rest : List ℕ) (units : ℕ) → digits_value_after 10 n (filter is_ascii_digit rest) ≡ units → 0 < length rest
    → c ≡ get_or rest 0 0 → is_ascii_digit c ≡ true → limit ≤ n * 10 + (c - 48) → None ≡ below limit units
value_large limit n c [] units is some first digit large = absurd (omega arith)
value_large limit n c (d ∷ ds) units is some first digit large =
    let front : (c ∷ ds) ≡ (d ∷ ds) = ap (λ (x : ℕ). x ∷ ds) first in
    let e : digits_value_after 10 n (filter is_ascii_digit (c ∷ ds)) ≡ units = ap (λ (xs : List ℕ). digits_value_after 10 n (filter is_ascii_digit xs)) front ∙ is in
    let grown = value_grows (n * 10 + (c - 48)) (filter is_ascii_digit ds) in
    let h : limit ≤ units = omega (arith, sym (value_step n c ds digit) ∙ e, grown, large) in
    none_below limit units h

pub value_end : (limit n : ℕ) (rest : List ℕ) (units : ℕ) → digits_value_after 10 n (filter is_ascii_digit rest) ≡ units → length rest < 1
    → n < limit → Some n ≡ below limit units
value_end limit n [] units is none small = some_below limit n small ∙ ap (λ (u : ℕ). below limit u) is
value_end limit n (d ∷ ds) units is none small = absurd (omega arith)

pub not_below : (limit n : ℕ) → None ≡ below limit n → limit ≤ n
not_below limit n h = grind (arith, nat_tests)
