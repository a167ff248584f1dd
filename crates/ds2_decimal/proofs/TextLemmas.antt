-- Numbers from digits, and the text of a decimal read back.
use Rattle.std.proofs.Common.{◌≡◌, ℕ, ◌+◌, ◌-◌, ◌*◌, ◌^◌, ◌<◌, ◌≤◌, List, [], ◌∷◌, ◌++◌, Option, Some, None, Bool, true, false, ◌&&◌, ◌⊎◌, inl, inr, ltb, cond, refl, sym, ap, ◌∙◌, arith}
use Rattle.std.specs.Char.{is_ascii_digit, digit_value}
use Rattle.std.specs.Str.Parse.{digits_value_after}
use Rattle.std.specs.Option.{option_and_then}
use Rattle.std.proofs.lemmas.Bool.Decides.{nat_tests}
use Rattle.std.proofs.lemmas.Bool.{cases_lt}
use Rattle.ds2_decimal.specs.Text.{are_digits}
use Rattle.ds2_decimal.specs.Steps.{digits_behind}

-- the answer of `digits_after`, by its two tests
abbrev answer : Bool → Bool → ℕ → Option ℕ
answer s t n = cond (s && t) (Some n) None

pub digits_after_digit : (n c : ℕ) (cs : List ℕ) → is_ascii_digit c ≡ true → digits_behind n (c ∷ cs) ≡ digits_behind (n * 10 + digit_value c) cs
digits_after_digit n c cs e =
    let m : ℕ = digits_value_after 10 (n * 10 + digit_value c) cs in
    ap (λ (t : Bool). answer (t && are_digits cs) (ltb m (10 ^ 38)) m) e

pub digits_after_other : (n c : ℕ) (cs : List ℕ) → is_ascii_digit c ≡ false → digits_behind n (c ∷ cs) ≡ None
digits_after_other n c cs e =
    let m : ℕ = digits_value_after 10 (n * 10 + digit_value c) cs in
    ap (λ (t : Bool). answer (t && are_digits cs) (ltb m (10 ^ 38)) m) e

pub digits_value_after_ge : (n : ℕ) (cs : List ℕ) → n ≤ digits_value_after 10 n cs
digits_value_after_ge n [] = omega arith
digits_value_after_ge n (c ∷ cs) = omega (arith, digits_value_after_ge (n * 10 + digit_value c) cs)

and_no : (s t : Bool) (n : ℕ) → t ≡ false → answer s t n ≡ None
and_no true t n e = ap (λ (u : Bool). answer true u n) e
and_no false t n e = refl

-- a number of more than 38 digits gets no fewer
digits_after_large : (n : ℕ) (cs : List ℕ) → 10 ^ 38 ≤ n → digits_behind n cs ≡ None
digits_after_large n cs large =
    let more = digits_value_after_ge n cs in
    let test : ltb (digits_value_after 10 n cs) (10 ^ 38) ≡ false = grind (arith, nat_tests) in
    and_no (are_digits cs) (ltb (digits_value_after 10 n cs) (10 ^ 38)) (digits_value_after 10 n cs) test

pub digits_after_full : (n c : ℕ) (cs : List ℕ) → 10 ^ 37 ≤ n → digits_behind n (c ∷ cs) ≡ None
digits_after_full n c cs full =
    let more : n * 10 + digit_value c ≤ digits_value_after 10 n (c ∷ cs) = digits_value_after_ge (n * 10 + digit_value c) cs in
    let test : ltb (digits_value_after 10 n (c ∷ cs)) (10 ^ 38) ≡ false = grind (arith, nat_tests) in
    and_no (are_digits (c ∷ cs)) (ltb (digits_value_after 10 n (c ∷ cs)) (10 ^ 38)) (digits_value_after 10 n (c ∷ cs)) test

-- the byte of a digit is 48 above its value
pub digit_value_is : (c : ℕ) → is_ascii_digit c ≡ true → digit_value c ≡ c - 48
digit_value_is c e = grind (arith, nat_tests)

digits_after-nil : (n : ℕ) → n < 10 ^ 38 → digits_behind n [] ≡ Some n
digits_after-nil n small =
    let test : ltb n (10 ^ 38) ≡ true = grind (arith, nat_tests) in
    ap (λ (t : Bool). answer true t n) test

-- what further digits make of an answer
abbrev more : List ℕ → Option ℕ → Option ℕ
more ys o = option_and_then (λ (m : ℕ). digits_behind m ys) o

append_step : (n c : ℕ) (cs ys : List ℕ) (t : Bool) → is_ascii_digit c ≡ t → digits_behind (n * 10 + digit_value c) (cs ++ ys) ≡ more ys (digits_behind (n * 10 + digit_value c) cs) → digits_behind n (c ∷ cs ++ ys) ≡ more ys (digits_behind n (c ∷ cs))
append_step n c cs ys true e rest =
    digits_after_digit n c (cs ++ ys) e ∙ rest ∙ ap (more ys) (sym (digits_after_digit n c cs e))
append_step n c cs ys false e rest =
    digits_after_other n c (cs ++ ys) e ∙ ap (more ys) (sym (digits_after_other n c cs e))

append_none : (n : ℕ) (ys : List ℕ) → (n < 10 ^ 38) ⊎ (10 ^ 38 ≤ n) → digits_behind n ys ≡ more ys (digits_behind n [])
append_none n ys (inl small) = ap (more ys) (sym (digits_after-nil n small))
append_none n ys (inr large) = digits_after_large n ys large ∙ ap (more ys) (sym (digits_after_large n [] large))

-- first some digits and then some more
pub digits_after-append : (n : ℕ) (xs ys : List ℕ) → digits_behind n (xs ++ ys) ≡ option_and_then (λ (m : ℕ). digits_behind m ys) (digits_behind n xs)
digits_after-append n [] ys = append_none n ys (cases_lt n (10 ^ 38))
digits_after-append n (c ∷ cs) ys = append_step n c cs ys (is_ascii_digit c) refl (digits_after-append (n * 10 + digit_value c) cs ys)
