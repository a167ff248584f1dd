-- Numbers of few digits, and the decimals of two of them.
use Rattle.std.proofs.Common.{◌≡◌, ◌⊎◌, inl, inr, ℕ, zero, suc, ◌+◌, ◌-◌, ◌*◌, ◌^◌, ◌<◌, ◌≤◌, Bool, true, false, List, [], ◌∷◌, ◌++◌, Option, Some, None, IfSome, ℤ, pos, min, length, length-take, length-drop, take, drop, get_or, refl, sym, ap, ◌∙◌, arith}
use Rattle.std.specs.Prelude.{◌&&◌, ◌==◌, not, nat_lt, nat_le, if◌then◌else◌}
use Rattle.std.specs.Char.{is_ascii_digit, digit_value}
use Rattle.std.specs.Str.{all_ascii_digits}
use Rattle.std.specs.Str.Parse.{digits_value, digits_value_after}
use Rattle.std.specs.List.{position_or_len, before_first, after_first}
use Rattle.std.proofs.Math.Nat.{pow-succ', mul-le-mul_right, le-mul_of_pos_right, pow-le-pow_right, one-le-pow}
use Rattle.std.proofs.lemmas.Nat.{pow-add}
use Rattle.std.proofs.lemmas.Bool.Decides.{nat_tests}
use Rattle.std.proofs.lemmas.Bool.{ltb-true, ltb-false, ne_eqb}
use Rattle.std.specs.Option.{is_some, option_map, option_and_then}
use Rattle.ds2_decimal.specs.Arithmetic.{new, neg}
use Rattle.ds2_decimal.specs.Decimal.{Decimal}
use Rattle.ds2_decimal.specs.declared.dec.TheConstants.{MOST_DIGITS}
use Rattle.ds2_decimal.specs.Text.{is_point, are_digits, is_whole, of_digits, of_parts, read_unsigned, read}
use Rattle.ds2_csv_cells.specs.ColumnTypes.{without_sign}
use Rattle.ds2_csv_cells.specs.Number.{begins_well, number_from, size_of, below_zero, not_below_zero, integer_of}
use Rattle.ds2_csv_cells.specs.Short.{number_behind}
use Rattle.ds2_csv_cells.proofs.Front.{after, after_cons}

-- a digit's value is at most 9
pub digit-small : (c : ℕ) → is_ascii_digit c ≡ true → c - 48 ≤ 9
digit-small c e = grind (arith, nat_tests)

pow-pos : (k : ℕ) → 1 ≤ 10 ^ k
pow-pos k = one-le-pow k 10 (omega arith)

-- room for one more digit
pub room-digit : (n m whole : ℕ) (rest : List ℕ) → 1 ≤ length rest → is_ascii_digit (get_or rest 0 0) ≡ true → m ≡ n * 10 + (get_or rest 0 0 - 48)
    → (n + 1) * 10 ^ length rest ≤ whole → (m + 1) * 10 ^ length (after rest) ≤ whole
room-digit n m whole [] some digit is room = absurd (omega arith)
room-digit n m whole (c ∷ cs) some digit is room =
    let short : length (after (c ∷ cs)) ≡ length cs = ap (λ (t : List ℕ). length t) (after_cons c cs) in
    let ten : 10 ^ suc (length cs) ≡ 10 * 10 ^ length cs = pow-succ' 10 (length cs) in
    let small = digit-small c digit in
    let one : m + 1 ≤ (n + 1) * 10 = omega arith in
    let more : (m + 1) * 10 ^ length cs ≤ (n + 1) * 10 * 10 ^ length cs = mul-le-mul_right (10 ^ length cs) one in
    let same : (n + 1) * 10 ^ suc (length cs) ≡ (n + 1) * 10 * 10 ^ length cs = ap (λ p. (n + 1) * p) ten ∙ omega arith in
    rw short (omega (arith, more, same, room))

-- the number stays small
pub room-small : (n whole : ℕ) (rest : List ℕ) → 1 ≤ length rest → (n + 1) * 10 ^ length rest ≤ whole → n * 10 + 10 ≤ whole
room-small n whole [] some room = absurd (omega arith)
room-small n whole (c ∷ cs) some room =
    let ten : 10 ^ suc (length cs) ≡ 10 * 10 ^ length cs = pow-succ' 10 (length cs) in
    let least : (n + 1) * 10 ≤ (n + 1) * 10 * 10 ^ length cs = le-mul_of_pos_right ((n + 1) * 10) (pow-pos (length cs)) in
    let same : (n + 1) * 10 ^ suc (length cs) ≡ (n + 1) * 10 * 10 ^ length cs = ap (λ p. (n + 1) * p) ten ∙ omega arith in
    omega (arith, least, same, room)

pub number-digit : (n m whole : ℕ) (rest : List ℕ) → 1 ≤ length rest → m ≡ n * 10 + (get_or rest 0 0 - 48) → number_from n rest ≡ whole → number_from m (after rest) ≡ whole
number-digit n m whole [] some is before = absurd (omega arith)
number-digit n m whole (c ∷ cs) some is before = ap (λ (t : List ℕ). number_from m t) (after_cons c cs) ∙ ap (λ k. number_from k cs) is ∙ before

-- at most 18 digits
pub few-digits : (k : ℕ) → k ≤ 18 → (0 + 1) * 10 ^ k ≤ 10 ^ 18
few-digits k h = let p : 10 ^ k ≤ 10 ^ 18 = pow-le-pow_right (omega arith) h in omega (arith, p)

-- the size of few digits
pub size-short : (ds : List ℕ) (result : Option ℕ) → begins_well ds ≡ true → length ds ≤ 18 → result ≡ number_behind 0 ds → IfSome result (λ m. m + 1 ≤ (0 + 1) * 10 ^ length ds)
    → (result ≡ size_of ds) × IfSome result (λ m. m ≤ 2 ^ 63)
unfolding size_of
size-short ds result well short is room = rw well (by (all_ascii_digits ds) result is room)
  where
    small : (n : ℕ) → n ≤ 2 ^ 63 → nat_le n (2 ^ 63) ≡ true
    small n h = grind (arith, nat_tests)

    by : (b : Bool) (r : Option ℕ) → r ≡ (if b then Some (number_from 0 ds) else None) → IfSome r (λ m. m + 1 ≤ (0 + 1) * 10 ^ length ds)
        → (r ≡ (if b && nat_le (number_from 0 ds) (2 ^ 63) then Some (number_from 0 ds) else None)) × IfSome r (λ m. m ≤ 2 ^ 63)
    by true None e h = cc e
    by true (Some m) e h =
        let same : m ≡ number_from 0 ds = cc e in
        let few = few-digits (length ds) short in
        let within : m ≤ 2 ^ 63 = omega (arith, h, few) in
        (e ∙ sym (rw (small (number_from 0 ds) (rw same at within)) refl), within)
    by false None e h = (refl, tt)
    by false (Some m) e h = cc e

-- ---- decimals

digits-all : (ds : List ℕ) → are_digits ds ≡ all_ascii_digits ds
digits-all [] = refl
digits-all (d ∷ ds) = ap (λ b. is_ascii_digit d && b) (digits-all ds)

digit-value : (c : ℕ) → is_ascii_digit c ≡ true → digit_value c ≡ c - 48
digit-value c e = grind (arith, nat_tests)

-- the number that digits spell, in the words of the decimals
number-value : (n : ℕ) (ds : List ℕ) → all_ascii_digits ds ≡ true → digits_value_after 10 n ds ≡ number_from n ds
number-value n [] e = refl
number-value n (d ∷ ds) e = by (is_ascii_digit d) refl e (number-value (n * 10 + (d - 48)) ds)
  where
    by : (b : Bool) → is_ascii_digit d ≡ b → (b && all_ascii_digits ds) ≡ true
        → (all_ascii_digits ds ≡ true → digits_value_after 10 (n * 10 + (d - 48)) ds ≡ number_from (n * 10 + (d - 48)) ds)
        → digits_value_after 10 (n * 10 + digit_value d) ds ≡ number_from (n * 10 + (d - 48)) ds
    by true f g more = ap (λ k. digits_value_after 10 (n * 10 + k) ds) (digit-value d f) ∙ more g
    by false f g more = cc g

value-append : (n : ℕ) (xs ys : List ℕ) → digits_value_after 10 n (xs ++ ys) ≡ digits_value_after 10 (digits_value_after 10 n xs) ys
value-append n [] ys = refl
value-append n (x ∷ xs) ys = value-append (n * 10 + digit_value x) xs ys

-- digits that begin well are a whole number
begins-other : (d e : ℕ) (ds : List ℕ) → begins_well (d ∷ e ∷ ds) ≡ not (d == 48)
begins-other d e ds = rw (some (suc (suc (length ds))) (omega arith), many (suc (suc (length ds))) (omega arith)) refl
  where
    some : (n : ℕ) → 0 < n → nat_lt 0 n ≡ true
    some n h = grind (arith, nat_tests)

    many : (n : ℕ) → 1 < n → nat_lt 1 n ≡ true
    many n h = grind (arith, nat_tests)

whole-is : (ds : List ℕ) → begins_well ds ≡ true → is_whole ds ≡ all_ascii_digits ds
whole-is [] e = cc e
whole-is (d ∷ []) e = by (is_ascii_digit d)
  where
    by : (b : Bool) → b ≡ (b && true)
    by true = refl
    by false = refl
whole-is (d ∷ c ∷ ds) e = let first : not (d == 48) ≡ true = sym (begins-other d c ds) ∙ e in rw first (digits-all (d ∷ c ∷ ds))

-- what two parts make that are digits, or are not
abbrev of_numbers : List ℕ → List ℕ → Option Decimal
of_numbers whole fraction = if all_ascii_digits whole && all_ascii_digits fraction then new (pos (number_from (number_from 0 whole) fraction)) (length fraction) else None

digits-are : (whole fraction : List ℕ) → begins_well whole ≡ true → of_digits whole fraction ≡ of_numbers whole fraction
digits-are whole fraction well = rw (whole-is whole well, digits-all fraction) (by (all_ascii_digits whole) (all_ascii_digits fraction) refl refl)
  where
    by : (a b : Bool) → all_ascii_digits whole ≡ a → all_ascii_digits fraction ≡ b
        → (if a && b then new (pos (digits_value 10 (whole ++ fraction))) (length fraction) else None) ≡ (if a && b then new (pos (number_from (number_from 0 whole) fraction)) (length fraction) else None)
    by true true e f =
        let value : digits_value 10 (whole ++ fraction) ≡ number_from (number_from 0 whole) fraction =
        value-append 0 whole fraction ∙ ap (λ n. digits_value_after 10 n fraction) (number-value 0 whole e) ∙ number-value (number_from 0 whole) fraction f in
        ap (λ n. new (pos n) (length fraction)) value
    by true false e f = refl
    by false b e f = refl

-- the two parts of a text, which a point stands between, or the whole text and nothing
read-parts : (text : List ℕ) (b : Bool) → nat_lt (position_or_len is_point text) (length text) ≡ b
    → read_unsigned text ≡ (if b then of_parts (before_first is_point text) (after_first is_point text) else of_digits text [])
read-parts text true e = rw e refl
read-parts text false e = rw e refl

take-all : (xs : List ℕ) (n : ℕ) → length xs ≤ n → take n xs ≡ xs
take-all [] n h = nothing n
  where
    nothing : (n : ℕ) → take {A = ℕ} n [] ≡ []
    nothing zero = refl
    nothing (suc n) = refl
take-all (x ∷ xs) zero h = absurd (omega arith)
take-all (x ∷ xs) (suc n) h = ap (λ (t : List ℕ). x ∷ t) (take-all xs n (omega arith))

drop-all : (xs : List ℕ) (n : ℕ) → length xs ≤ n → drop n xs ≡ []
drop-all [] n h = nothing n
  where
    nothing : (n : ℕ) → drop {A = ℕ} n [] ≡ []
    nothing zero = refl
    nothing (suc n) = refl
drop-all (x ∷ xs) zero h = absurd (omega arith)
drop-all (x ∷ xs) (suc n) h = drop-all xs n (omega arith)

-- a text with a point behind which something stands, or without one
pub parts-are : (text whole fraction : List ℕ) → whole ≡ before_first is_point text → fraction ≡ after_first is_point text → (length fraction ≡ 0 → length text ≤ length whole)
    → read_unsigned text ≡ of_digits whole fraction
parts-are text whole fraction is rest some = by (nat_lt (position_or_len is_point text) (length text)) refl
  where
    short : (n : ℕ) (xs : List ℕ) → n < length xs → length (take n xs) ≡ n
    short zero xs h = refl
    short (suc n) [] h = absurd (omega arith)
    short (suc n) (x ∷ xs) h = ap (λ (k : ℕ). suc k) (short n xs (omega arith))

    behind : (n : ℕ) → (n ≡ 0 → ⊥) → (n == 0) ≡ false
    behind n h = ne_eqb n 0 h

    by : (b : Bool) → nat_lt (position_or_len is_point text) (length text) ≡ b → read_unsigned text ≡ of_digits whole fraction
    by true e =
        let lt = ltb-true (position_or_len is_point text) (length text) e in
        let wide : length whole ≡ position_or_len is_point text = ap (λ (t : List ℕ). length t) is ∙ short (position_or_len is_point text) text lt in
        let there : (length fraction == 0) ≡ false = behind (length fraction) (λ z. let k = some z in omega (arith, k, wide, lt)) in
        read-parts text true e ∙ rw (← is, ← rest, there) refl
    by false e =
        let end = ltb-false (position_or_len is_point text) (length text) e in
        let all : whole ≡ text = is ∙ take-all text (position_or_len is_point text) end in
        let none : fraction ≡ [] = rest ∙ drop-all text (position_or_len is_point text + 1) (omega arith) in
        read-parts text false e ∙ rw (all, none) refl

-- the decimal of two parts
pub decimal-is : (whole fraction : List ℕ) (n units : ℕ) → begins_well whole ≡ true → Some n ≡ number_behind 0 whole → Some units ≡ number_behind n fraction
    → new (pos units) (length fraction) ≡ of_digits whole fraction
decimal-is whole fraction n units well first second = by (all_ascii_digits whole) (all_ascii_digits fraction) refl refl first second ∙ sym (digits-are whole fraction well)
  where
    by : (a b : Bool) → all_ascii_digits whole ≡ a → all_ascii_digits fraction ≡ b → Some n ≡ (if a then Some (number_from 0 whole) else None) → Some units ≡ (if b then Some (number_from n fraction) else None)
        → new (pos units) (length fraction) ≡ of_numbers whole fraction
    by true true e f g h =
        let here : n ≡ number_from 0 whole = cc g in
        let there : units ≡ number_from (number_from 0 whole) fraction = cc (h, here) in
        rw (e, f, there) refl
    by true false e f g h = cc h
    by false b e f g h = cc g

pub no-decimal : (whole fraction : List ℕ) → begins_well whole ≡ true → (all_ascii_digits whole ≡ false) ⊎ (all_ascii_digits fraction ≡ false) → None ≡ of_digits whole fraction
no-decimal whole fraction well odd = sym (digits-are whole fraction well ∙ by (all_ascii_digits whole) (all_ascii_digits fraction) odd)
  where
    by : (a b : Bool) → (a ≡ false) ⊎ (b ≡ false) → (if a && b then new (pos (number_from (number_from 0 whole) fraction)) (length fraction) else None) ≡ None
    by true true (inl e) = cc e
    by true true (inr e) = cc e
    by true false o = refl
    by false b o = refl

pub not-digits-behind : (n : ℕ) (ds : List ℕ) → None ≡ number_behind n ds → all_ascii_digits ds ≡ false
not-digits-behind n ds e = by (all_ascii_digits ds) e
  where
    by : (b : Bool) → None ≡ (if b then Some (number_from n ds) else None) → b ≡ false
    by true f = cc f
    by false f = refl

pub some-behind : (n long wide : ℕ) (b : Bool) → b ≡ (n == 0) → ((b ≡ true) × (long ≤ wide)) ⊎ (b ≡ false) → n ≡ 0 → long ≤ wide
some-behind n long wide b is (inl e) z = e.1
some-behind n long wide b is (inr e) z = let none : (n == 0) ≡ true = rw z refl in cc (is, e, none)

-- both parts are no longer than the text
pub parts-short : (text whole fraction : List ℕ) → whole ≡ before_first is_point text → fraction ≡ after_first is_point text → length text ≤ 18 → (length whole ≤ 18) × (length whole + length fraction ≤ 18)
parts-short text whole fraction is rest h =
    let w : length whole ≡ min (position_or_len is_point text) (length text) = ap (λ (t : List ℕ). length t) is ∙ length-take (position_or_len is_point text) text in
    let f : length fraction ≡ length text - (position_or_len is_point text + 1) = ap (λ (t : List ℕ). length t) rest ∙ length-drop (position_or_len is_point text + 1) text in
    (omega arith, omega arith)

pub room-more : (n w f : ℕ) → n + 1 ≤ (0 + 1) * 10 ^ w → w + f ≤ 18 → (n + 1) * 10 ^ f ≤ 10 ^ 18
room-more n w f h few =
    let more : (n + 1) * 10 ^ f ≤ 10 ^ w * 10 ^ f = mul-le-mul_right (10 ^ f) (omega arith) in
    let all : 10 ^ (w + f) ≤ 10 ^ 18 = pow-le-pow_right (omega arith) few in
    omega (arith, more, all, pow-add 10 w f)

-- ---- an integer is a decimal

-- digits have no point among them
no-point : (ds : List ℕ) → all_ascii_digits ds ≡ true → position_or_len is_point ds ≡ length ds
no-point [] e = refl
no-point (d ∷ ds) e = by (is_ascii_digit d) refl e (no-point ds)
  where
    other : is_ascii_digit d ≡ true → not (d == 46) ≡ true
    other f = grind (arith, nat_tests)

    by : (b : Bool) → is_ascii_digit d ≡ b → (b && all_ascii_digits ds) ≡ true → (all_ascii_digits ds ≡ true → position_or_len is_point ds ≡ length ds) → position_or_len is_point (d ∷ ds) ≡ suc (length ds)
    by true f g more = let rest = more g in rw (other f) (omega arith)
    by false f g more = cc g

size-decimal : (ds : List ℕ) (n : ℕ) → size_of ds ≡ Some n → is_some (read_unsigned ds) ≡ true
unfolding size_of
size-decimal ds n e = by (begins_well ds) (all_ascii_digits ds) (nat_le (number_from 0 ds) (2 ^ 63)) refl refl refl e
  where
    fits : (m : ℕ) → nat_le m (2 ^ 63) ≡ true → nat_lt m (10 ^ MOST_DIGITS) ≡ true
    fits m h = grind (arith, nat_tests)

    by : (a b c : Bool) → begins_well ds ≡ a → all_ascii_digits ds ≡ b → nat_le (number_from 0 ds) (2 ^ 63) ≡ c → (if a && b && c then Some (number_from 0 ds) else None) ≡ Some n → is_some (read_unsigned ds) ≡ true
    by true true true f g h k =
        let end : nat_lt (position_or_len is_point ds) (length ds) ≡ false = rw (no-point ds g) (same (length ds)) in
        let value : of_numbers ds [] ≡ Some (record { units = pos (number_from 0 ds); scale = 0 }) = rw (g, fits (number_from 0 ds) h) refl in
        ap is_some (read-parts ds false end ∙ digits-are ds [] f ∙ value)
      where
        same : (m : ℕ) → nat_lt m m ≡ false
        same m = grind (arith, nat_tests)
    by true true false f g h k = cc k
    by true false c f g h k = cc k
    by false b c f g h k = cc k

pub integer-decimal : (cell : List ℕ) → is_some (integer_of cell) ≡ true → is_some (read cell) ≡ true
unfolding integer_of
integer-decimal [] e = cc e
integer-decimal (c ∷ cs) e = by (c == 45) e
  where
    whole : (ds : List ℕ) (f : ℕ → Option ℤ) → is_some (option_and_then f (size_of ds)) ≡ true → is_some (read_unsigned ds) ≡ true
    whole ds f e = pick (size_of ds) refl e
      where
        pick : (o : Option ℕ) → size_of ds ≡ o → is_some (option_and_then f o) ≡ true → is_some (read_unsigned ds) ≡ true
        pick (Some n) g h = size-decimal ds n g
        pick None g h = cc h

    negative : (o : Option Decimal) → is_some o ≡ true → is_some (option_map neg o) ≡ true
    negative (Some d) h = refl
    negative None h = cc h

    by : (b : Bool) → is_some (if b then option_and_then below_zero (size_of cs) else option_and_then not_below_zero (size_of (c ∷ cs))) ≡ true
        → is_some (if b then option_map neg (read_unsigned cs) else read_unsigned (c ∷ cs)) ≡ true
    by true f = negative (read_unsigned cs) (whole cs below_zero f)
    by false f = whole (c ∷ cs) not_below_zero f

-- an integer has no point
digits-of-size : (ds : List ℕ) (n : ℕ) → size_of ds ≡ Some n → all_ascii_digits ds ≡ true
unfolding size_of
digits-of-size ds n e = by (begins_well ds) (all_ascii_digits ds) (nat_le (number_from 0 ds) (2 ^ 63)) e
  where
    by : (a b c : Bool) → (if a && b && c then Some (number_from 0 ds) else None) ≡ Some n → b ≡ true
    by true true c f = refl
    by true false c f = cc f
    by false b c f = cc f

-- the whole text stands before the point, and nothing behind it
abbrev IsWhole : List ℕ → Type 0
IsWhole ds = (before_first is_point ds ≡ ds) × (after_first is_point ds ≡ [])

pub integer-whole : (cell : List ℕ) → is_some (integer_of cell) ≡ true → (before_first is_point (without_sign cell) ≡ without_sign cell) × (after_first is_point (without_sign cell) ≡ [])
unfolding integer_of
integer-whole [] e = cc e
integer-whole (c ∷ cs) e = by (c == 45) e
  where
    whole : (ds : List ℕ) (f : ℕ → Option ℤ) → is_some (option_and_then f (size_of ds)) ≡ true → IsWhole ds
    whole ds f e = pick (size_of ds) refl e
      where
        pick : (o : Option ℕ) → size_of ds ≡ o → is_some (option_and_then f o) ≡ true → IsWhole ds
        pick (Some n) g h =
            let end : position_or_len is_point ds ≡ length ds = no-point ds (digits-of-size ds n g) in
            (take-all ds (position_or_len is_point ds) (omega arith), drop-all ds (position_or_len is_point ds + 1) (omega arith))
        pick None g h = cc h

    by : (b : Bool) → is_some (if b then option_and_then below_zero (size_of cs) else option_and_then not_below_zero (size_of (c ∷ cs))) ≡ true → IsWhole (if b then cs else c ∷ cs)
    by true f = whole cs below_zero f
    by false f = whole (c ∷ cs) not_below_zero f
