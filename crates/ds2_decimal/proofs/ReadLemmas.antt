-- The text of a decimal is read back.
use Rattle.std.proofs.Common.{◌≡◌, ℕ, zero, suc, ◌+◌, ◌*◌, ◌/◌, ◌%◌, ◌^◌, ◌<◌, ◌≤◌, ℤ, pos, negsuc, unsigned_abs, List, [], ◌∷◌, ◌++◌, length, take, drop, Option, Some, None, Bool, true, false, ◌&&◌, not, ltb, leb, cond, refl, sym, ap, ◌∙◌, append_assoc, arith}
use Rattle.std.specs.Prelude.{◌==◌}
use Rattle.std.proofs.lemmas.Bool.{ltb-true}
use Rattle.std.specs.Option.{option_map_or, option_map}
use Rattle.std.specs.List.{position, position_or_len}
use Rattle.std.specs.Char.{is_ascii_digit, digit_value}
use Rattle.std.specs.Str.Parse.{digits_value, digits_value_after}
use Rattle.std.specs.Fmt.{decimal}
use Rattle.std.proofs.Math.Nat.{pow-zero, pow-succ', div-le_self}
use Rattle.std.proofs.lemmas.Nat.{div-add-mod', mod_below}
use Rattle.std.proofs.lemmas.Bool.Decides.{nat_tests}
use Rattle.std.proofs.lemmas.List.{take_at, drop_at, length-append, append-nil}
use Rattle.std.proofs.lemmas.List.Folds.{list_all-append}
use Rattle.std.proofs.lemmas.Fmt.{decimal_by_steps_wide, decimal_is_IsNumeral_wide}
use Rattle.ds2_decimal.specs.Decimal.{Decimal}
use Rattle.ds2_decimal.specs.Arithmetic.{new, neg}
use Rattle.ds2_decimal.specs.Text.{is_point, are_digits, is_whole, of_digits, of_parts, read_unsigned, read, last_digits, written_magnitude, decimal_text}
use Rattle.ds2_decimal.specs.Laws.{ReadsWritten}
use Rattle.ds2_decimal.proofs.TenPowers.{pow-ten_pos}
use Rattle.ds2_decimal.proofs.QuotientLemmas.{rest_from}

-- ---- the digits of a whole number

-- the first digit is not 0
abbrev leads : List ℕ → Bool
leads [] = false
leads (d ∷ ds) = not (d == 48)

record Numeral (n : ℕ) (ds : List ℕ) : Type 0 where
  digits : are_digits ds ≡ true
  lead : 0 < n → leads ds ≡ true
  whole : is_whole ds ≡ true

digit_test : (d : ℕ) → d < 10 → is_ascii_digit (48 + d) ≡ true
digit_test d h = grind (arith, nat_tests)

lead_test : (d : ℕ) → 0 < d → not ((48 + d) == 48) ≡ true
lead_test d h = grind (arith, nat_tests)

and_true : (s t : Bool) → s ≡ true → t ≡ true → (s && t) ≡ true
and_true true t e f = f
and_true false t e f = e

one_digit : (n : ℕ) → n < 10 → Numeral n ((48 + n) ∷ [])
one_digit n h = record {
  digits = and_true (is_ascii_digit (48 + n)) true (digit_test n h) refl;
  lead = λ some. lead_test n some;
  whole = digit_test n h;
}

all_push : (ds : List ℕ) (x : ℕ) → are_digits ds ≡ true → is_ascii_digit x ≡ true → are_digits (ds ++ x ∷ []) ≡ true
all_push ds x e f = list_all-append is_ascii_digit ds (x ∷ []) ∙ and_true (are_digits ds) (are_digits (x ∷ [])) e (and_true (is_ascii_digit x) true f refl)

leads_push : (ds : List ℕ) (x : ℕ) → leads ds ≡ true → leads (ds ++ x ∷ []) ≡ true
leads_push [] x e = cc
leads_push (d ∷ ds) x e = e

whole_push : (ds : List ℕ) (x : ℕ) → leads ds ≡ true → are_digits (ds ++ x ∷ []) ≡ true → is_whole (ds ++ x ∷ []) ≡ true
whole_push [] x e f = cc
whole_push (d ∷ []) x e f = and_true (not (d == 48)) (are_digits (d ∷ x ∷ [])) e f
whole_push (d ∷ c ∷ ds) x e f = and_true (not (d == 48)) (are_digits (d ∷ c ∷ ds ++ x ∷ [])) e f

more_digits : (n : ℕ) (ds : List ℕ) → 10 ≤ n → Numeral (n / 10) ds → Numeral n (ds ++ (48 + n % 10) ∷ [])
more_digits n ds h is =
    let lead : leads ds ≡ true = is.lead (omega arith) in
    let all : are_digits (ds ++ (48 + n % 10) ∷ []) ≡ true = all_push ds (48 + n % 10) is.digits (digit_test (n % 10) (omega arith)) in
    record {
      digits = all;
      lead = λ some. leads_push ds (48 + n % 10) lead;
      whole = whole_push ds (48 + n % 10) lead all;
    }

numeral : (n : ℕ) → n < 10 ^ 38 → Numeral n (decimal n)
numeral n h = decimal_by_steps_wide Numeral one_digit more_digits n (omega arith)

decimal_value : (n : ℕ) → n < 10 ^ 38 → digits_value 10 (decimal n) ≡ n
decimal_value n h = (decimal_is_IsNumeral_wide n (omega arith)).1

-- ---- the digits behind the point

length-last_digits : (k n : ℕ) → length (last_digits k n) ≡ k
length-last_digits zero n = refl
length-last_digits (suc k) n =
    length-append (last_digits k (n / 10)) ((48 + n % 10) ∷ []) ∙ omega (arith, length-last_digits k (n / 10))

all_last_digits : (k n : ℕ) → are_digits (last_digits k n) ≡ true
all_last_digits zero n = refl
all_last_digits (suc k) n = all_push (last_digits k (n / 10)) (48 + n % 10) (all_last_digits k (n / 10)) (digit_test (n % 10) (omega arith))

digits_value_after-append : (m : ℕ) (xs ys : List ℕ) → digits_value_after 10 m (xs ++ ys) ≡ digits_value_after 10 (digits_value_after 10 m xs) ys
digits_value_after-append m [] ys = refl
digits_value_after-append m (x ∷ xs) ys = digits_value_after-append (m * 10 + digit_value x) xs ys

digit_value_of : (d : ℕ) → d < 10 → digit_value (48 + d) ≡ d
digit_value_of d h = grind (arith, nat_tests)

-- the last k + 1 digits are the last k of a tenth, and one more
last_step : (k n : ℕ) → n / 10 % 10 ^ k * 10 + n % 10 ≡ n % 10 ^ suc k
last_step k n =
    let p : ℕ = 10 ^ k in
    let tens : 10 ^ suc k ≡ 10 * p = pow-succ' 10 k in
    let some : 0 < p = pow-ten_pos k in
    let first : n / 10 * 10 + n % 10 ≡ n = div-add-mod' n 10 in
    let unit : n % 10 < 10 = mod_below n 10 (omega arith) in
    let second : n / 10 / p * p + n / 10 % p ≡ n / 10 = div-add-mod' (n / 10) p in
    let rest : n / 10 % p < p = mod_below (n / 10) p some in
    sym (ap (λ (x : ℕ). n % x) tens ∙ rest_from n (10 * p) (n / 10 / p) (n / 10 % p * 10 + n % 10) (omega arith) (omega arith))

last_value : (k m n : ℕ) → digits_value_after 10 m (last_digits k n) ≡ m * 10 ^ k + n % 10 ^ k
last_value zero m n =
    let one : 10 ^ 0 ≡ 1 = pow-zero 10 in
    omega (arith, ap (λ (x : ℕ). m * x) one, ap (λ (x : ℕ). n % x) one)
last_value (suc k) m n =
    let before : digits_value_after 10 m (last_digits k (n / 10)) ≡ m * 10 ^ k + n / 10 % 10 ^ k = last_value k m (n / 10) in
    let digit : digit_value (48 + n % 10) ≡ n % 10 = digit_value_of (n % 10) (omega arith) in
    let tens = ap (λ (x : ℕ). m * x) (pow-succ' 10 k) in
    let step : n / 10 % 10 ^ k * 10 + n % 10 ≡ n % 10 ^ suc k = last_step k n in
    digits_value_after-append m (last_digits k (n / 10)) ((48 + n % 10) ∷ []) ∙ omega arith

-- ---- the place of the point

no_point : (c : ℕ) → is_ascii_digit c ≡ true → not (is_point c) ≡ true
no_point c e = grind (arith, nat_tests)

and_first : (s t : Bool) → (s && t) ≡ true → s ≡ true
and_first true t e = refl
and_first false t e = e

and_second : (s t : Bool) → (s && t) ≡ true → t ≡ true
and_second true t e = e
and_second false t e = cc

past_digits : (w rest : List ℕ) → are_digits w ≡ true → position_or_len is_point (w ++ rest) ≡ length w + position_or_len is_point rest
past_digits [] rest e = omega arith
past_digits (c ∷ cs) rest e =
    let digit : is_ascii_digit c ≡ true = and_first (is_ascii_digit c) (are_digits cs) e in
    let later : position_or_len is_point (cs ++ rest) ≡ length cs + position_or_len is_point rest = past_digits cs rest (and_second (is_ascii_digit c) (are_digits cs) e) in
    ap (λ (t : Bool). cond t (1 + position_or_len is_point (cs ++ rest)) 0) (no_point c digit) ∙ omega arith

-- the answer of `position`, by its place
abbrev at_place : ℕ → ℕ → Option ℕ
at_place i n = cond (ltb i n) (Some i) None

position_at : (w f : List ℕ) → are_digits w ≡ true → position is_point (w ++ 46 ∷ f) ≡ Some (length w)
position_at w f e =
    let place : position_or_len is_point (w ++ 46 ∷ f) ≡ length w = past_digits w (46 ∷ f) e ∙ omega arith in
    let size : length (w ++ 46 ∷ f) ≡ length w + suc (length f) = length-append w (46 ∷ f) in
    let test : ltb (length w) (length (w ++ 46 ∷ f)) ≡ true = grind (arith, nat_tests) in
    ap (λ (i : ℕ). at_place i (length (w ++ 46 ∷ f))) place ∙ ap (λ (t : Bool). cond t (Some (length w)) None) test

position_none : (w : List ℕ) → are_digits w ≡ true → position is_point w ≡ None
position_none w e =
    let place : position_or_len is_point w ≡ length w = ap (λ (xs : List ℕ). position_or_len is_point xs) (sym (append-nil w)) ∙ past_digits w [] e ∙ omega arith in
    let test : ltb (length w) (length w) ≡ false = grind (arith, nat_tests) in
    ap (λ (i : ℕ). at_place i (length w)) place ∙ ap (λ (t : Bool). cond t (Some (length w)) None) test

-- ---- the whole text

-- digits whose number is n
of_digits_at : (w f : List ℕ) (n s : ℕ) → is_whole w ≡ true → are_digits f ≡ true → digits_value 10 (w ++ f) ≡ n → length f ≡ s → n < 10 ^ 38 → s ≤ 38 → of_digits w f ≡ Some (record { units = pos n; scale = s })
of_digits_at w f n s whole digits value size small scale =
    let first : Bool → Option Decimal = λ t. cond t (new (pos (digits_value 10 (w ++ f))) (length f)) None in
    let tests : Bool → Option Decimal = λ t. cond t (Some (record { units = pos n; scale = s })) None in
    let few : ltb n (10 ^ 38) ≡ true = grind (arith, nat_tests) in
    let near : leb s 38 ≡ true = grind (arith, nat_tests) in
    ap first (and_true (is_whole w) (are_digits f) whole digits)
    ∙ ap (λ (m : ℕ). new (pos m) (length f)) value
    ∙ ap (λ (k : ℕ). new (pos n) k) size
    ∙ ap tests (and_true (ltb n (10 ^ 38)) (leb s 38) few near)

no_sign : (d : ℕ) (rest : List ℕ) → is_ascii_digit d ≡ true → read (d ∷ rest) ≡ read_unsigned (d ∷ rest)
no_sign d rest e =
    let other : (d == 45) ≡ false = grind (arith, nat_tests) in
    ap (λ (t : Bool). cond t (option_map neg (read_unsigned rest)) (read_unsigned (d ∷ rest))) other

read_plain : (w rest : List ℕ) → is_whole w ≡ true → read (w ++ rest) ≡ read_unsigned (w ++ rest)
read_plain [] rest e = cc
read_plain (d ∷ []) rest e = no_sign d rest e
read_plain (d ∷ c ∷ ds) rest e = no_sign d (c ∷ ds ++ rest) (and_first (is_ascii_digit d) (are_digits (c ∷ ds)) (and_second (not (d == 48)) (are_digits (d ∷ c ∷ ds)) e))

read_one_number : (n : ℕ) → n < 10 ^ 38 → read_unsigned (decimal n) ≡ Some (record { units = pos n; scale = 0 })
read_one_number n small =
    let is = numeral n small in
    let w : List ℕ = decimal n in
    let of : Option ℕ → Option Decimal = λ o. option_map_or (λ (i : ℕ). of_parts (take i w) (drop (i + 1) w)) o (of_digits w []) in
    ap of (position_none w is.digits)
    ∙ of_digits_at w [] n 0 is.whole refl (ap (λ (xs : List ℕ). digits_value 10 xs) (append-nil w) ∙ decimal_value n small) refl small (omega arith)

read_two_parts : (n s : ℕ) → n < 10 ^ 38 → 0 < s → s ≤ 38 → read_unsigned (decimal (n / 10 ^ s) ++ 46 ∷ last_digits s n) ≡ Some (record { units = pos n; scale = s })
read_two_parts n s small some scale =
    let v : ℕ = n / 10 ^ s in
    let less : v ≤ n = div-le_self n (10 ^ s) in
    let is = numeral v (omega arith) in
    let w : List ℕ = decimal v in
    let f : List ℕ = last_digits s n in
    let text : List ℕ = w ++ 46 ∷ f in
    let of : Option ℕ → Option Decimal = λ o. option_map_or (λ (i : ℕ). of_parts (take i text) (drop (i + 1) text)) o (of_digits text []) in
    let before : take (length w) text ≡ w = take_at w (46 ∷ f) (length w) refl in
    let joined : text ≡ (w ++ 46 ∷ []) ++ f = sym (append_assoc w (46 ∷ []) f) in
    let size : length (w ++ 46 ∷ []) ≡ length w + 1 = length-append w (46 ∷ []) in
    let behind : drop (length w + 1) text ≡ f = ap (λ (xs : List ℕ). drop (length w + 1) xs) joined ∙ drop_at (w ++ 46 ∷ []) f (length w + 1) size in
    let digits : digits_value 10 (w ++ f) ≡ n =
    digits_value_after-append 0 w f ∙ ap (λ (m : ℕ). digits_value_after 10 m f) (decimal_value v (omega arith)) ∙ last_value s v n ∙ div-add-mod' n (10 ^ s) in
    let long : (length f == 0) ≡ false = let count = length-last_digits s n in grind (arith, nat_tests) in
    let parts : Bool → Option Decimal = λ t. cond t None (of_digits w f) in
    ap of (position_at w f is.digits)
    ∙ ap (λ (xs : List ℕ). of_parts xs (drop (length w + 1) text)) before
    ∙ ap (λ (xs : List ℕ). of_parts w xs) behind
    ∙ ap parts long
    ∙ of_digits_at w f n s is.whole (all_last_digits s n) digits (length-last_digits s n) small scale

-- a magnitude, alone and behind a sign
record ReadsMagnitude (n s : ℕ) : Type 0 where
  alone : read (written_magnitude n s) ≡ Some (record { units = pos n; scale = s })
  behind : read_unsigned (written_magnitude n s) ≡ Some (record { units = pos n; scale = s })

read_magnitude : (n s : ℕ) → n < 10 ^ 38 → s ≤ 38 → ReadsMagnitude n s
read_magnitude n zero small scale =
    let is = numeral n small in
    let plain : read (decimal n) ≡ read_unsigned (decimal n) = ap read (sym (append-nil (decimal n))) ∙ read_plain (decimal n) [] is.whole ∙ ap read_unsigned (append-nil (decimal n)) in
    record {
      alone = plain ∙ read_one_number n small;
      behind = read_one_number n small;
    }
read_magnitude n (suc k) small scale =
    let test : (suc k == 0) ≡ false = grind (arith, nat_tests) in
    let less : n / 10 ^ suc k ≤ n = div-le_self n (10 ^ suc k) in
    let is = numeral (n / 10 ^ suc k) (omega arith) in
    let text : List ℕ = decimal (n / 10 ^ suc k) ++ 46 ∷ last_digits (suc k) n in
    let shown : written_magnitude n (suc k) ≡ text = ap (λ (t : Bool). cond t (decimal n) text) test in
    let parts = read_two_parts n (suc k) small (omega arith) scale in
    record {
      alone = ap read shown ∙ read_plain (decimal (n / 10 ^ suc k)) (46 ∷ last_digits (suc k) n) is.whole ∙ parts;
      behind = ap read_unsigned shown ∙ parts;
    }

read_signed : (z : ℤ) (s : ℕ) → unsigned_abs z < 10 ^ 38 → s ≤ 38 → read (decimal_text (record { units = z; scale = s })) ≡ Some (record { units = z; scale = s })
read_signed (pos n) s small scale =
    let no : ltb n 0 ≡ false = grind (arith, nat_tests) in
    let is = read_magnitude n s small scale in
    ap (λ (t : Bool). read (cond t (45 ∷ []) [] ++ written_magnitude n s)) no ∙ is.alone
read_signed (negsuc n) s small scale =
    let is = read_magnitude (suc n) s small scale in
    ap (λ (o : Option Decimal). option_map neg o) is.behind

pub read_back : ReadsWritten
read_back d valid = read_signed d.units d.scale (ltb-true (unsigned_abs d.units) (10 ^ 38) valid.digits) valid.scale_bound
