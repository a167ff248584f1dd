-- The spelling of a type is read as the type.
use Rattle.std.proofs.Common.{◌≡◌, ◌^◌, ◌<◌, ℕ, true, false, List, [], ◌∷◌, ◌++◌, length, refl, sym, ap, ◌∙◌, arith, append_assoc}
use Rattle.std.specs.Prelude.{◌==◌, nat_lt, nat_le, codes, map, Option, Some, None, option_map, option_and_then}
use Rattle.std.specs.Char.{is_ascii_digit, to_ascii_lowercase}
use Rattle.std.specs.Fmt.{decimal}
use Rattle.std.specs.List.{list_all, list_any, after_first}
use Rattle.std.specs.Option.{option_map_or}
use Rattle.std.proofs.lemmas.Bool.{and_from, and_parts, leb-true, or_from}
use Rattle.std.proofs.lemmas.Bool.Decides.{nat_tests}
use Rattle.std.proofs.lemmas.List.{map-append}
use Rattle.std.proofs.lemmas.List.Folds.{list_all-append, list_any-append}
use Rattle.ds2_decimal.specs.declared.dec.TheConstants.{MOST_DIGITS}
use Rattle.ds2_value.specs.Types.{in_bounds, is_from_one}
use Rattle.ds2_value.specs.declared.ty.TheConstants.{TEXT_CHARACTERS}
use Rattle.ds2_value.specs.declared.ty.Ty.{Ty}
use Rattle.ds2_value.specs.declared.ty.Ty.TheVariants.{BigInt, Decimal as DecimalOf, Char, Varchar}
use Rattle.ds2_csv_cells.specs.Spelling.{is_blank, before_close, number_of, decimal_of, char_of, varchar_of, type_spelled}
use Rattle.ds2_csv_cells.specs.CellText.{type_text}
use Rattle.ds2_csv_cells.specs.Laws.{ReadsTypes}
use Rattle.ds2_csv_cells.proofs.LawAscii.{ascii-text}
use Rattle.ds2_csv_cells.proofs.LawNumbers.{spells, number-is, no-digit, lower-digits, ascii-digits}
use Rattle.ds2_csv_cells.proofs.LawParts.{before-at, after-at, before-close}

comma-no-digit : (d : ℕ) → is_ascii_digit d ≡ true → (d == 44) ≡ false
comma-no-digit d e = grind (arith, nat_tests)

blank-no-digit : (d : ℕ) → is_ascii_digit d ≡ true → is_blank d ≡ false
blank-no-digit d e = grind (arith, nat_tests)

-- numbers in bounds are small
within : (n limit : ℕ) → limit < 10 ^ 64 → is_from_one n limit ≡ true → n < 10 ^ 64
within n limit small e =
    let le = leb-true n limit (and_parts (nat_le 1 n) (nat_le n limit) e).1 in
    omega arith

-- what stands in the parentheses
decimal-read : (p s : ℕ) → p < 10 ^ 64 → s < 10 ^ 64 → decimal_of (decimal p ++ (44 ∷ decimal s)) ≡ Some (DecimalOf p s)
decimal-read p s f g =
    let free = no-digit (λ c. c == 44) (decimal p) comma-no-digit (spells p f).digits in
    ap (λ (t : List ℕ). option_and_then (λ n. option_map (λ m. DecimalOf n m) (number_of (after_first (λ c. c == 44) (decimal p ++ (44 ∷ decimal s))))) (number_of t)) (before-at (λ c. c == 44) (decimal p) 44 (decimal s) free refl)
    ∙ ap (λ (o : Option ℕ). option_and_then (λ n. option_map (λ m. DecimalOf n m) (number_of (after_first (λ c. c == 44) (decimal p ++ (44 ∷ decimal s))))) o) (number-is p f)
    ∙ ap (λ (t : List ℕ). option_map (λ m. DecimalOf p m) (number_of t)) (after-at (λ c. c == 44) (decimal p) 44 (decimal s) free refl)
    ∙ ap (λ (o : Option ℕ). option_map (λ m. DecimalOf p m) o) (number-is s g)

spelled-decimal : (p s : ℕ) → p < 10 ^ 64 → s < 10 ^ 64 → type_spelled (type_text (DecimalOf p s)) ≡ Some (DecimalOf p s)
unfolding type_spelled type_text
spelled-decimal p s f g =
    let joined : decimal p ++ (44 ∷ (decimal s ++ codes ")")) ≡ (decimal p ++ (44 ∷ decimal s)) ++ codes ")" = sym (append_assoc (decimal p) (44 ∷ decimal s) (codes ")")) in
    ap (λ (t : List ℕ). option_map_or decimal_of (before_close t) None) joined
    ∙ ap (λ (o : Option (List ℕ)). option_map_or decimal_of o None) (before-close (decimal p ++ (44 ∷ decimal s)))
    ∙ decimal-read p s f g

spelled-char : (n : ℕ) → n < 10 ^ 64 → type_spelled (type_text (Char n)) ≡ Some (Char n)
unfolding type_spelled type_text
spelled-char n f =
    ap (λ (o : Option (List ℕ)). option_map_or char_of o None) (before-close (decimal n))
    ∙ ap (λ (o : Option ℕ). option_map (λ m. Char m) o) (number-is n f)

spelled-varchar : (n : ℕ) → n < 10 ^ 64 → type_spelled (type_text (Varchar n)) ≡ Some (Varchar n)
unfolding type_spelled type_text
spelled-varchar n f =
    ap (λ (o : Option (List ℕ)). option_map_or varchar_of o None) (before-close (decimal n))
    ∙ ap (λ (o : Option ℕ). option_map (λ m. Varchar m) o) (number-is n f)

spelled-bigint : type_spelled (type_text BigInt) ≡ Some BigInt
unfolding type_spelled type_text
spelled-bigint = refl

spelled : (ty : Ty) → in_bounds ty ≡ true → type_spelled (type_text ty) ≡ Some ty
spelled BigInt e = spelled-bigint
spelled (DecimalOf p s) e =
    let b = and_parts (is_from_one p MOST_DIGITS) (nat_le s p) e in
    let few = leb-true p MOST_DIGITS (and_parts (nat_le 1 p) (nat_le p MOST_DIGITS) b.0).1 in
    let fewer = leb-true s p b.1 in
    spelled-decimal p s (omega arith) (omega arith)
spelled (Char n) e = spelled-char n (within n TEXT_CHARACTERS (omega arith) e)
spelled (Varchar n) e = spelled-varchar n (within n TEXT_CHARACTERS (omega arith) e)

-- a text in ASCII, its letters in lower case, without blanks
record IsPlainWord (text : List ℕ) : Type 0 where
  ascii : list_all (λ c. nat_lt c 128) text ≡ true
  lower : map to_ascii_lowercase text ≡ text
  free : list_any is_blank text ≡ false

join : (xs ys : List ℕ) → IsPlainWord xs → IsPlainWord ys → IsPlainWord (xs ++ ys)
join xs ys x y = record {
  ascii = list_all-append (λ c. nat_lt c 128) xs ys ∙ and_from (list_all (λ c. nat_lt c 128) xs) (list_all (λ c. nat_lt c 128) ys) x.ascii y.ascii;
  lower = map-append to_ascii_lowercase xs ys ∙ ap (λ (t : List ℕ). t ++ map to_ascii_lowercase ys) x.lower ∙ ap (λ (t : List ℕ). xs ++ t) y.lower;
  free = list_any-append is_blank xs ys ∙ or_from (list_any is_blank xs) (list_any is_blank ys) x.free y.free;
}

digits-word : (n : ℕ) → n < 10 ^ 64 → IsPlainWord (decimal n)
digits-word n h = let is = spells n h in record {
  ascii = ascii-digits (decimal n) is.digits;
  lower = lower-digits (decimal n) is.digits;
  free = no-digit is_blank (decimal n) blank-no-digit is.digits;
}

in-parentheses : (word inner : List ℕ) → IsPlainWord word → IsPlainWord inner → IsPlainWord (word ++ (inner ++ codes ")"))
in-parentheses word inner w i = join word (inner ++ codes ")") w (join inner (codes ")") i (record { ascii = refl; lower = refl; free = refl }))

type-word : (ty : Ty) → in_bounds ty ≡ true → IsPlainWord (type_text ty)
unfolding type_text
type-word BigInt e = record { ascii = refl; lower = refl; free = refl }
type-word (DecimalOf p s) e =
    let b = and_parts (is_from_one p MOST_DIGITS) (nat_le s p) e in
    let few = leb-true p MOST_DIGITS (and_parts (nat_le 1 p) (nat_le p MOST_DIGITS) b.0).1 in
    let fewer = leb-true s p b.1 in
    join (codes "decimal(") (decimal p ++ (44 ∷ (decimal s ++ codes ")"))) (record { ascii = refl; lower = refl; free = refl })
    (join (decimal p) (44 ∷ (decimal s ++ codes ")")) (digits-word p (omega arith)) (in-parentheses (44 ∷ []) (decimal s) (record { ascii = refl; lower = refl; free = refl }) (digits-word s (omega arith))))
type-word (Char n) e = in-parentheses (codes "char(") (decimal n) (record { ascii = refl; lower = refl; free = refl }) (digits-word n (within n TEXT_CHARACTERS (omega arith) e))
type-word (Varchar n) e = in-parentheses (codes "varchar(") (decimal n) (record { ascii = refl; lower = refl; free = refl }) (digits-word n (within n TEXT_CHARACTERS (omega arith) e))

type-some : (ty : Ty) → 0 < length (type_text ty)
unfolding type_text
type-some BigInt = omega arith
type-some (DecimalOf p s) = omega arith
type-some (Char n) = omega arith
type-some (Varchar n) = omega arith

pub types-read : ReadsTypes
types-read ty e =
    let word = type-word ty e in
    record {
      type_is = spelled ty e;
      some = type-some ty;
      utf8 = ascii-text (type_text ty) word.ascii;
      lower = word.lower;
      free = word.free;
    }
