-- The cell of a value is read as the value.
use Rattle.std.proofs.Common.{◌≡◌, IsUtf8, ◌-◌, ◌^◌, ◌<◌, ◌≤◌, ℕ, suc, Bool, true, false, List, [], ◌∷◌, ◌++◌, refl, sym, ap, subst, ◌∙◌, arith, lit<}
use Rattle.std.specs.Prelude.{◌==◌, nat_lt, nat_le, replicate, codes, ℤ, pos, negsuc, ◌*ℤ◌, Option, Some, None, option_map, option_and_then, Result, Ok, Err, if◌then◌else◌}
use Rattle.std.specs.Char.{is_ascii_digit}
use Rattle.std.specs.Fmt.{decimal, signed_decimal}
use Rattle.std.specs.Result.{result_ok}
use Rattle.std.specs.Str.{all_ascii_digits, is_utf8}
use Rattle.std.proofs.Math.IntN.{*ℤ-one, one}
use Rattle.std.proofs.Math.Nat.{pow-zero}
use Rattle.std.proofs.lemmas.Bool.{and_parts, eqb-true, le-leb, ltb-true}
use Rattle.std.proofs.lemmas.Bool.Decides.{nat_tests}
use Rattle.std.proofs.lemmas.List.{append-nil}
use Rattle.std.proofs.lemmas.Str.{IsUtf8-append, IsUtf8-nil}
use Rattle.ds2_base.specs.Characters.{char_count}
use Rattle.ds2_decimal.specs.Arithmetic.{rescale, within}
use Rattle.ds2_decimal.specs.Decimal.{Decimal, IsDecimal, is_within, units_at}
use Rattle.ds2_decimal.specs.Rounding.{round}
use Rattle.ds2_decimal.specs.Laws.{ReadsWritten as ReadsDecimal}
use Rattle.ds2_decimal.specs.Text.{read, decimal_text}
use Rattle.ds2_decimal.specs.declared.dec.DecFault.{DecFault}
use Rattle.ds2_decimal.specs.declared.dec.DecFault.TheVariants.{Overflow}
use Rattle.ds2_value.specs.Keeping.{IsHeld}
use Rattle.ds2_value.specs.Types.{fits}
use Rattle.ds2_value.specs.Value.{fits_bigint}
use Rattle.ds2_value.specs.declared.ty.Ty.{Ty}
use Rattle.ds2_value.specs.declared.ty.Ty.TheVariants.{BigInt, Decimal as DecimalOf, Char, Varchar}
use Rattle.ds2_value.specs.declared.value.Value.{Value}
use Rattle.ds2_value.specs.declared.value.Value.TheVariants.{Null, Int, Dec, Txt}
use Rattle.ds2_csv_cells.specs.Cells.{is_missing, decoded, decimal_in, filled, text_value, value_of}
use Rattle.ds2_csv_cells.specs.Number.{size_of, below_zero, not_below_zero, integer_of}
use Rattle.ds2_csv_cells.specs.CellText.{null_text, escaped, cell_text}
use Rattle.ds2_csv_cells.proofs.LawDecimals.{written-ascii}
use Rattle.ds2_csv_cells.proofs.LawNumbers.{Spells, spells, ascii-digits}
use Rattle.ds2_csv_cells.proofs.LawAscii.{one-text, ascii-text}
use Rattle.ds2_csv_cells.proofs.NumberLemmas.{size_is}

-- ---- texts

-- a backslash in front is doubled and taken away again
slashes : (cs : List ℕ) → decoded (92 ∷ 92 ∷ cs) ≡ Some (92 ∷ cs)
slashes [] = refl
slashes (c ∷ cs) = refl

plain : (c : ℕ) (cs : List ℕ) → (c == 92) ≡ false → decoded (c ∷ cs) ≡ Some (c ∷ cs)
plain c [] e = refl
plain c (d ∷ []) e = rw e refl
plain c (d ∷ f ∷ ds) e = rw e refl

text-back : (t : List ℕ) → decoded (escaped t) ≡ Some t
text-back [] = refl
text-back (c ∷ cs) = by (c == 92) refl
  where
    by : (b : Bool) → (c == 92) ≡ b → decoded (if b then 92 ∷ c ∷ cs else c ∷ cs) ≡ Some (c ∷ cs)
    by true e = subst (λ (k : ℕ). decoded (92 ∷ k ∷ cs) ≡ Some (k ∷ cs)) (sym (eqb-true c 92 e)) (slashes cs)
    by false e = plain c cs e

char-read : (n : ℕ) (t : List ℕ) → (char_count t == n) ≡ true → text_value n true (Some t) ≡ Some (Txt t)
char-read n t e =
    let same : char_count t ≡ n = eqb-true (char_count t) n e in
    let fits : nat_le (char_count t) n ≡ true = le-leb (char_count t) n (omega arith) in
    let none : n - char_count t ≡ 0 = omega arith in
    ap (λ b. if b then Some (Txt (filled n t)) else None) fits ∙ ap (λ (k : ℕ). Some (Txt (t ++ replicate k 32))) none ∙ ap (λ (x : List ℕ). Some (Txt x)) (append-nil t)

varchar-read : (n : ℕ) (t : List ℕ) → nat_le (char_count t) n ≡ true → text_value n false (Some t) ≡ Some (Txt t)
varchar-read n t e = ap (λ b. if b then Some (Txt t) else None) e

-- ---- integers

not-missing : (c : ℕ) (cs : List ℕ) → (c == 92) ≡ false → is_missing (c ∷ cs) ≡ false
not-missing c [] e = refl
not-missing c (d ∷ []) e = rw e refl
not-missing c (d ∷ f ∷ ds) e = refl

no-slash : (c : ℕ) → is_ascii_digit c ≡ true → (c == 92) ≡ false
no-slash c e = grind (arith, nat_tests)

no-minus : (c : ℕ) → is_ascii_digit c ≡ true → (c == 45) ≡ false
no-minus c e = grind (arith, nat_tests)

size : (n : ℕ) (ds : List ℕ) → Spells n ds → n ≤ 2 ^ 63 → size_of ds ≡ Some n
size n ds is small = size_is ds is.well is.digits (omega (arith, is.number)) ∙ ap (λ (m : ℕ). Some m) is.number

whole-read : (n : ℕ) (ds : List ℕ) → Spells n ds → n < 2 ^ 63 → nat_lt n (2 ^ 63) ≡ true → (if is_missing ds then Some Null else option_map (λ i. Int i) (integer_of ds)) ≡ Some (Int (pos n))
unfolding integer_of
whole-read n [] is small test = let some = is.some in absurd (omega arith)
whole-read n (c ∷ cs) is small test =
    let digit = (and_parts (is_ascii_digit c) (all_ascii_digits cs) is.digits).0 in
    ap (λ b. if b then Some Null else option_map (λ i. Int i) (integer_of (c ∷ cs))) (not-missing c cs (no-slash c digit))
    ∙ ap (λ b. option_map (λ i. Int i) (if b then option_and_then below_zero (size_of cs) else option_and_then not_below_zero (size_of (c ∷ cs)))) (no-minus c digit)
    ∙ ap (λ (o : Option ℕ). option_map (λ i. Int i) (option_and_then not_below_zero o)) (size n (c ∷ cs) is (omega arith))
    ∙ ap (λ b. option_map (λ i. Int i) (if b then Some (pos n) else None)) test

integer-read : (i : ℤ) → fits_bigint i ≡ true → value_of BigInt (signed_decimal i) ≡ Some (Int i)
unfolding value_of integer_of
integer-read (pos n) e =
    let small = ltb-true n (2 ^ 63) e in
    whole-read n (decimal n) (spells n (omega arith)) small e
integer-read (negsuc n) e =
    let small = ltb-true n (2 ^ 63) e in
    ap (λ b. if b then Some Null else option_map (λ i. Int i) (integer_of (45 ∷ decimal (suc n)))) (not-missing 45 (decimal (suc n)) refl)
    ∙ ap (λ (o : Option ℕ). option_map (λ i. Int i) (option_and_then below_zero o)) (size (suc n) (decimal (suc n)) (spells (suc n) (omega arith)) (omega arith))

-- ---- decimals

-- a cell that stands for null spells no decimal
missing-none : (cell : List ℕ) → is_missing cell ≡ true → read cell ≡ None
missing-none [] e = refl
missing-none (a ∷ []) e = cc e
missing-none (a ∷ b ∷ []) e =
    let p = and_parts (a == 92) (b == 78) e in
    let x = eqb-true a 92 p.0 in
    let y = eqb-true b 78 p.1 in
    rw (x, y) refl
missing-none (a ∷ b ∷ c ∷ cs) e = cc e

given : (cell : List ℕ) (d : Decimal) → read cell ≡ Some d → is_missing cell ≡ false
given cell d e = by (is_missing cell) refl
  where
    by : (b : Bool) → is_missing cell ≡ b → b ≡ false
    by true f = cc (sym e ∙ missing-none cell f)
    by false f = refl

-- a decimal at its own scale
times-one : (z : ℤ) → z *ℤ pos 1 ≡ z
unfolding one
times-one z = *ℤ-one z

units-same : (d : Decimal) → units_at d.scale d ≡ d.units
units-same d =
    let none : d.scale - d.scale ≡ 0 = omega arith in
    ap (λ (k : ℕ). d.units *ℤ pos (10 ^ k)) none ∙ ap (λ (k : ℕ). d.units *ℤ pos k) (pow-zero 10) ∙ times-one d.units

in-own-scale : (p : ℕ) (d : Decimal) → is_within p d.units ≡ true → decimal_in p d.scale d ≡ Some (Dec d)
in-own-scale p d e =
    let kept : Result Decimal DecFault = Ok d in
    let same : nat_le d.scale d.scale ≡ true = le-leb d.scale d.scale (omega arith) in
    ap (λ b. if b then option_map (λ x. Dec x) (result_ok (rescale p d.scale d)) else None) same
    ∙ ap (λ b. option_map (λ x. Dec x) (result_ok (within p (if b then units_at d.scale d else round d.units (10 ^ (d.scale - d.scale))) d.scale))) same
    ∙ ap (λ (u : ℤ). option_map (λ x. Dec x) (result_ok (within p u d.scale))) (units-same d)
    ∙ ap (λ b. option_map (λ x. Dec x) (result_ok (if b then kept else Err Overflow))) e

decimal-read : (law : ReadsDecimal) (p s : ℕ) (d : Decimal) → IsDecimal d → (d.scale == s) ≡ true → is_within p d.units ≡ true → value_of (DecimalOf p s) (decimal_text d) ≡ Some (Dec d)
unfolding value_of
decimal-read law p s d valid e f =
    let spelt : read (decimal_text d) ≡ Some d = law d valid in
    ap (λ b. if b then Some Null else option_and_then (decimal_in p s) (read (decimal_text d))) (given (decimal_text d) d spelt)
    ∙ ap (λ (o : Option Decimal). option_and_then (decimal_in p s) o) spelt
    ∙ ap (λ (k : ℕ). decimal_in p k d) (sym (eqb-true d.scale s e))
    ∙ in-own-scale p d f

-- ---- all values

pub value-read : ReadsDecimal → (ty : Ty) (v : Value) → fits v ty ≡ true → IsHeld v → value_of ty (cell_text ty v) ≡ Some v
unfolding value_of cell_text
value-read law BigInt Null fit held = refl
value-read law (DecimalOf p s) Null fit held = refl
value-read law (Char n) Null fit held = refl
value-read law (Varchar n) Null fit held = refl
value-read law BigInt (Int i) fit held = integer-read i held
value-read law (DecimalOf p s) (Int i) fit held = cc fit
value-read law (Char n) (Int i) fit held = cc fit
value-read law (Varchar n) (Int i) fit held = cc fit
value-read law BigInt (Dec d) fit held = cc fit
value-read law (DecimalOf p s) (Dec d) fit held = let f = and_parts (d.scale == s) (is_within p d.units) fit in decimal-read law p s d held f.0 f.1
value-read law (Char n) (Dec d) fit held = cc fit
value-read law (Varchar n) (Dec d) fit held = cc fit
value-read law BigInt (Txt t) fit held = cc fit
value-read law (DecimalOf p s) (Txt t) fit held = cc fit
value-read law (Char n) (Txt t) fit held = ap (text_value n true) (text-back t) ∙ char-read n t (and_parts (is_utf8 t) (char_count t == n) fit).1
value-read law (Varchar n) (Txt t) fit held = ap (text_value n false) (text-back t) ∙ varchar-read n t (and_parts (is_utf8 t) (nat_le (char_count t) n) fit).1

-- ---- cells are texts

null-text : (ty : Ty) → IsUtf8 (null_text ty)
null-text BigInt = IsUtf8-nil
null-text (DecimalOf p s) = IsUtf8-nil
null-text (Char n) = ascii-text (codes "\\N") refl
null-text (Varchar n) = ascii-text (codes "\\N") refl

signed-text : (i : ℤ) → fits_bigint i ≡ true → IsUtf8 (signed_decimal i)
signed-text (pos n) e =
    let small = ltb-true n (2 ^ 63) e in
    ascii-text (decimal n) (ascii-digits (decimal n) (spells n (omega arith)).digits)
signed-text (negsuc n) e =
    let small = ltb-true n (2 ^ 63) e in
    ascii-text (45 ∷ decimal (suc n)) (ascii-digits (decimal (suc n)) (spells (suc n) (omega arith)).digits)

escaped-text : (t : List ℕ) → IsUtf8 t → IsUtf8 (escaped t)
escaped-text [] u = u
escaped-text (c ∷ cs) u = by (c == 92)
  where
    by : (b : Bool) → IsUtf8 (if b then 92 ∷ c ∷ cs else c ∷ cs)
    by true = IsUtf8-append (92 ∷ []) (c ∷ cs) (one-text 92 (lit< tt)) u
    by false = u

pub cell-text : (ty : Ty) (v : Value) → IsHeld v → IsUtf8 (cell_text ty v)
unfolding cell_text
cell-text ty Null held = null-text ty
cell-text ty (Int i) held = signed-text i held
cell-text ty (Dec d) held = ascii-text (decimal_text d) (written-ascii d held)
cell-text ty (Txt t) held = escaped-text t held
