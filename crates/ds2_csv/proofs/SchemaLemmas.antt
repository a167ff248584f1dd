-- The columns of headings that were read make a schema.
use Rattle.std.proofs.Common.{◌≡◌, ◌≤◌, ◌+◌, ℕ, suc, Bool, true, false, List, [], ◌∷◌, ◌++◌, Option, Some, None, length, take, drop, refl, sym, ap, ◌∙◌, arith, length-append, unwrap_or}
use Rattle.std.specs.Prelude.{not, ◌&&◌, ◌||◌, nat_eq, nat_le, if◌then◌else◌, Result, Ok, Err}
use Rattle.std.specs.Cmp.Lexicographic.{pointwise}
use Rattle.std.specs.List.{list_all}
use Rattle.std.specs.Option.{is_some, option_map_or}
use Rattle.std.proofs.lemmas.Bool.{and_from, le-leb, leb-true, not-true}
use Rattle.std.proofs.lemmas.Cmp.{nat_list_eq_equiv}
use Rattle.std.proofs.lemmas.List.Folds.{list_all-append}
use Rattle.ds2_base.specs.Name.{name_of}
use Rattle.ds2_base.specs.declared.name.BadName.{BadName}
use Rattle.ds2_decimal.specs.Text.{read}
use Rattle.ds2_decimal.specs.declared.dec.TheConstants.{MOST_DIGITS}
use Rattle.ds2_value.specs.Schema.{has_column, distinct_names, types_in_bounds, is_schema, schema_of}
use Rattle.ds2_value.specs.Types.{in_bounds, is_from_one}
use Rattle.ds2_value.specs.declared.ty.TheConstants.{TEXT_CHARACTERS}
use Rattle.ds2_value.specs.declared.schema.Column.{Column}
use Rattle.ds2_value.specs.declared.ty.Ty.{Ty}
use Rattle.ds2_value.specs.declared.ty.Ty.TheVariants.{BigInt, Decimal as DecimalOf, Varchar}
use Rattle.ds2_csv_cells.specs.ColumnTypes.{greatest, digits_after, precision_of, width_of, some_and_all, given, are_integers, decimals_of, type_of_cells}
use Rattle.ds2_csv_cells.specs.Spelling.{is_blank, type_spelled}
use Rattle.ds2_csv.specs.Columns.{cells_of, columns_from}
use Rattle.ds2_csv.specs.Header.{last_place, plain_heading, typed_heading, heading_by, heading_of_text, heading_of, is_taken, distinct_heading, and_headings, headings_after, headings_of}
use Rattle.ds2_csv.specs.Records.{Rows}
use Rattle.ds2_csv.specs.Refusals.{of_column}
use Rattle.ds2_csv.specs.Typed.{are_typed}
use Rattle.ds2_csv.specs.declared.heading.Heading.{Heading}
use Rattle.ds2_csv.specs.declared.refusal.CsvKind.{CsvKind}
use Rattle.ds2_csv.specs.declared.refusal.CsvKind.TheVariants.{DuplicateColumn}
use Rattle.ds2_csv.specs.declared.refusal.CsvRefusal.{CsvRefusal}

both : (a b : Bool) → (a && b) ≡ true → (a ≡ true) × (b ≡ true)
both true b e = (refl, e)
both false b e = cc e

neither : (a b : Bool) → (a || b) ≡ false → (a ≡ false) × (b ≡ false)
neither true b e = cc e
neither false b e = (refl, e)

from-one : (n limit : ℕ) → 1 ≤ n → n ≤ limit → is_from_one n limit ≡ true
from-one n limit some few = and_from (nat_le 1 n) (nat_le n limit) (le-leb 1 n some) (le-leb n limit few)

-- a type out of cells is in bounds
decimals-bounds : (cells : List (List ℕ)) (other : Ty) → in_bounds other ≡ true → in_bounds (unwrap_or (decimals_of cells) other) ≡ true
decimals-bounds cells other h = by (some_and_all (λ cell. is_some (read cell)) cells && nat_le (precision_of cells) MOST_DIGITS) refl
  where
    by : (t : Bool) → (some_and_all (λ cell. is_some (read cell)) cells && nat_le (precision_of cells) MOST_DIGITS) ≡ t
        → in_bounds (unwrap_or (if t then Some (DecimalOf (precision_of cells) (greatest digits_after cells)) else None) other) ≡ true
    by true e =
        let few = leb-true (precision_of cells) MOST_DIGITS (both (some_and_all (λ cell. is_some (read cell)) cells) (nat_le (precision_of cells) MOST_DIGITS) e).1 in
        and_from (is_from_one (precision_of cells) MOST_DIGITS) (nat_le (greatest digits_after cells) (precision_of cells)) (from-one (precision_of cells) MOST_DIGITS (omega arith) few)
        (le-leb (greatest digits_after cells) (precision_of cells) (omega arith))
    by false e = h

type-bounds : (cells : List (List ℕ)) → in_bounds (type_of_cells cells) ≡ true
unfolding type_of_cells
type-bounds cells = by (are_integers (given cells))
  where
    by : (t : Bool) → in_bounds (if t then BigInt else unwrap_or (decimals_of (given cells)) (Varchar (width_of cells))) ≡ true
    by true = refl
    by false = decimals-bounds (given cells) (Varchar (width_of cells)) (from-one (width_of cells) TEXT_CHARACTERS (omega arith) (omega arith))

-- the type that a heading tells, if any, is in bounds
abbrev is_bounded : Heading → Bool
is_bounded h = option_map_or in_bounds h.ty true

column-bounds : (h : Heading) (cells : List (List ℕ)) → is_bounded h ≡ true → in_bounds (unwrap_or h.ty (type_of_cells cells)) ≡ true
column-bounds h cells = by h.ty
  where
    by : (o : Option Ty) → option_map_or in_bounds o true ≡ true → in_bounds (unwrap_or o (type_of_cells cells)) ≡ true
    by None e = type-bounds cells
    by (Some ty) e = e

columns-bounds : (column : ℕ) (hs : List Heading) (rows : Rows) → list_all is_bounded hs ≡ true → types_in_bounds (columns_from column hs rows) ≡ true
unfolding columns_from
columns-bounds column [] rows all = refl
columns-bounds column (h ∷ hs) rows all =
    let e = both (is_bounded h) (list_all is_bounded hs) all in
    and_from (in_bounds (unwrap_or h.ty (type_of_cells (cells_of column rows)))) (types_in_bounds (columns_from (column + 1) hs rows))
    (column-bounds h (cells_of column rows) e.0) (columns-bounds (column + 1) hs rows e.1)

pub columns-count : (column : ℕ) (hs : List Heading) (rows : Rows) → length (columns_from column hs rows) ≡ length hs
unfolding columns_from
columns-count column [] rows = refl
columns-count column (h ∷ hs) rows = ap (λ (n : ℕ). suc n) (columns-count (column + 1) hs rows)

-- columns have the names of their headings
distinct : List Heading → Bool
distinct [] = true
distinct (h ∷ hs) = not (is_taken h.name hs) && distinct hs

columns-name : (name : List ℕ) (column : ℕ) (hs : List Heading) (rows : Rows) → has_column name (columns_from column hs rows) ≡ is_taken name hs
unfolding columns_from
columns-name name column [] rows = refl
columns-name name column (h ∷ hs) rows = ap (λ b. pointwise nat_eq h.name name || b) (columns-name name (column + 1) hs rows)

columns-distinct : (column : ℕ) (hs : List Heading) (rows : Rows) → distinct_names (columns_from column hs rows) ≡ distinct hs
unfolding columns_from distinct
columns-distinct column [] rows = refl
columns-distinct column (h ∷ hs) rows =
    ap (λ b. not b && distinct_names (columns_from (column + 1) hs rows)) (columns-name h.name (column + 1) hs rows)
    ∙ ap (λ b. not (is_taken h.name hs) && b) (columns-distinct (column + 1) hs rows)

-- one more heading, whose name is not taken
not-taken : (name : List ℕ) (hs : List Heading) (h : Heading) → is_taken name hs ≡ false → pointwise nat_eq h.name name ≡ false → is_taken name (hs ++ (h ∷ [])) ≡ false
not-taken name [] h free apart = rw apart refl
not-taken name (x ∷ xs) h free apart =
    let e = neither (pointwise nat_eq x.name name) (is_taken name xs) free in
    rw e.0 (not-taken name xs h e.1 apart)

distinct-more : (hs : List Heading) (h : Heading) → distinct hs ≡ true → is_taken h.name hs ≡ false → distinct (hs ++ (h ∷ [])) ≡ true
unfolding distinct
distinct-more [] h apart free = refl
distinct-more (x ∷ xs) h apart free =
    let e = both (not (is_taken x.name xs)) (distinct xs) apart in
    let n = neither (pointwise nat_eq x.name h.name) (is_taken h.name xs) free in
    let other : pointwise nat_eq h.name x.name ≡ false = nat_list_eq_equiv.symm h.name x.name ∙ n.0 in
    let new = not-taken x.name xs h (not-true (is_taken x.name xs) e.0) other in
    and_from (not (is_taken x.name (xs ++ (h ∷ [])))) (distinct (xs ++ (h ∷ []))) (ap not new) (distinct-more xs h e.1 n.1)

-- a heading that was read
heading-apart : (before : List Heading) (column : ℕ) (r : Result Heading CsvKind) (h : Heading) → distinct_heading before column r ≡ Ok h → (r ≡ Ok h) × (is_taken h.name before ≡ false)
heading-apart before column (Err kind) h e = cc e
heading-apart before column (Ok x) h e = let apart = by (is_taken x.name before) refl e in (ap (λ (t : Heading). Ok t) apart.0, apart.1)
  where
    by : (t : Bool) → is_taken x.name before ≡ t → (if t then Err (of_column DuplicateColumn column) else Ok x) ≡ Ok h → (x ≡ h) × (is_taken h.name before ≡ false)
    by true f g = cc g
    by false f g = let same : x ≡ h = cc g in (same, rw same at f)

plain-bounded : (r : Result (List ℕ) BadName) (h : Heading) → plain_heading r ≡ Ok h → is_bounded h ≡ true
plain-bounded (Ok name) h e = let same : h ≡ record { name = name; ty = None } = cc e in ap is_bounded same
plain-bounded (Err bad) h e = cc e

typed-bounded : (name : List ℕ) (ty : Ty) (h : Heading) (t : Bool) → in_bounds ty ≡ t → typed_heading name (if t then Some ty else None) ≡ Ok h → is_bounded h ≡ true
typed-bounded name ty h true f e = let same : h ≡ record { name = name; ty = Some ty } = cc e in ap is_bounded same ∙ f
typed-bounded name ty h false f e = cc e

heading-bounded : (text : List ℕ) (r : Result (List ℕ) BadName) (o : Option Ty) (h : Heading) → heading_by text r o ≡ Ok h → is_bounded h ≡ true
heading-bounded text (Ok name) (Some ty) h e = typed-bounded name ty h (in_bounds ty) refl e
heading-bounded text (Ok name) None h e = plain-bounded (name_of text) h e
heading-bounded text (Err bad) o h e = plain-bounded (name_of text) h e

text-bounded : (text : List ℕ) (h : Heading) → heading_of_text text ≡ Ok h → is_bounded h ≡ true
unfolding heading_of_text
text-bounded text h = by (last_place is_blank text)
  where
    by : (o : Option ℕ) → option_map_or (λ i. heading_by text (name_of (take i text)) (type_spelled (drop (i + 1) text))) o (plain_heading (name_of text)) ≡ Ok h → is_bounded h ≡ true
    by None e = plain-bounded (name_of text) h e
    by (Some i) e = heading-bounded text (name_of (take i text)) (type_spelled (drop (i + 1) text)) h e

read-bounded : (cell : List ℕ) (h : Heading) → heading_of cell ≡ Ok h → is_bounded h ≡ true
unfolding heading_of
read-bounded cell h e = text-bounded _ h e

-- headings that were read: as many as header cells, in bounds and distinct
abbrev AreGood : List Heading → ℕ → Type 0
AreGood hs count = (list_all is_bounded hs ≡ true) × (distinct hs ≡ true) × (length hs ≡ count)

headings-good : (before : List Heading) (cells : List (List ℕ)) (hs : List Heading) → headings_after before cells ≡ Ok hs → list_all is_bounded before ≡ true → distinct before ≡ true
    → AreGood hs (length before + length cells)
unfolding headings_after
headings-good before [] hs e bounds apart = let same : before ≡ hs = cc e in (rw same at bounds, rw same at apart, ap length (sym same) ∙ omega arith)
headings-good before (cell ∷ cells) hs e bounds apart =
    by (distinct_heading before (length before + 1) (heading_of cell)) refl e (λ h. headings-good (before ++ (h ∷ [])) cells hs)
  where
    by : (r : Result Heading CsvRefusal) → distinct_heading before (length before + 1) (heading_of cell) ≡ r → and_headings (λ m. headings_after m cells) before r ≡ Ok hs
        → ((h : Heading) → headings_after (before ++ (h ∷ [])) cells ≡ Ok hs → list_all is_bounded (before ++ (h ∷ [])) ≡ true → distinct (before ++ (h ∷ [])) ≡ true
        → AreGood hs (length (before ++ (h ∷ [])) + length cells))
        → AreGood hs (length before + length (cell ∷ cells))
    by (Err refusal) f g more = cc g
    by (Ok h) f g more =
        let a = heading-apart before (length before + 1) (heading_of cell) h f in
        let one = and_from (is_bounded h) true (read-bounded cell h a.0) refl in
        let all = list_all-append is_bounded before (h ∷ []) ∙ and_from (list_all is_bounded before) (list_all is_bounded (h ∷ [])) bounds one in
        let good = more h g all (distinct-more before h apart a.1) in
        (good.0, good.1, omega (arith, good.2, length-append before (h ∷ [])))

pub headings-count : (cells : List (List ℕ)) (hs : List Heading) → headings_of cells ≡ Ok hs → length hs ≡ length cells
unfolding distinct
headings-count cells hs e = let good = headings-good [] cells hs e refl refl in omega (arith, good.2)

pub headings-schema : (cells : List (List ℕ)) (hs : List Heading) (rows : Rows) → headings_of cells ≡ Ok hs → is_schema (columns_from 0 hs rows) ≡ true
unfolding distinct
headings-schema cells hs rows e =
    let good = headings-good [] cells hs e refl refl in
    and_from (distinct_names (columns_from 0 hs rows)) (types_in_bounds (columns_from 0 hs rows)) (columns-distinct 0 hs rows ∙ good.1) (columns-bounds 0 hs rows good.0)

-- columns whose headings tell their types are the same over all rows
pub columns-typed : (column : ℕ) (hs : List Heading) (a b : Rows) → are_typed hs ≡ true → columns_from column hs a ≡ columns_from column hs b
unfolding columns_from
columns-typed column [] a b all = refl
columns-typed column (h ∷ hs) a b all =
    let e = both (is_some h.ty) (are_typed hs) all in
    ap (λ (ty : Ty). record { name = h.name; ty = ty } ∷ columns_from (column + 1) hs a) (by h.ty e.0)
    ∙ ap (λ (t : List Column). record { name = h.name; ty = unwrap_or h.ty (type_of_cells (cells_of column b)) } ∷ t) (columns-typed (column + 1) hs a b e.1)
  where
    by : (o : Option Ty) → is_some o ≡ true → unwrap_or o (type_of_cells (cells_of column a)) ≡ unwrap_or o (type_of_cells (cells_of column b))
    by None e = cc e
    by (Some ty) e = refl

-- columns of a schema are one
pub schema-some : (columns whole : List Column) → columns ≡ whole → is_schema whole ≡ true → schema_of columns ≡ None → ⊥
schema-some columns whole is good none =
    let apart = (both (distinct_names whole) (types_in_bounds whole) good).0 in
    by (distinct_names columns) (ap distinct_names is ∙ apart) none
  where
    by : (b : Bool) → b ≡ true → (if b then Some columns else None) ≡ None → ⊥
    by true e f = cc f
    by false e f = cc e
