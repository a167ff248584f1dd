-- The header of a table is read as its columns.
use Rattle.std.proofs.Common.{◌≡◌, IsUtf8, ◌+◌, ℕ, Bool, true, false, List, [], ◌∷◌, ◌++◌, length, refl, sym, ap, ◌∙◌, append_assoc}
use Rattle.std.specs.Prelude.{not, nat_eq, map, Some, Result, Ok, Err, if◌then◌else◌}
use Rattle.std.specs.Cmp.Lexicographic.{pointwise}
use Rattle.std.specs.List.{AllByRecursion, list_all}
use Rattle.std.proofs.lemmas.Bool.{and_parts, and_from, or_from, or_parts, not-true, not_from_false}
use Rattle.std.proofs.lemmas.Cmp.{nat_list_eq_equiv}
use Rattle.std.proofs.lemmas.List.{append-nil}
use Rattle.std.proofs.lemmas.List.Folds.{list_any-append}
use Rattle.ds2_value.specs.Schema.{has_column, distinct_names, types_in_bounds}
use Rattle.ds2_value.specs.Types.{in_bounds}
use Rattle.ds2_value.specs.declared.schema.Column.{Column}
use Rattle.ds2_csv_cells.specs.Laws.{ReadsTypes}
use Rattle.ds2_csv.specs.Columns.{columns_from}
use Rattle.ds2_csv.specs.Header.{is_taken, distinct_heading, and_headings, headings_after, headings_of}
use Rattle.ds2_csv.proofs.Writable.{IsNamed}
use Rattle.ds2_csv.specs.Records.{Rows}
use Rattle.ds2_csv.specs.Refusals.{of_column}
use Rattle.ds2_csv.specs.Text.{heading_text}
use Rattle.ds2_csv.specs.declared.heading.Heading.{Heading}
use Rattle.ds2_csv.specs.declared.refusal.CsvKind.{CsvKind}
use Rattle.ds2_csv.specs.declared.refusal.CsvKind.TheVariants.{DuplicateColumn}
use Rattle.ds2_csv.specs.declared.refusal.CsvRefusal.{CsvRefusal}
use Rattle.ds2_csv.proofs.LawHeading.{heading-read, heading-text}

-- what a header cell tells of a column
abbrev pub heading : Column → Heading
heading c = record { name = c.name; ty = Some c.ty }

-- no column's name is taken
abbrev are_free : List Heading → List Column → Bool
are_free before columns = list_all (λ c. not (is_taken c.name before)) columns

free-more : (before : List Heading) (c : Column) (cs : List Column) → are_free before cs ≡ true → has_column c.name cs ≡ false → are_free (before ++ (heading c ∷ [])) cs ≡ true
free-more before c [] free apart = refl
free-more before c (d ∷ ds) free apart =
    let f = and_parts (not (is_taken d.name before)) (are_free before ds) free in
    let a = or_parts (pointwise nat_eq d.name c.name) (has_column c.name ds) apart in
    let other : pointwise nat_eq c.name d.name ≡ false = nat_list_eq_equiv.symm c.name d.name ∙ a.0 in
    let new : is_taken d.name (before ++ (heading c ∷ [])) ≡ false =
    list_any-append (λ h. pointwise nat_eq h.name d.name) before (heading c ∷ [])
    ∙ or_from (is_taken d.name before) (is_taken d.name (heading c ∷ [])) (not-true (is_taken d.name before) f.0) (or_from (pointwise nat_eq c.name d.name) false other refl) in
    and_from (not (is_taken d.name (before ++ (heading c ∷ [])))) (are_free (before ++ (heading c ∷ [])) ds) (not_from_false (is_taken d.name (before ++ (heading c ∷ []))) new) (free-more before c ds f.1 a.1)

headings-more : ReadsTypes → (before : List Heading) (cs : List Column) → AllByRecursion IsNamed cs → types_in_bounds cs ≡ true → distinct_names cs ≡ true → are_free before cs ≡ true
    → headings_after before (map heading_text cs) ≡ Ok (before ++ map heading cs)
unfolding headings_after
headings-more types before [] named bounds apart free = ap (λ (t : List Heading). Ok t) (sym (append-nil before))
headings-more types before (c ∷ cs) named bounds apart free =
    let b = and_parts (in_bounds c.ty) (types_in_bounds cs) bounds in
    let a = and_parts (not (has_column c.name cs)) (distinct_names cs) apart in
    let f = and_parts (not (is_taken c.name before)) (are_free before cs) free in
    let rest : List Heading → Result (List Heading) CsvRefusal = λ more. headings_after more (map heading_text cs) in
    ap (λ (r : Result Heading CsvKind). and_headings rest before (distinct_heading before (length before + 1) r)) (heading-read types c named.0 b.0)
    ∙ ap (λ t. and_headings rest before (if t then Err (of_column DuplicateColumn (length before + 1)) else Ok (heading c))) (not-true (is_taken c.name before) f.0)
    ∙ headings-more types (before ++ (heading c ∷ [])) cs named.1 b.1 a.1 (free-more before c cs f.1 (not-true (has_column c.name cs) a.0))
    ∙ ap (λ (t : List Heading). Ok t) (append_assoc before (heading c ∷ []) (map heading cs))

all-free : (cs : List Column) → are_free [] cs ≡ true
all-free [] = refl
all-free (c ∷ cs) = all-free cs

pub headings-read : ReadsTypes → (cs : List Column) → AllByRecursion IsNamed cs → types_in_bounds cs ≡ true → distinct_names cs ≡ true → headings_of (map heading_text cs) ≡ Ok (map heading cs)
headings-read types cs named bounds apart = headings-more types [] cs named bounds apart (all-free cs)

-- the columns of these headings are the columns, whatever the rows
pub columns-read : (column : ℕ) (cs : List Column) (rows : Rows) → columns_from column (map heading cs) rows ≡ cs
unfolding columns_from
columns-read column [] rows = refl
columns-read column (c ∷ cs) rows = ap (λ (t : List Column). c ∷ t) (columns-read (column + 1) cs rows)

pub header-text : ReadsTypes → (cs : List Column) → AllByRecursion IsNamed cs → types_in_bounds cs ≡ true → AllByRecursion IsUtf8 (map heading_text cs)
header-text types [] named bounds = tt
header-text types (c ∷ cs) named bounds =
    let b = and_parts (in_bounds c.ty) (types_in_bounds cs) bounds in
    (heading-text types c named.0 b.0, header-text types cs named.1 b.1)
