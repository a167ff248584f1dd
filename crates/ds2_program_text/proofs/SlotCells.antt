-- The cells of slots under their columns, one after the other.
use Rattle.std.proofs.Common.{◌≡◌, ◌≤◌, ◌<◌, ℕ, Bool, true, false, List, [], ◌∷◌, ◌++◌, length, get_or, map, refl, sym, ap, ◌∙◌, arith, append_assoc}
use Rattle.std.specs.Prelude.{slice_get}
use Rattle.std.proofs.lemmas.List.{append-nil}
use Rattle.csv.specs.Writing.{default_writer, field_text, fields_text, row_body}
use Rattle.ds2_value.specs.Row.{Row, Columns}
use Rattle.ds2_value.specs.Value.{or_null}
use Rattle.ds2_value.specs.declared.schema.Column.{Column}
use Rattle.ds2_code.specs.Desk.{values_of_slots}
use Rattle.ds2_csv_cells.specs.CellText.{cell_text}
use Rattle.ds2_csv_records.specs.Records.{field_of, separator}
use Rattle.ds2_csv.specs.Text.{cells_text}
use Rattle.ds2_csv.proofs.Writing.{after, after_cons, row-none, row-short}

-- ---- cells that are left

-- cells of a record, the first of which may be the record's first
abbrev pub cells_from : Bool → List (List ℕ) → List ℕ
cells_from first [] = []
cells_from first (cell ∷ cells) = separator first ++ (field_of cell ++ cells_from false cells)

later_is : (cells : List (List ℕ)) → cells_from false cells ≡ fields_text default_writer cells
unfolding fields_text field_of
later_is [] = refl
later_is (cell ∷ cells) = ap (λ (t : List ℕ). 44 ∷ (field_text default_writer cell ++ t)) (later_is cells)

record_is : (cells : List (List ℕ)) → cells_from true cells ≡ row_body default_writer cells
unfolding field_of
record_is [] = refl
record_is (cell ∷ cells) = ap (λ (t : List ℕ). field_text default_writer cell ++ t) (later_is cells)

pub cell_added : (out comma new whole cell : List ℕ) (first : Bool) (left before : List (List ℕ)) → before ≡ cell ∷ left → comma ≡ out ++ separator first → new ≡ comma ++ field_of cell
    → out ++ cells_from first before ≡ whole → new ++ cells_from false left ≡ whole
cell_added out comma new whole cell first left before is mark text so_far =
    ap (λ (t : List ℕ). t ++ cells_from false left) (text ∙ ap (λ (t : List ℕ). t ++ field_of cell) mark)
    ∙ append_assoc (out ++ separator first) (field_of cell) (cells_from false left)
    ∙ append_assoc out (separator first) (field_of cell ++ cells_from false left)
    ∙ ap (λ (t : List (List ℕ)). out ++ cells_from first t) (sym is) ∙ so_far

pub cells_added : (old new : List ℕ) (first : Bool) (left whole : List (List ℕ)) → left ≡ [] → new ++ cells_from first left ≡ old ++ cells_from true whole → new ≡ old ++ row_body default_writer whole
cells_added old new first left whole none so_far =
    sym (append-nil new) ∙ ap (λ (t : List (List ℕ)). new ++ cells_from first t) (sym none) ∙ so_far ∙ ap (λ (t : List ℕ). old ++ t) (record_is whole)

-- ---- cells of slots

-- the values of the slots of named columns
abbrev pub values_named : List (List ℕ × ℕ) → Row → Row
values_named named slots = values_of_slots (map (λ (column : List ℕ × ℕ). column.1) named) slots

-- the cells of slots under their columns
abbrev pub cells_named : Columns → List (List ℕ × ℕ) → Row → List (List ℕ)
cells_named columns named slots = cells_text columns (values_named named slots)

values_left : (named : List (List ℕ × ℕ)) (slot : List ℕ × ℕ) (slots : Row) → 1 ≤ length named → slot ≡ get_or named 0 slot
    → values_named named slots ≡ or_null (slice_get slots slot.1) ∷ values_named (after named) slots
values_left [] slot slots some first = absurd (omega arith)
values_left (x ∷ named) slot slots some first =
    ap (λ (t : List ℕ × ℕ). or_null (slice_get slots t.1) ∷ values_named named slots) (sym first)
    ∙ ap (λ (t : List (List ℕ × ℕ)). or_null (slice_get slots slot.1) ∷ values_named t slots) (sym (after_cons x named))

-- the first of the cells that are left, and the others
pub cells_left : (columns : Columns) (column : Column) (named : List (List ℕ × ℕ)) (slot : List ℕ × ℕ) (slots : Row) → 1 ≤ length columns → column ≡ get_or columns 0 column
    → 1 ≤ length named → slot ≡ get_or named 0 slot
    → cells_named columns named slots ≡ cell_text column.ty (or_null (slice_get slots slot.1)) ∷ cells_named (after columns) (after named) slots
unfolding cells_text
cells_left [] column named slot slots some first more value = absurd (omega arith)
cells_left (x ∷ columns) column named slot slots some first more value =
    ap (λ (vs : Row). cells_text (x ∷ columns) vs) (values_left named slot slots more value)
    ∙ ap (λ (t : Column). cell_text t.ty (or_null (slice_get slots slot.1)) ∷ cells_text columns (values_named (after named) slots)) (sym first)
    ∙ ap (λ (t : Columns). cell_text column.ty (or_null (slice_get slots slot.1)) ∷ cells_text t (values_named (after named) slots)) (sym (after_cons x columns))

pub no_column : (columns : Columns) (named : List (List ℕ × ℕ)) (slots : Row) → length columns < 1 → cells_named columns named slots ≡ []
no_column columns named slots none = row-none columns (values_named named slots) none

pub no_slot : (columns : Columns) (named : List (List ℕ × ℕ)) (slots : Row) → length named < 1 → cells_named columns named slots ≡ []
no_slot columns [] slots none = row-short columns [] (omega arith)
no_slot columns (x ∷ named) slots none = absurd (omega arith)
