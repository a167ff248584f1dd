-- Tables of outputs, from their first row to their last.
use Rattle.std.proofs.Common.{◌≡◌, ◌&&◌, ◌∙◌, ◌+◌, IsTrue, Bool, true, false, ℕ, List, [], ◌∷◌, ◌++◌, map, Option, Some, None, Result, Ok, Err, OnOk, refl, sym, ap, subst, append_assoc}
use Rattle.std.specs.Prelude.{if◌then◌else◌, slice_get}
use Rattle.std.specs.Option.{option_map_or}
use Rattle.std.proofs.lemmas.List.{append-nil}
use Rattle.ds2_value.specs.Row.{Columns, Row}
use Rattle.ds2_value.specs.Run.{Written}
use Rattle.ds2_value.specs.Schema.{distinct_names, types_in_bounds}
use Rattle.ds2_value.specs.Types.{in_bounds}
use Rattle.ds2_value.specs.declared.ty.Ty.TheVariants.{BigInt}
use Rattle.ds2_table.specs.Table.{Contents}
use Rattle.ds2_code.specs.ValidCode.{output_fits}
use Rattle.ds2_code.specs.declared.parts.OutputPart.{OutputPart}
use Rattle.ds2_code.specs.declared.parts.Slot.{Slot}
use Rattle.ds2_slots.specs.LoadedHashes.{AreSlotTypesInBounds}
use Rattle.ds2_loads.proofs.SlotTypes.{type_within}
use Rattle.ds2_same_meaning.specs.SameMeaning.{tables_of_outputs}
use Rattle.ds2_unit.specs.Outputs.{HaveRows, RowTaken, column_of_output, columns_of_output, rows_of_output, tables_from, type_of_slot}
use Rattle.ds2_unit.proofs.OutputColumns.{columns_differ}
use Rattle.ds2_unit.proofs.OutputTables.{HasTaken}
use Rattle.ds2_program_text.proofs.WrittenRows.{HasWritten}
use Rattle.ds2_exec.specs.declared.output_sink.OutputSink.{OutputSink}
use Rattle.ds2_exec.specs.OutputSinks.{HasKept, HasSunk, KeptTaken, sink_begun, sink_ended}

-- ---- columns

both_true : (a b : Bool) → a ≡ true → b ≡ true → (a && b) ≡ true
both_true true b h k = k
both_true false b h k = absurd (cc h)

slot_within : (slots : List Slot) (n : ℕ) (found : Option Slot) → AreSlotTypesInBounds slots → found ≡ slice_get slots n → IsTrue (in_bounds (option_map_or (λ (s : Slot). s.ty) found BigInt))
slot_within slots n None h is = refl
slot_within slots n (Some slot) h is = type_within slots n slot h is

columns_within : (slots : List Slot) (named : List (List ℕ × ℕ)) → AreSlotTypesInBounds slots → IsTrue (types_in_bounds (map (column_of_output slots) named))
columns_within slots [] h = refl
columns_within slots (c ∷ named) h =
    both_true (in_bounds (type_of_slot slots c.1)) (types_in_bounds (map (column_of_output slots) named)) (slot_within slots c.1 (slice_get slots c.1) h refl) (columns_within slots named h)

-- the columns of an output of valid code are those of a table
pub columns_bounded : (slots : List Slot) (output : OutputPart) (columns : Columns) → AreSlotTypesInBounds slots → columns ≡ columns_of_output slots output → IsTrue (types_in_bounds columns)
columns_bounded slots output columns h is = subst (λ (cs : Columns). IsTrue (types_in_bounds cs)) (sym is) (columns_within slots output.columns h)

pub columns_apart : (slots : List Slot) (output : OutputPart) (columns : Columns) → IsTrue (output_fits output) → columns ≡ columns_of_output slots output → IsTrue (distinct_names columns)
columns_apart slots output columns h is = subst (λ (cs : Columns). IsTrue (distinct_names cs)) (sym is) (columns_differ slots output.columns h)

-- ---- one row

-- these rows under the columns of a table
abbrev with_rows_of : Contents → List Row → Contents
with_rows_of t rows = record { columns = t.columns; rows = rows }

kept_from : (from before after : Option Contents) (so_far : List Row) (row : Row) → KeptTaken before after row → HasKept from before so_far → HasKept from after (so_far ++ row ∷ [])
kept_from None before after so_far row step taken = subst (λ (b : Option Contents). KeptTaken b after row) taken step
kept_from (Some t) before after so_far row step taken =
    subst (λ (b : Option Contents). KeptTaken b after row) taken step
    ∙ ap (λ (rows : List Row). Some (with_rows_of t rows)) (append_assoc t.rows so_far (row ∷ []))

-- where rows are not kept, nothing has changed
pub none_taken : (kept : Option Contents) (row : Row) → kept ≡ None → KeptTaken kept kept row
none_taken kept row is = subst (λ (k : Option Contents). KeptTaken k k row) (sym is) refl

-- where rows are kept, the row is behind the others
pub one_taken : (kept after : Option Contents) (before now : Contents) (row : Row) → kept ≡ Some before → after ≡ Some now → RowTaken HasTaken before now row → KeptTaken kept after row
one_taken kept after before now row is after_is taken =
    subst (λ (k : Option Contents). KeptTaken k after row) (sym is)
    (after_is ∙ ap (λ (t : Contents). Some t) (taken before [] (ap (with_rows_of before) (sym (append-nil before.rows)))))

pub ok_taken : {E : Type 0} (kept : Option Contents) (before now : Contents) (row : Row) (result : Result (Unit {0}) E) → kept ≡ Some before → OnOk result (RowTaken HasTaken before now row) → OnOk result (KeptTaken kept (Some now) row)
ok_taken kept before now row (Ok x) is taken = one_taken kept (Some now) before now row is refl taken
ok_taken kept before now row (Err e) is taken = taken

-- a row was taken as text, and kept where rows are kept
pub row_sunk : (before after : OutputSink) (row : Row) → RowTaken HasWritten before.written after.written row → KeptTaken before.kept after.kept row → RowTaken HasSunk before after row
row_sunk before after row text kept from so_far taken = (text from.written so_far taken.0, kept_from from.kept before.kept after.kept so_far row kept taken.1)

-- ---- all outputs

module _ (keeps : List ℕ → Bool) (slots : List Slot) where
  nothing_kept : (k : Bool) (columns : Columns) → HasKept (if k then Some (record { columns = columns; rows = [] }) else None) (if k then Some (record { columns = columns; rows = [] }) else None) []
  nothing_kept true columns = refl
  nothing_kept false columns = refl

  pub nothing_sunk : (number : ℕ) (outputs : List OutputPart) → HaveRows HasSunk [] number (map (sink_begun keeps slots) outputs) (map (sink_begun keeps slots) outputs)
  nothing_sunk number [] = tt
  nothing_sunk number (o ∷ outputs) = ((refl, nothing_kept (keeps o.name) (columns_of_output slots o)), nothing_sunk (number + 1) outputs)

  all_kept : (k : Bool) (columns : Columns) (rows : List Row) (now : Option Contents) → HasKept (if k then Some (record { columns = columns; rows = [] }) else None) now rows
      → now ≡ (if k then Some (record { columns = columns; rows = rows }) else None)
  all_kept true columns rows now h = h
  all_kept false columns rows now h = h

  pub all_sunk : (number : ℕ) (outputs : List OutputPart) (written : List Written) (nows : List OutputSink)
      → HaveRows HasSunk written number (map (sink_begun keeps slots) outputs) nows → nows ≡ map (sink_ended keeps) (tables_of_outputs outputs (tables_from slots number outputs written))
  all_sunk number [] written [] h = refl
  all_sunk number [] written (now ∷ nows) h = absurd h
  all_sunk number (o ∷ outputs) written [] h = absurd h
  all_sunk number (o ∷ outputs) written (now ∷ nows) h =
      let kept = all_kept (keeps o.name) (columns_of_output slots o) (rows_of_output number written) now.kept h.0.1 in
      λ i. record { written = h.0.0 i; kept = kept i } ∷ all_sunk (number + 1) outputs written nows h.1 i
