-- The rows of each output of a program, and the tables that they make.
use Rattle.std.specs.Prelude.{ℕ, ◌+◌, nat_eq, List, [], ◌∷◌, ◌++◌, map, filter, slice_get}
use Rattle.std.specs.Option.{option_map_or}
use Rattle.ds2_value.specs.Row.{Row, Columns}
use Rattle.ds2_value.specs.Run.{Written}
use Rattle.ds2_value.specs.declared.schema.Column.{Column}
use Rattle.ds2_value.specs.declared.ty.Ty.{Ty}
use Rattle.ds2_value.specs.declared.ty.Ty.TheVariants.{BigInt}
use Rattle.ds2_table.specs.Table.{Contents}
use Rattle.ds2_code.specs.declared.parts.OutputPart.{OutputPart}
use Rattle.ds2_code.specs.declared.parts.ProgramParts.{ProgramParts}
use Rattle.ds2_code.specs.declared.parts.Slot.{Slot}

-- ---- rows

-- the rows that were written to the output of this number, in order
abbrev pub rows_of_output : ℕ → List Written → List Row
rows_of_output number written = map (λ (w : Written). w.row) (filter (λ (w : Written). nat_eq w.output number) written)

-- sinks, numbered from this number on, have each taken the rows of their output
abbrev pub HaveRows : {R : Type 0} → (R → R → List Row → Type 0) → List Written → ℕ → List R → List R → Type 0
HaveRows has_rows written number [] [] = Unit {0}
HaveRows has_rows written number [] (now ∷ more) = ⊥
HaveRows has_rows written number (from ∷ others) [] = ⊥
HaveRows has_rows written number (from ∷ others) (now ∷ more) = has_rows from now (rows_of_output number written) × HaveRows has_rows written (number + 1) others more

-- a sink takes a row behind those that it has taken, whatever they are
abbrev pub RowTaken : {R : Type 0} → (R → R → List Row → Type 0) → R → R → Row → Type 0
RowTaken {R} has_rows before after row = (from : R) (so_far : List Row) → has_rows from before so_far → has_rows from after (so_far ++ row ∷ [])

-- ---- tables

-- the type of a slot; each output of valid code has slots that are there
abbrev pub type_of_slot : List Slot → ℕ → Ty
type_of_slot slots n = option_map_or (λ (s : Slot). s.ty) (slice_get slots n) BigInt

-- the column of an output that has this name and this slot
abbrev pub column_of_output : List Slot → List ℕ × ℕ → Column
column_of_output slots c = record { name = c.0; ty = type_of_slot slots c.1 }

-- the columns of an output
abbrev pub columns_of_output : List Slot → OutputPart → Columns
columns_of_output slots output = map (column_of_output slots) output.columns

-- a table with the columns of an output, and these rows
abbrev pub table_of_output : List Slot → OutputPart → List Row → Contents
table_of_output slots output rows = record { columns = columns_of_output slots output; rows = rows }

-- the tables of outputs that are numbered from this number on, from the rows that were written
abbrev pub tables_from : List Slot → ℕ → List OutputPart → List Written → List Contents
tables_from slots number [] written = []
tables_from slots number (output ∷ outputs) written =
    table_of_output slots output (rows_of_output number written) ∷ tables_from slots (number + 1) outputs written

-- the table of each output of a program, from the rows that it wrote
abbrev pub tables_written : ProgramParts → List Written → List Contents
tables_written code written = tables_from code.slots 0 code.outputs written
