-- Rows that are kept in a list.
use Rattle.std.specs.Prelude.{ℕ, List, map}
use Rattle.ds2_value.specs.Run.{Written}
use Rattle.ds2_machine.specs.declared.record.OutRow.{OutRow}

-- a row that was written
abbrev pub as_written : OutRow → Written
as_written r = record { output = r.output; row = r.row }

-- rows that were written, in order
abbrev pub all_written : List OutRow → List Written
all_written rows = map as_written rows

-- the slots of columns
abbrev pub slots_of_columns : List (List ℕ × ℕ) → List ℕ
slots_of_columns columns = map (λ (column : List ℕ × ℕ). column.1) columns
