use Rattle.std.proofs.Common.{◌≡◌, ℕ, List, map, take}
use Rattle.ds2_code.specs.Desk.{values_of_slots}
use Rattle.ds2_unit.proofs.table_sink.row_of.Given as goal

abbrev pub invariant-columns : goal.invariant-columns
invariant-columns l = l.row ≡ values_of_slots (map (λ (column : List ℕ × ℕ). column.1) (take l.column-index l.columns)) l.slots
