use Rattle.std.proofs.Common.{◌≡◌, take}
use Rattle.ds2_code.specs.Desk.{values_of_slots}
use Rattle.ds2_machine.specs.Kept.{slots_of_columns}
use Rattle.ds2_machine.proofs.record.row_of.Given as goal

abbrev pub invariant-loop-column : goal.invariant-loop-column
invariant-loop-column l = l.row ≡ values_of_slots (slots_of_columns (take l.column-index l.columns)) l.slots
