use Rattle.std.proofs.Common.{◌≡◌, ◌≤◌, min, length, drop}
use Rattle.ds2_code.specs.CodeUnit.{row_slot_settings}
use Rattle.ds2_code.specs.Desk.{with_slot_settings}
use Rattle.ds2_loads.proofs.columns.set_columns.Given as goal

abbrev pub invariant-columns : goal.invariant-columns
invariant-columns l =
    (l.slots ≡ with_slot_settings (row_slot_settings l.parts (drop l.column l.numbers) (drop l.column l.row)) l.initial.slots)
    × (l.column ≤ min (length l.numbers) (length l.row))

abbrev pub decreases-columns : goal.decreases-columns
decreases-columns l = l.column
