use Rattle.std.proofs.Common.{◌≡◌, ◌≤◌, [], min, length, drop, get_or}
use Rattle.ds2_code.specs.CodeUnit.{row_slot_settings}
use Rattle.ds2_code.specs.Desk.{with_slot_settings}
use Rattle.ds2_loads.proofs.columns.set_cells.Given as goal

abbrev pub invariant-columns : goal.invariant-columns
invariant-columns l =
    let values = get_or l.table.rows l.row [] in
    (l.slots ≡ with_slot_settings (row_slot_settings l.parts (drop l.column l.numbers) (drop l.column values)) l.initial.slots)
    × (l.column ≤ min (length l.numbers) (length values))

abbrev pub decreases-columns : goal.decreases-columns
decreases-columns l = l.column
