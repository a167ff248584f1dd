use Rattle.std.proofs.Common.{◌≡◌, ◌++◌, length, true}
use Rattle.ds2_program_text.proofs.SlotCells.{cells_from, cells_named}
use Rattle.ds2_program_text.proofs.records.add_cells.Given as goal

abbrev pub invariant-cells : goal.invariant-cells
invariant-cells l = l.out ++ cells_from l.is_first (cells_named l.later l.rest l.slots) ≡ l.fn.out ++ cells_from true (cells_named l.columns l.named l.slots)

abbrev pub decreases-cells : goal.decreases-cells
decreases-cells l = length l.later
