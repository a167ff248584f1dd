use Rattle.std.proofs.Common.{◌≡◌, ◌++◌, length}
use Rattle.csv.specs.Writing.{default_writer, fields_text}
use Rattle.ds2_csv.specs.Text.{cells_text}
use Rattle.ds2_csv.proofs.write.later_cells.Given as goal

abbrev pub invariant-cells : goal.invariant-cells
invariant-cells l = l.out ++ fields_text default_writer (cells_text l.later l.rest) ≡ l.fn.out ++ fields_text default_writer (cells_text l.columns l.row)

abbrev pub decreases-cells : goal.decreases-cells
decreases-cells l = length l.later
