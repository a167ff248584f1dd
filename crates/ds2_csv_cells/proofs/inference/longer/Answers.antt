use Rattle.std.proofs.Common.{arith}
use Rattle.ds2_csv_cells.proofs.CellLemmas.{chars-few}
use Rattle.ds2_csv_cells.proofs.inference.longer.Goals as goal

pub returns-then-text-longest : goal.returns-then-text-longest
returns-then-text-longest c = omega (arith, c.if-text-longest.true, chars-few c.args.text.now c.utf8.text)
