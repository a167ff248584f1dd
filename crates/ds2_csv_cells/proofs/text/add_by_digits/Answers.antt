use Rattle.std.proofs.Common.{arith}
use Rattle.std.proofs.Math.Nat.{one-le-pow}
use Rattle.ds2_csv_cells.proofs.text.add_by_digits.Goals as goal

pub nonzero_div-n : goal.nonzero_div-n
nonzero_div-n c = let p = one-le-pow c.args.scale 10 (omega arith) in omega (arith, p, c.pow.ensures)
