use Rattle.std.proofs.Common.{◌≡◌, drop}
use Rattle.ds2_valid_code.specs.CodeScan.{points_clear}
use Rattle.ds2_valid_code.proofs.scan.points_clear.Given as goal

abbrev pub invariant-points : goal.invariant-points
invariant-points l = points_clear l.marks (drop l.point-index l.points) ≡ points_clear l.marks l.points
