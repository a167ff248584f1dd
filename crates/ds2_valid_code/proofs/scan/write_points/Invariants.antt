use Rattle.std.proofs.Common.{◌≡◌, List, Option, drop}
use Rattle.ds2_valid_code.specs.declared.owner.CodeOwner.{CodeOwner}
use Rattle.ds2_valid_code.specs.CodeScan.{with_entries, HasEntries}
use Rattle.ds2_valid_code.proofs.scan.write_points.Given as goal

abbrev pub invariant-points : goal.invariant-points
invariant-points l =
    (table : List (Option CodeOwner)) → HasEntries l.initial.entries table
    → (so_far : List (Option CodeOwner)) × HasEntries l.entries so_far × (with_entries so_far (drop l.point-index l.points) ≡ with_entries table l.points)
