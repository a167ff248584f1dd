use Rattle.std.proofs.Common.{◌≡◌, ◌++◌, take, drop}
use Rattle.ds2_valid_code.specs.CodeScan.{method_points}
use Rattle.ds2_valid_code.proofs.OwnerLemmas.{FindsFirst}
use Rattle.ds2_valid_code.proofs.owner.method_points.Given as goal

abbrev pub invariant-methods : goal.invariant-methods
invariant-methods l =
    (l.next ≡ l.method-index) × FindsFirst l.numbers (take l.method-index l.methods)
    × (l.points.items ++ method_points l.methods (drop l.method-index l.methods) ≡ method_points l.methods l.methods)
