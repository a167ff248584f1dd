use Rattle.std.proofs.Common.{◌≡◌, ◌++◌, map, drop}
use Rattle.std.specs.Option.{is_some}
use Rattle.ds2_local.proofs.settled.first_settled.Given as goal

abbrev pub invariant-methods : goal.invariant-methods
invariant-methods l = l.settled ++ map is_some (drop l.cycle-index l.cycles) ≡ map is_some l.cycles
