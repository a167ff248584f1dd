use Rattle.std.proofs.Common.{◌≡◌, drop}
use Rattle.ds2_local.specs.Verdicts.{earlier_of_places, first_write_numbered}
use Rattle.ds2_local.proofs.verdict.first_write.Given as goal

abbrev pub invariant-deeds : goal.invariant-deeds
invariant-deeds l = earlier_of_places l.found (first_write_numbered (drop l.deed-index l.deeds)) ≡ first_write_numbered l.deeds
