use Rattle.std.proofs.Common.{◌≡◌}
use Rattle.ds2_local.proofs.PartLemmas.{NeverRisesTo}
use Rattle.ds2_local.proofs.cycles.never_rises.Given as goal

abbrev pub invariant-methods : goal.invariant-methods
invariant-methods l = record {
  number : l.number ≡ l.deeds-index;
  to : NeverRisesTo l.parts l.all l.number;
}
