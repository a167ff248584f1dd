use Rattle.std.proofs.Common.{◌≡◌}
use Rattle.ds2_local.proofs.ReachLemmas.{HasCycles}
use Rattle.ds2_local.proofs.cycles.head_effects.Given as goal

abbrev pub invariant-methods : goal.invariant-methods
invariant-methods l = record {
  number : l.number ≡ l.deeds-index;
  has : HasCycles l.count l.all l.effects l.number;
}
