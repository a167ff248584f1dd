use Rattle.std.proofs.Common.{◌≡◌}
use Rattle.ds2_local.proofs.SettleLemmas.{HasCycleEffects}
use Rattle.ds2_local.proofs.cycles.cycle_effects.Given as goal

abbrev pub invariant-methods : goal.invariant-methods
invariant-methods l = record {
  number : l.number ≡ l.deeds-index;
  has : HasCycleEffects l.count l.all l.effects l.number;
}
