use Rattle.ds2_local.proofs.SettleLemmas.{HasFirstEffects}
use Rattle.ds2_local.proofs.settled.first_effects.Given as goal

abbrev pub invariant-methods : goal.invariant-methods
invariant-methods l = HasFirstEffects l.cycles l.effects l.cycle-index
