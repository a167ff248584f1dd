use Rattle.std.proofs.Common.{◌≡◌, drop, Some}
use Rattle.ds2_value.specs.Functions.{all_beside, chosen_of, choice_of}
use Rattle.ds2_value.proofs.ChoiceLemmas.{chosen_from}
use Rattle.ds2_value.proofs.choice.choose_scaled.Given as goal

abbrev pub invariant-values : goal.invariant-values
invariant-values l =
    choice_of (chosen_of l.choice) (all_beside (Some l.scale) l.args)
    ≡ chosen_from (chosen_of l.choice) l.best (all_beside (Some l.scale) (drop l.v-index l.args))
