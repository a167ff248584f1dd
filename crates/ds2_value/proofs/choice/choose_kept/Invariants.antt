use Rattle.std.proofs.Common.{◌≡◌, drop}
use Rattle.std.specs.Prelude.{fold}
use Rattle.ds2_value.specs.Functions.{chosen_of}
use Rattle.ds2_value.specs.declared.value.Value.TheVariants.{Null}
use Rattle.ds2_value.proofs.choice.choose_kept.Given as goal

abbrev pub invariant-values : goal.invariant-values
invariant-values l = fold (chosen_of l.choice) Null l.args ≡ fold (chosen_of l.choice) l.best (drop l.v-index l.args)
