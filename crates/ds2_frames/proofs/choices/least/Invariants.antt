use Rattle.std.proofs.Common.{◌≡◌, drop}
use Rattle.std.specs.Prelude.{fold}
use Rattle.ds2_value.specs.Functions.{lesser_of}
use Rattle.ds2_value.specs.declared.value.Value.TheVariants.{Null}
use Rattle.ds2_frames.proofs.choices.least.Given as goal

abbrev pub invariant-values : goal.invariant-values
invariant-values l = fold lesser_of Null l.operands ≡ fold lesser_of l.best (drop l.v-index l.operands)
