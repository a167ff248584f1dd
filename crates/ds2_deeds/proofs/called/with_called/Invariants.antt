use Rattle.std.proofs.Common.{◌≡◌, ◌++◌, drop}
use Rattle.std.specs.Prelude.{flat_map}
use Rattle.ds2_deeds.specs.NumberedCalls.{deeds_numbered, with_called}
use Rattle.ds2_deeds.proofs.called.with_called.Given as goal

abbrev pub invariant-numbers : goal.invariant-numbers
invariant-numbers l = l.whole ++ flat_map (deeds_numbered l.all) (drop l.number-index l.number-items) ≡ with_called l.all l.rounds l.deeds
