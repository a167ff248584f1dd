use Rattle.std.proofs.Common.{◌≡◌, ◌++◌, drop}
use Rattle.ds2_names.specs.NameRules.{from_each}
use Rattle.ds2_given_names.specs.TooMany.{real_place}
use Rattle.ds2_given_names.proofs.too_many.beyond_outputs.Given as goal

abbrev pub invariant-outputs : goal.invariant-outputs
invariant-outputs l = l.places ++ from_each real_place (drop l.o-index l.outputs) ≡ from_each real_place l.outputs
