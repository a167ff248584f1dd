use Rattle.std.proofs.Common.{◌≡◌, ◌++◌, drop}
use Rattle.std.specs.Prelude.{map}
use Rattle.ds2_given_names.specs.TooMany.{input_place}
use Rattle.ds2_given_names.proofs.too_many.beyond_inputs.Given as goal

abbrev pub invariant-inputs : goal.invariant-inputs
invariant-inputs l = l.places ++ map input_place (drop l.input-index l.inputs) ≡ map input_place l.inputs
