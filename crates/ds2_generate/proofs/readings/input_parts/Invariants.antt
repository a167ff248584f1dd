use Rattle.std.proofs.Common.{◌≡◌, ◌++◌, map, drop}
use Rattle.ds2_generate.specs.PartsAmong.{input_part_among}
use Rattle.ds2_generate.proofs.readings.input_parts.Given as goal

abbrev pub invariant-inputs : goal.invariant-inputs
invariant-inputs l = l.parts ++ map (input_part_among l.slots) (drop l.input-index l.inputs) ≡ map (input_part_among l.slots) l.inputs
