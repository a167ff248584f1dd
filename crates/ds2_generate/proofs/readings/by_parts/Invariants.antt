use Rattle.std.proofs.Common.{◌≡◌, ◌++◌, map, drop}
use Rattle.ds2_generate.specs.PartsAmong.{by_part_among}
use Rattle.ds2_generate.proofs.readings.by_parts.Given as goal

abbrev pub invariant-bys : goal.invariant-bys
invariant-bys l = l.parts ++ map (by_part_among l.slots) (drop l.by-index l.bys) ≡ map (by_part_among l.slots) l.bys
