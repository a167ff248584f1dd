use Rattle.std.proofs.Common.{◌≡◌, ◌++◌, drop}
use Rattle.std.specs.Prelude.{map}
use Rattle.ds2_elaboration.specs.ProgramTypes.{read_by}
use Rattle.ds2_unit_parts.proofs.reading.by_variables.Given as goal

abbrev pub invariant-bys : goal.invariant-bys
invariant-bys l = l.all ++ map read_by (drop l.b-index l.bys) ≡ map read_by l.bys
