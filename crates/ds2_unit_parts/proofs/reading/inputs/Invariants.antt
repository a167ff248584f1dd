use Rattle.std.proofs.Common.{◌≡◌, ◌++◌, drop}
use Rattle.std.specs.Prelude.{map}
use Rattle.ds2_names.specs.SourceUnit.{columns_stored}
use Rattle.ds2_elaboration.specs.ProgramTypes.{read_input}
use Rattle.ds2_unit_parts.proofs.reading.inputs.Given as goal

abbrev pub invariant-read : goal.invariant-read
invariant-read l = l.all ++ map (read_input (columns_stored l.tables) l.made) (drop l.i-index l.read) ≡ map (read_input (columns_stored l.tables) l.made) l.read
