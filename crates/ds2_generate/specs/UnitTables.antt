-- The parts of a program's code beside its instructions, methods, slots and constants.
use Rattle.std.specs.Prelude.{◌≡◌, map, None}
use Rattle.ds2_meaning.specs.declared.globals.Variable.{Variable}
use Rattle.ds2_meaning.specs.declared.location.Global.TheVariants.{Parameter}
use Rattle.ds2_meaning.specs.ProgramTree.{UnitTree}
use Rattle.ds2_program_code.specs.CodeParts.{slot_of_global, hash_parts, iterator_parts, reading_part, output_part}
use Rattle.ds2_generate.specs.declared.program.TableParts.{TableParts}

-- these are the hash objects, iterators, parameters, reading and outputs of a program
pub record AreTablesOfUnit (p : UnitTree) (t : TableParts) : Type 0 where
  pub hashes : t.hashes ≡ hash_parts p
  pub iterators : t.iterators ≡ iterator_parts p
  pub parameters : t.parameters ≡ map (λ (v : Variable). slot_of_global p None (Parameter v.name)) p.parameters
  pub reading : t.reading ≡ reading_part p p.reading
  pub outputs : t.outputs ≡ map (output_part p) p.outputs
