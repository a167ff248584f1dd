use Rattle.ds2_program_code.specs.PlacedProgram.{names_of_variables}
use Rattle.ds2_numbering.proofs.NumberLemmas.{first_named}
use Rattle.ds2_numbering.proofs.name_table.variable_numbers.Goals as goal

pub returns : goal.returns
returns c = first_named (names_of_variables c.args.variables.now) c.new-numbers.result c.number_variables.new.numbers c.in_ok-_seen._seen c.new-numbers.ensures.empty c.in_ok-_seen.ensures
