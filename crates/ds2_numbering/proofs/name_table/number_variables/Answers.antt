use Rattle.std.proofs.Common.{ℕ, List}
use Rattle.std.specs.Prelude.{bytes_eq}
use Rattle.ds2_meaning.specs.declared.globals.Variable.{Variable}
use Rattle.ds2_program_code.specs.PlacedProgram.{names_of_variables}
use Rattle.ds2_numbering.specs.NameNumbers.{number_under}
use Rattle.ds2_numbering.specs.Searching.{search_names}
use Rattle.ds2_numbering.proofs.NumberLemmas.{all_searched, reached}
use Rattle.ds2_numbering.proofs.name_table.number_variables.Goals as goal

pub returns : goal.returns
returns c = λ name.
    let variables = c.args.variables.now in
    all_searched (λ (other : List ℕ). bytes_eq name other) (λ (x : Variable). x.name) variables c.variables.variable-index
    (reached (number_under c.variables.numbers name) c.variables.seen)
    (search_names name (names_of_variables variables) (reached (number_under c.args.numbers.now name) c.args.first)) c.variables-test.false (c.variables.invariant name)
