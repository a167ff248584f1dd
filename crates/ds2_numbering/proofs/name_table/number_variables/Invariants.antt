use Rattle.std.proofs.Common.{◌≡◌, ℕ, List, drop}
use Rattle.ds2_program_code.specs.PlacedProgram.{names_of_variables}
use Rattle.ds2_numbering.specs.NameNumbers.{number_under}
use Rattle.ds2_numbering.specs.Searching.{search_names}
use Rattle.ds2_numbering.proofs.NumberLemmas.{reached}
use Rattle.ds2_numbering.proofs.name_table.number_variables.Given as goal

abbrev pub invariant-variables : goal.invariant-variables
invariant-variables l = (name : List ℕ) →
    search_names name (names_of_variables (drop l.variable-index l.variables)) (reached (number_under l.numbers name) l.seen)
    ≡ search_names name (names_of_variables l.variables) (reached (number_under l.fn.numbers name) l.fn.first)
