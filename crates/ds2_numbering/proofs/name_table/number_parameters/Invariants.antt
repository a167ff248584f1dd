use Rattle.std.proofs.Common.{◌≡◌, ℕ, List, map, drop}
use Rattle.ds2_meaning.specs.declared.methods.Parameter.{Parameter}
use Rattle.ds2_numbering.specs.NameNumbers.{number_under}
use Rattle.ds2_numbering.specs.Searching.{search_names}
use Rattle.ds2_numbering.proofs.NumberLemmas.{reached}
use Rattle.ds2_numbering.proofs.name_table.number_parameters.Given as goal

abbrev pub invariant-parameters : goal.invariant-parameters
invariant-parameters l = (name : List ℕ) →
    search_names name (map (λ (x : Parameter). x.name) (drop l.parameter-index l.parameters)) (reached (number_under l.numbers name) l.seen)
    ≡ search_names name (map (λ (x : Parameter). x.name) l.parameters) (reached (number_under l.fn.numbers name) l.fn.first)
