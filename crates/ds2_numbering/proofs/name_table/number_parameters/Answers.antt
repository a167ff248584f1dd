use Rattle.std.proofs.Common.{ℕ, List, map}
use Rattle.std.specs.Prelude.{bytes_eq}
use Rattle.ds2_meaning.specs.declared.methods.Parameter.{Parameter}
use Rattle.ds2_numbering.specs.NameNumbers.{number_under}
use Rattle.ds2_numbering.specs.Searching.{search_names}
use Rattle.ds2_numbering.proofs.NumberLemmas.{all_searched, reached}
use Rattle.ds2_numbering.proofs.name_table.number_parameters.Goals as goal

pub returns : goal.returns
returns c = λ name.
    let parameters = c.args.parameters.now in
    all_searched (λ (other : List ℕ). bytes_eq name other) (λ (x : Parameter). x.name) parameters c.parameters.parameter-index
    (reached (number_under c.parameters.numbers name) c.parameters.seen)
    (search_names name (map (λ (x : Parameter). x.name) parameters) (reached (number_under c.args.numbers.now name) c.args.first)) c.parameters-test.false (c.parameters.invariant name)
