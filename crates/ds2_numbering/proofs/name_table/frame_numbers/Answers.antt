use Rattle.std.proofs.Common.{◌≡◌, ℕ, List, ◌++◌, map, ap, ◌∙◌}
use Rattle.ds2_meaning.specs.declared.globals.Variable.{Variable}
use Rattle.ds2_meaning.specs.declared.methods.Parameter.{Parameter}
use Rattle.ds2_meaning.specs.View.{typed_method}
use Rattle.ds2_program_code.specs.PlacedProgram.{number_of_name, names_of_variables, frame_names}
use Rattle.ds2_numbering.proofs.NumberLemmas.{both_named}
use Rattle.ds2_numbering.proofs.name_table.frame_numbers.Goals as goal

pub returns : goal.returns
returns c = λ name.
    let m = c.args.method.now in
    let named : List Parameter → List (List ℕ) = λ parameters. map (λ (x : Parameter). x.name) parameters in
    let some = named c.as_slice-parameters.result.now in
    let others = names_of_variables c.as_slice-locals.result.now in
    let same : some ++ others ≡ frame_names (typed_method m) =
    ap (λ (l : List Parameter). named l ++ others) c.as_slice-parameters.ensures ∙ ap (λ (l : List Variable). named m.parameters ++ names_of_variables l) c.as_slice-locals.ensures in
    both_named some others c.new-numbers.result c.number_parameters.new.numbers c.number_variables.new.numbers c.in_ok-behind.behind c.in_ok-_seen._seen
    c.new-numbers.ensures.empty c.in_ok-behind.ensures c.in_ok-_seen.ensures name
    ∙ ap (λ (names : List (List ℕ)). number_of_name names name) same
