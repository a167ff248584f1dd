use Rattle.std.proofs.Common.{List, map, Some, sym, ap, ◌∙◌}
use Rattle.std.proofs.lemmas.Result.{on_ok_weaker}
use Rattle.std.specs.Option.{option_copied}
use Rattle.ds2_meaning.specs.declared.globals.OutputColumn.{OutputColumn}
use Rattle.ds2_locality.specs.Deeds.{Deed, Mention, columns_at}
use Rattle.ds2_deeds.specs.NamedLocations.{code_home}
use Rattle.ds2_deeds.specs.NumberedDeeds.{numbers_of, with_deeds}
use Rattle.ds2_deeds.proofs.DeedLemmas.{none_added, equal_added}
use Rattle.ds2_deeds.proofs.ItemLemmas.{no_output, that_output}
use Rattle.ds2_deeds.proofs.object_deeds.add_output.Goals as goal

pub returns-in-None : goal.returns-in-None
returns-in-None c =
    let n = numbers_of c.args.numbers in
    let deeds = c.args.deeds.now in
    let is = no_output (code_home c.args.scope.now.home) c.args.scope.now.outputs.now c.args.number (option_copied c.find_output.result) c.find_output.ensures (ap option_copied c.in-None.is) in
    sym (ap (λ (l : List Deed). with_deeds n l deeds) is ∙ none_added n deeds)

pub returns-in-Some : goal.returns-in-Some
returns-in-Some c =
    let n = numbers_of c.args.numbers in
    let home = code_home c.args.scope.now.home in
    let deeds = c.args.deeds.now in
    let is = that_output home c.args.scope.now.outputs.now c.args.number (option_copied c.find_output.result) _ c.find_output.ensures (ap option_copied c.in-Some.is) in
    on_ok_weaker c.add_columns.result
    (λ e. equal_added n (λ (l : List OutputColumn). map Mention (columns_at home (Some (map (λ (x : OutputColumn). x.source) l)))) _ _ _ _ c.as_slice.ensures e ∙ sym (ap (λ (l : List Deed). with_deeds n l deeds) is)) c.add_columns.ensures
