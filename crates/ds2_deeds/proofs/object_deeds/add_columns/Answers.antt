use Rattle.std.proofs.Common.{List, [], ◌∷◌, map, Some, refl, ap, ◌∙◌, arith}
use Rattle.std.proofs.lemmas.Grind.{common_steps}
use Rattle.ds2_meaning.specs.declared.globals.OutputColumn.{OutputColumn}
use Rattle.ds2_meaning.specs.HashObjects.{object_at}
use Rattle.ds2_meaning.specs.Location.{Location}
use Rattle.ds2_locality.specs.Deeds.{Mention, columns_at}
use Rattle.ds2_deeds.specs.NamedLocations.{code_home}
use Rattle.ds2_deeds.specs.NumberedDeeds.{numbers_of, with_deeds}
use Rattle.ds2_deeds.proofs.DeedLemmas.{none_added, item_added}
use Rattle.ds2_deeds.proofs.object_deeds.add_columns.Goals as goal

pub returns : goal.returns
returns c = grind (arith, common_steps, none_added (numbers_of c.args.numbers) c.columns.deeds, c.columns.invariant)

pub columns-preserved : goal.columns-preserved
columns-preserved c =
    let n = numbers_of c.args.numbers in
    let home = code_home c.args.home in
    let is = c.in_ok-add_mention.ensures ∙ ap (λ (at : Location). with_deeds n (Mention at ∷ []) c.columns.deeds) c.named_location.ensures in
    item_added n (λ (l : List OutputColumn). map Mention (columns_at home (Some (map (λ (x : OutputColumn). x.source) l)))) (λ (x : OutputColumn). Mention (object_at home x.source) ∷ []) (λ x xs. refl)
    c.args.columns.now c.columns.column-index c.column-item.result c.columns.deeds _ _ c.columns-test.true c.column-item.is is c.columns.invariant
