use Rattle.std.proofs.Common.{List, [], ◌∷◌, map, arith}
use Rattle.std.proofs.lemmas.Grind.{common_steps}
use Rattle.ds2_meaning.specs.declared.statements.PutItem.{PutItem}
use Rattle.ds2_meaning.specs.View.{item_tree}
use Rattle.ds2_locality.specs.Deeds.{item_deeds}
use Rattle.ds2_deeds.specs.CodeTrees.{scope_of}
use Rattle.ds2_deeds.specs.NumberedDeeds.{numbers_of}
use Rattle.ds2_deeds.proofs.DeedLemmas.{none_added, item_added}
use Rattle.ds2_deeds.proofs.ItemLemmas.{item_first}
use Rattle.ds2_deeds.proofs.statement_deeds.add_items_deeds.Goals as goal

pub returns : goal.returns
returns c = grind (arith, common_steps, none_added (numbers_of c.args.numbers) c.items.deeds, c.items.invariant)

pub items-preserved : goal.items-preserved
items-preserved c =
    let s = scope_of c.args.scope.now in
    item_added (numbers_of c.args.numbers) (λ (l : List PutItem). item_deeds s (map item_tree l)) (λ (x : PutItem). item_deeds s (item_tree x ∷ [])) (λ x xs. item_first s (item_tree x) (map item_tree xs))
    c.args.items.now c.items.item-index c.item-item.result c.items.deeds _ _ c.items-test.true c.item-item.is c.in_ok-add_item_deeds.ensures c.items.invariant
