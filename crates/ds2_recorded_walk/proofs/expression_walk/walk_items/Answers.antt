use Rattle.std.proofs.Common.{List, map, refl}
use Rattle.std.proofs.lemmas.List.{drop_all}
use Rattle.ds2_meaning.specs.declared.statements.PutItem.{PutItem}
use Rattle.ds2_meaning.specs.View.{item_tree}
use Rattle.ds2_locality.specs.Walk.{WalkScope, walk_items}
use Rattle.ds2_deeds.proofs.DeedLemmas.{drop_next}
use Rattle.ds2_recorded_walk.proofs.GoesLemmas.{leaves_whole, item_gone, none_left}
use Rattle.ds2_recorded_walk.proofs.expression_walk.walk_items.Goals as goal

pub items-init : goal.items-init
items-init c = leaves_whole c.args.scope.now c.args.walk.now _

pub items-preserved : goal.items-preserved
items-preserved c =
    let s = c.args.scope.now in
    item_gone s (λ (l : List PutItem) (w : WalkScope). walk_items w (map item_tree l) c.args.place) _ _ c.item-item.result
    (drop_next c.args.items.now c.items.item-index c.item-item.result c.items-test.true c.item-item.is) c.items.invariant (c.in_ok-walk_item.ensures _)

pub returns : goal.returns
returns c =
    none_left c.args.scope.now (λ (l : List PutItem) (w : WalkScope). walk_items w (map item_tree l) c.args.place) _ (drop_all c.items.item-index c.args.items.now c.items-test.false) refl c.items.invariant
