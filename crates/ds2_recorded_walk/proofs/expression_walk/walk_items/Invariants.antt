use Rattle.std.proofs.Common.{map, drop}
use Rattle.ds2_meaning.specs.View.{item_tree}
use Rattle.ds2_locality.specs.Walk.{walk_items}
use Rattle.ds2_recorded_walk.specs.RecordedStatements.{LeavesToGoOn}
use Rattle.ds2_recorded_walk.proofs.expression_walk.walk_items.Given as goal

abbrev pub invariant-items : goal.invariant-items
invariant-items l =
    LeavesToGoOn l.scope l.fn.walk l.walk (λ w. walk_items w (map item_tree (drop l.item-index l.items)) l.place) (λ w. walk_items w (map item_tree l.items) l.place)
