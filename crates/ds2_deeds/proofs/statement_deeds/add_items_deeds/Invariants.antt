use Rattle.std.proofs.Common.{◌≡◌, map, drop}
use Rattle.ds2_meaning.specs.View.{item_tree}
use Rattle.ds2_locality.specs.Deeds.{item_deeds}
use Rattle.ds2_deeds.specs.CodeTrees.{scope_of}
use Rattle.ds2_deeds.specs.NumberedDeeds.{numbers_of, with_deeds}
use Rattle.ds2_deeds.proofs.statement_deeds.add_items_deeds.Given as goal

abbrev pub invariant-items : goal.invariant-items
invariant-items l =
    with_deeds (numbers_of l.numbers) (item_deeds (scope_of l.scope) (map item_tree (drop l.item-index l.items))) l.deeds
    ≡ with_deeds (numbers_of l.numbers) (item_deeds (scope_of l.scope) (map item_tree l.items)) l.fn.deeds
