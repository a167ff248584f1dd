use Rattle.std.proofs.Common.{◌≡◌, map, drop}
use Rattle.ds2_meaning.specs.View.{item_tree}
use Rattle.ds2_program_code.specs.UsedConstants.{constants_of_items}
use Rattle.ds2_constants.specs.UsedOnce.{with_used}
use Rattle.ds2_constants.proofs.statements.collect_items.Given as goal

abbrev pub invariant-items : goal.invariant-items
invariant-items l = with_used (constants_of_items (map item_tree (drop l.item-index l.items))) l.table ≡ with_used (constants_of_items (map item_tree l.items)) l.fn.table
