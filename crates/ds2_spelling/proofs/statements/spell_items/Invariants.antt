use Rattle.std.proofs.Common.{◌≡◌, ◌++◌, drop}
use Rattle.ds2_tree.specs.Lists.{all_spelled}
use Rattle.ds2_tree.specs.Statements.{item_spelling}
use Rattle.ds2_spelling.proofs.statements.spell_items.Given as goal

abbrev pub invariant-loop-item : goal.invariant-loop-item
invariant-loop-item l = l.out ++ all_spelled item_spelling (drop l.item-index l.items) ≡ l.fn.out ++ all_spelled item_spelling l.items
