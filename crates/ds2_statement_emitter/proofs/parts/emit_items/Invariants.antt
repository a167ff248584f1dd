use Rattle.std.proofs.Common.{◌≡◌, map, drop}
use Rattle.ds2_meaning.specs.View.{item_tree}
use Rattle.ds2_statement_emitter.specs.Appending.{with_items}
use Rattle.ds2_statement_emitter.proofs.parts.emit_items.Given as goal

abbrev pub invariant-items : goal.invariant-items
invariant-items g l =
    with_items (g.N.Numbering.numbers l.names) (map item_tree (drop l.item-index l.items)) l.code ≡ with_items (g.N.Numbering.numbers l.names) (map item_tree l.items) l.fn.code
