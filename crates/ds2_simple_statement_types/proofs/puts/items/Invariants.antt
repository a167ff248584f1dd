use Rattle.std.proofs.Common.{take}
use Rattle.ds2_meaning.specs.View.{item_tree}
use Rattle.ds2_elaboration.specs.ExpressionTypes.{TypeScope}
use Rattle.ds2_elaboration.specs.StatementTypes.{item_refusals, item_node}
use Rattle.ds2_reference_types.specs.Scopes.{IsScopeOf}
use Rattle.ds2_simple_statement_types.proofs.PartLists.{AreParts}
use Rattle.ds2_simple_statement_types.proofs.puts.items.Given as goal

abbrev pub invariant-items : goal.invariant-items
invariant-items l =
    (types : TypeScope) → IsScopeOf types l.scope → AreParts item_tree (item_refusals types) (item_node types) (take l.x-index l.items) l.all
