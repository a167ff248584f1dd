-- The further operands of a chain, in order.
use Rattle.std.specs.Prelude.{List, [], ◌∷◌}
use Rattle.ds2_meaning.specs.TypedExpression as tree
use Rattle.ds2_elaboration.specs.OperatorTypes.{ElaboratedLink}

-- the further operands of a chain, in order
abbrev pub links_in_order : List ElaboratedLink → tree.Links
links_in_order [] = tree.NoLink
links_in_order (l ∷ ls) = tree.Link l.widens l.operation l.operand l.ty (links_in_order ls)
