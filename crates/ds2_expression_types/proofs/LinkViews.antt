-- Chains as their meaning sees them.
use Rattle.std.proofs.Common.{◌≡◌, List, [], ◌∷◌, map, refl, ap, ◌∙◌}
use Rattle.ds2_meaning.specs.TypedExpression as tree
use Rattle.ds2_meaning.specs.View.{Part, CallTree, in_a_row, argument_part, expression_part, call_part, link_part, typed_expression, link_tree}
use Rattle.ds2_meaning.specs.declared.expressions.Argument.TheFolds.{fold_out-Link}
use Rattle.ds2_meaning.specs.declared.expressions.Link.{Link}
use Rattle.ds2_expression_types.specs.ChainLinks.{links_in_order}
use Rattle.ds2_types.specs.Judgements.{link_of}

-- a further operand
link_view : (l : Link) → link_tree l ≡ (λ (rest : tree.Links). tree.Link l.widens l.operation (typed_expression l.operand) l.ty rest)
link_view l = fold_out-Link (Part tree.TypedArguments) tree.TypedExpression CallTree (Part tree.Links) argument_part expression_part call_part link_part l

-- the further operands, each put before the rest
pub links_view : (ls : List Link) → in_a_row (map link_tree ls) tree.NoLink ≡ links_in_order (map link_of ls)
links_view [] = refl
links_view (l ∷ ls) =
    ap (λ (part : tree.Links → tree.Links). part (in_a_row (map link_tree ls) tree.NoLink)) (link_view l)
    ∙ ap (λ (rest : tree.Links). tree.Link l.widens l.operation (typed_expression l.operand) l.ty rest) (links_view ls)
