use Rattle.std.proofs.Common.{map, drop}
use Rattle.ds2_meaning.specs.TypedExpression.{NoLink, NoArgument}
use Rattle.ds2_meaning.specs.View.{in_a_row, all_expressions, typed_expression, link_tree, argument_tree}
use Rattle.ds2_locality.specs.Walk.{walk_links, walk_expressions, walk_arguments}
use Rattle.ds2_recorded_walk.specs.RecordedStatements.{LeavesToGoOn}
use Rattle.ds2_recorded_walk.proofs.expression_walk.+walk.Given as goal

abbrev pub invariant-walk_links-links : goal.invariant-walk_links-links
invariant-walk_links-links l =
    LeavesToGoOn l.scope l.fn.walk l.walk (λ w. walk_links w (in_a_row (map link_tree (drop l.link-index l.links)) NoLink) l.place) (λ w. walk_links w (in_a_row (map link_tree l.links) NoLink) l.place)

abbrev pub invariant-walk_expressions-expressions : goal.invariant-walk_expressions-expressions
invariant-walk_expressions-expressions l =
    LeavesToGoOn l.scope l.fn.walk l.walk (λ w. walk_expressions w (all_expressions (map typed_expression (drop l.e-index l.expressions))) l.place) (λ w. walk_expressions w (all_expressions (map typed_expression l.expressions)) l.place)

abbrev pub invariant-walk_arguments-arguments : goal.invariant-walk_arguments-arguments
invariant-walk_arguments-arguments l =
    LeavesToGoOn l.scope l.fn.walk l.walk (λ w. walk_arguments w (in_a_row (map argument_tree (drop l.argument-index l.arguments)) NoArgument) l.place) (λ w. walk_arguments w (in_a_row (map argument_tree l.arguments) NoArgument) l.place)
