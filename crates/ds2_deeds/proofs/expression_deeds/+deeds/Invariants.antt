use Rattle.std.proofs.Common.{◌≡◌, map, drop}
use Rattle.ds2_meaning.specs.TypedExpression.{NoLink, NoArgument}
use Rattle.ds2_meaning.specs.View.{in_a_row, all_expressions, typed_expression, link_tree, argument_tree}
use Rattle.ds2_locality.specs.Deeds.{link_deeds, expressions_deeds, argument_deeds}
use Rattle.ds2_deeds.specs.CodeTrees.{scope_of}
use Rattle.ds2_deeds.specs.NumberedDeeds.{numbers_of, with_deeds}
use Rattle.ds2_deeds.proofs.expression_deeds.+deeds.Given as goal

abbrev pub invariant-add_links_deeds-links : goal.invariant-add_links_deeds-links
invariant-add_links_deeds-links l =
    with_deeds (numbers_of l.numbers) (link_deeds (scope_of l.scope) (in_a_row (map link_tree (drop l.link-index l.links)) NoLink)) l.deeds
    ≡ with_deeds (numbers_of l.numbers) (link_deeds (scope_of l.scope) (in_a_row (map link_tree l.links) NoLink)) l.fn.deeds

abbrev pub invariant-add_expressions_deeds-expressions : goal.invariant-add_expressions_deeds-expressions
invariant-add_expressions_deeds-expressions l =
    with_deeds (numbers_of l.numbers) (expressions_deeds (scope_of l.scope) (all_expressions (map typed_expression (drop l.e-index l.expressions)))) l.deeds
    ≡ with_deeds (numbers_of l.numbers) (expressions_deeds (scope_of l.scope) (all_expressions (map typed_expression l.expressions))) l.fn.deeds

abbrev pub invariant-add_arguments_deeds-arguments : goal.invariant-add_arguments_deeds-arguments
invariant-add_arguments_deeds-arguments l =
    with_deeds (numbers_of l.numbers) (argument_deeds (scope_of l.scope) (in_a_row (map argument_tree (drop l.argument-index l.arguments)) NoArgument)) l.deeds
    ≡ with_deeds (numbers_of l.numbers) (argument_deeds (scope_of l.scope) (in_a_row (map argument_tree l.arguments) NoArgument)) l.fn.deeds
