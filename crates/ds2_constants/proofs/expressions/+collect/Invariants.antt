use Rattle.std.proofs.Common.{◌≡◌, map, drop}
use Rattle.ds2_meaning.specs.TypedExpression.{NoLink, NoArgument}
use Rattle.ds2_meaning.specs.View.{in_a_row, all_expressions, typed_expression, link_tree, argument_tree}
use Rattle.ds2_program_code.specs.UsedConstants.{constants_of_links, constants_of_all, constants_of_arguments}
use Rattle.ds2_constants.specs.UsedOnce.{with_used}
use Rattle.ds2_constants.proofs.expressions.+collect.Given as goal

abbrev pub invariant-collect_links-links : goal.invariant-collect_links-links
invariant-collect_links-links l = with_used (constants_of_links (in_a_row (map link_tree (drop l.link-index l.links)) NoLink)) l.table ≡ with_used (constants_of_links (in_a_row (map link_tree l.links) NoLink)) l.fn.table

abbrev pub invariant-collect_expressions-expressions : goal.invariant-collect_expressions-expressions
invariant-collect_expressions-expressions l =
    with_used (constants_of_all (all_expressions (map typed_expression (drop l.e-index l.expressions)))) l.table ≡ with_used (constants_of_all (all_expressions (map typed_expression l.expressions))) l.fn.table

abbrev pub invariant-collect_arguments-arguments : goal.invariant-collect_arguments-arguments
invariant-collect_arguments-arguments l =
    with_used (constants_of_arguments (in_a_row (map argument_tree (drop l.argument-index l.arguments)) NoArgument)) l.table ≡ with_used (constants_of_arguments (in_a_row (map argument_tree l.arguments) NoArgument)) l.fn.table
