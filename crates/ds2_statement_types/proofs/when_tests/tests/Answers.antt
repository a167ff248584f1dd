use Rattle.std.proofs.Common.{List, sym, subst, arith, map}
use Rattle.ds2_meaning.specs.TypedExpression.{TypedExpression}
use Rattle.ds2_meaning.specs.View.{typed_expression}
use Rattle.ds2_names.specs.NameRules.{from_each}
use Rattle.ds2_tree.specs.ExpressionViews.{arguments_of}
use Rattle.ds2_tree.specs.declared.expressions.Argument.{Argument}
use Rattle.ds2_elaboration.specs.ExpressionTypes.{TypeScope, elaborated_arguments}
use Rattle.ds2_elaboration.specs.StatementTypes.{argument_nodes, selected_node}
use Rattle.ds2_elaboration.specs.Typings.{TypeRefusals}
use Rattle.ds2_reference_types.specs.ArgumentTrees.{argument_in}
use Rattle.ds2_simple_statement_types.specs.StatementOutcomes.{AreTypedAs}
use Rattle.ds2_statement_types.specs.TestRules.{test_rule}
use Rattle.ds2_statement_types.specs.declared.when_tests.TestRule.{TestRule}
use Rattle.ds2_simple_statement_types.proofs.PartLists.{no_part, one_part, all_parts}
use Rattle.ds2_statement_types.proofs.TestForms.{tests_broken, tests_formed}
use Rattle.ds2_statement_types.proofs.when_tests.tests.Goals as goal

abbrev rules : TypeScope → TestRule → Argument → TypeRefusals
rules types rule a = test_rule rule.beside (argument_in types a)

abbrev form : TypeScope → TestRule → Argument → TypedExpression
form types rule a = selected_node types rule.decimals (argument_in types a).value.node

pub values-init : goal.values-init
values-init c = λ types s. no_part typed_expression (rules types c.args.rule) (form types c.args.rule) c.args.values.now c.new.result c.new.ensures

pub values-preserved : goal.values-preserved
values-preserved c = λ types s.
    let a = argument_in types c.a-item.result in
    one_part typed_expression (rules types c.args.rule) (form types c.args.rule) c.args.values.now c.values.a-index c.a-item.result c.values.all c.in_ok-all.all c.unboxed_value.result (omega arith)
    c.a-item.is (c.values.invariant types s)
    (c.unboxed_value.ensures (test_rule c.args.rule.beside a) (selected_node types c.args.rule.decimals a.value.node) (c.in_ok-one.ensures types s)) c.in_ok-all.ensures

pub returns : goal.returns
returns c = λ types s.
    let all = c.args.values.now in
    subst (λ (l : TypeRefusals). AreTypedAs typed_expression l (map (selected_node types c.args.rule.decimals) (argument_nodes (elaborated_arguments types (arguments_of all)))) c.values.all) (sym (tests_broken types (test_rule c.args.rule.beside) all))
    (subst (λ (l : List TypedExpression). AreTypedAs typed_expression (from_each (rules types c.args.rule) all) l c.values.all) (sym (tests_formed types c.args.rule.decimals all))
    (all_parts typed_expression (rules types c.args.rule) (form types c.args.rule) all c.values.a-index c.values.all (omega arith) (c.values.invariant types s)))
