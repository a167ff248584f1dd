use Rattle.std.proofs.Common.{List, [], ◌∷◌, map, sym, ap, ◌∙◌, drop, ◌+◌, arith}
use Rattle.std.proofs.lemmas.Grind.{common_steps}
use Rattle.std.proofs.lemmas.Result.{on_ok_weaker}
use Rattle.ds2_emitter.proofs.Trees.{value_is, in_out_is, constant_is, chain_is, compared_is, link_is}
use Rattle.ds2_statement_emitter.proofs.StatementTrees.{call_is}
use Rattle.ds2_meaning.specs.declared.expressions.Argument as code_argument
use Rattle.ds2_meaning.specs.declared.expressions.Expression as code_expression
use Rattle.ds2_meaning.specs.declared.expressions.Link as code_link
use Rattle.ds2_meaning.specs.Location.{Home}
use Rattle.ds2_meaning.specs.TypedExpression.{NoLink, NoArgument}
use Rattle.ds2_meaning.specs.View.{CallTree, in_a_row, all_expressions, typed_expression, link_tree, argument_tree}
use Rattle.ds2_locality.specs.Deeds.{CallOf, expression_deeds, link_deeds, expressions_deeds, argument_deeds, call_deeds, set_deeds}
use Rattle.ds2_deeds.specs.CodeTrees.{scope_of}
use Rattle.ds2_deeds.specs.NumberedDeeds.{numbers_of, with_deeds}
use Rattle.ds2_deeds.proofs.DeedLemmas.{none_added, both_added, equal_added, two_added}
use Rattle.ds2_deeds.proofs.expression_deeds.+deeds.Goals as goal

pub add_expression_deeds-returns-in-Constant : goal.add_expression_deeds-returns-in-Constant
add_expression_deeds-returns-in-Constant t c =
    let n = numbers_of c.args.numbers in
    let s = scope_of c.args.scope.now in
    let is = ap (λ x. with_deeds n (expression_deeds s x) c.args.deeds.now) (constant_is c.args.e.now _ _ c.in-Constant.is) in
    sym (is ∙ none_added n c.args.deeds.now)

pub add_expression_deeds-returns-in_ok-add_expression_deeds-in-Chain : goal.add_expression_deeds-returns-in_ok-add_expression_deeds-in-Chain
add_expression_deeds-returns-in_ok-add_expression_deeds-in-Chain t c =
    let n = numbers_of c.args.numbers in
    let s = scope_of c.args.scope.now in
    let is = ap (λ x. with_deeds n (expression_deeds s x) c.args.deeds.now) (chain_is c.args.e.now _ _ c.in-Chain.is) in
    let first = equal_added n (λ (o : code_expression.Expression). expression_deeds s (typed_expression o)) _ _ _ _ c.deref-in-Chain.ensures c.in_ok-add_expression_deeds-in-Chain.ensures in
    on_ok_weaker c.add_links_deeds.result
    (λ e. two_added n _ _ _ _ _ first (equal_added n (λ (l : List code_link.Link). link_deeds s (in_a_row (map link_tree l) NoLink)) _ _ _ _ c.as_slice.ensures e) ∙ sym is) c.add_links_deeds.ensures

pub add_expression_deeds-returns-in_ok-add_expression_deeds-in-Compared : goal.add_expression_deeds-returns-in_ok-add_expression_deeds-in-Compared
add_expression_deeds-returns-in_ok-add_expression_deeds-in-Compared t c =
    let n = numbers_of c.args.numbers in
    let s = scope_of c.args.scope.now in
    let is = ap (λ x. with_deeds n (expression_deeds s x) c.args.deeds.now) (compared_is c.args.e.now _ _ _ c.in-Compared.is) in
    let left = equal_added n (λ (o : code_expression.Expression). expression_deeds s (typed_expression o)) _ _ _ _ c.deref-in-Compared.ensures c.in_ok-add_expression_deeds-in-Compared.ensures in
    on_ok_weaker c.add_expression_deeds-in-Compared-2.result
    (λ e. two_added n _ _ _ _ _ left (equal_added n (λ (o : code_expression.Expression). expression_deeds s (typed_expression o)) _ _ _ _ c.deref-in-Compared-2.ensures e) ∙ sym is) c.add_expression_deeds-in-Compared-2.ensures

pub add_link_deeds-returns : goal.add_link_deeds-returns
add_link_deeds-returns t c rest =
    let n = numbers_of c.args.numbers in
    let s = scope_of c.args.scope.now in
    let operand = typed_expression c.args.link.now.operand in
    let whole = ap (λ x. with_deeds n (link_deeds s x) c.args.deeds.now) (link_is c.args.link.now rest) ∙ both_added n (expression_deeds s operand) (link_deeds s rest) c.args.deeds.now in
    on_ok_weaker c.add_expression_deeds.result (λ e. ap (λ d. with_deeds n (link_deeds s rest) d) e ∙ sym whole) c.add_expression_deeds.ensures

pub add_argument_deeds-returns-in-Value : goal.add_argument_deeds-returns-in-Value
add_argument_deeds-returns-in-Value t c rest =
    let n = numbers_of c.args.numbers in
    let s = scope_of c.args.scope.now in
    let value = typed_expression c.in-Value.e in
    let whole = ap (λ x. with_deeds n (argument_deeds s x) c.args.deeds.now) (value_is c.args.argument.now c.in-Value.e rest c.in-Value.is) ∙ both_added n (expression_deeds s value) (argument_deeds s rest) c.args.deeds.now in
    on_ok_weaker c.add_expression_deeds.result (λ e. ap (λ d. with_deeds n (argument_deeds s rest) d) e ∙ sym whole) c.add_expression_deeds.ensures

pub add_argument_deeds-returns-in-InOut : goal.add_argument_deeds-returns-in-InOut
add_argument_deeds-returns-in-InOut t c rest =
    let n = numbers_of c.args.numbers in
    let s = scope_of c.args.scope.now in
    let variable = c.in-InOut.variable in
    let whole = ap (λ x. with_deeds n (argument_deeds s x) c.args.deeds.now) (in_out_is c.args.argument.now variable rest c.in-InOut.is) ∙ both_added n (set_deeds s.home variable) (argument_deeds s rest) c.args.deeds.now in
    on_ok_weaker c.add_set.result (λ e. ap (λ d. with_deeds n (argument_deeds s rest) d) e ∙ sym whole) c.add_set.ensures

pub add_links_deeds-returns : goal.add_links_deeds-returns
add_links_deeds-returns t c = grind (arith, common_steps, none_added (numbers_of c.args.numbers) c.links.deeds, c.links.invariant)

pub add_expressions_deeds-returns : goal.add_expressions_deeds-returns
add_expressions_deeds-returns t c = grind (arith, common_steps, none_added (numbers_of c.args.numbers) c.expressions.deeds, c.expressions.invariant)

pub add_arguments_deeds-returns : goal.add_arguments_deeds-returns
add_arguments_deeds-returns t c = grind (arith, common_steps, none_added (numbers_of c.args.numbers) c.arguments.deeds, c.arguments.invariant)

pub add_expressions_deeds-expressions-preserved : goal.add_expressions_deeds-expressions-preserved
add_expressions_deeds-expressions-preserved t c =
    let n = numbers_of c.args.numbers in
    let s = scope_of c.args.scope.now in
    let k = both_added n (expression_deeds s (typed_expression c.e-item.result)) (expressions_deeds s (all_expressions (map typed_expression (drop (c.expressions.e-index + 1) c.args.expressions.now)))) c.expressions.deeds in
    grind (arith, common_steps, k, c.in_ok-add_expression_deeds.ensures, c.expressions.invariant)

pub add_call_deeds-returns : goal.add_call_deeds-returns
add_call_deeds-returns t c =
    let n = numbers_of c.args.numbers in
    let s = scope_of c.args.scope.now in
    let call = c.args.call.now in
    let is = ap (λ (x : CallTree). with_deeds n (call_deeds s x.instance x.method x.arguments) c.args.deeds.now) (call_is call) in
    let first = equal_added n (λ (l : List code_argument.Argument). argument_deeds s (in_a_row (map argument_tree l) NoArgument)) _ _ _ _ c.as_slice.ensures c.in_ok-add_arguments_deeds.ensures in
    on_ok_weaker c.add_call.result
    (λ e. two_added n _ _ _ _ _ first (equal_added n (λ (home : Home). CallOf (record { home = home; number = call.method }) ∷ []) _ _ _ _ c.called_home.ensures e) ∙ sym is) c.add_call.ensures
