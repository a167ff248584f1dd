use Rattle.std.proofs.lemmas.Grind.{common_steps}
use Rattle.std.proofs.Common.{◌≡◌, ◌+◌, map, drop, sym, ap, ◌∙◌, arith}
use Rattle.ds2_meaning.specs.TypedExpression.{NoLink}
use Rattle.ds2_meaning.specs.View.{in_a_row, all_expressions, typed_expression, call_tree, link_tree, argument_tree}
use Rattle.ds2_program_code.specs.UsedConstants.{constants_used, constants_of_links, constants_of_all, constants_of_arguments}
use Rattle.ds2_constants.specs.UsedOnce.{with_used}
use Rattle.ds2_emitter.proofs.Appended.{on_ok}
use Rattle.ds2_emitter.proofs.Trees.{value_is, constant_is, variable_is, widen_is, convert_is, prefixed_is, chain_is, compared_is, applied_is, called_is, hash_is, iterator_is, link_is}
use Rattle.ds2_constants.proofs.Collected.{none_used, one_used, both_used, no_link_collected, no_expression_collected, then_collected, no_argument_collected, value_collected, link_collected}
use Rattle.ds2_constants.proofs.expressions.+collect.Goals as goal

pub collect_expression-returns-in-Constant : goal.collect_expression-returns-in-Constant
collect_expression-returns-in-Constant t c =
    let is = ap (λ x. with_used (constants_used x) c.args.table.now) (constant_is c.args.e.now _ _ c.in-Constant.is) in
    on_ok c.add.result c.add.ensures (λ e. cc (is, e, one_used (record { value = c.in-Constant.value; ty = c.in-Constant.ty }) c.args.table.now))

pub collect_expression-returns-in-Variable : goal.collect_expression-returns-in-Variable
collect_expression-returns-in-Variable t c =
    let is = ap (λ x. with_used (constants_used x) c.args.table.now) (variable_is c.args.e.now _ _ c.in-Variable.is) in
    cc (is, none_used c.args.table.now)

pub collect_expression-returns-in-HashCalled : goal.collect_expression-returns-in-HashCalled
collect_expression-returns-in-HashCalled t c =
    let is = ap (λ x. with_used (constants_used x) c.args.table.now) (hash_is c.args.e.now _ _ c.in-HashCalled.is) in
    cc (is, none_used c.args.table.now)

pub collect_expression-returns-in-IteratorCalled : goal.collect_expression-returns-in-IteratorCalled
collect_expression-returns-in-IteratorCalled t c =
    let is = ap (λ x. with_used (constants_used x) c.args.table.now) (iterator_is c.args.e.now _ _ c.in-IteratorCalled.is) in
    cc (is, none_used c.args.table.now)

pub collect_expression-returns-in-Widen : goal.collect_expression-returns-in-Widen
collect_expression-returns-in-Widen t c =
    let is = ap (λ x. with_used (constants_used x) c.args.table.now) (widen_is c.args.e.now _ c.in-Widen.is) in
    on_ok c.collect_expression.result c.collect_expression.ensures (λ e. cc (is, e, c.deref.ensures))

pub collect_expression-returns-in-Convert : goal.collect_expression-returns-in-Convert
collect_expression-returns-in-Convert t c =
    let is = ap (λ x. with_used (constants_used x) c.args.table.now) (convert_is c.args.e.now _ _ c.in-Convert.is) in
    on_ok c.collect_expression-in-Convert.result c.collect_expression-in-Convert.ensures (λ e. cc (is, e, c.deref-in-Convert.ensures))

pub collect_expression-returns-in-Prefixed : goal.collect_expression-returns-in-Prefixed
collect_expression-returns-in-Prefixed t c =
    let is = ap (λ x. with_used (constants_used x) c.args.table.now) (prefixed_is c.args.e.now _ _ _ c.in-Prefixed.is) in
    on_ok c.collect_expression-in-Prefixed.result c.collect_expression-in-Prefixed.ensures (λ e. cc (is, e, c.deref-in-Prefixed.ensures))

pub collect_expression-returns-in_ok-collect_expression-in-Chain : goal.collect_expression-returns-in_ok-collect_expression-in-Chain
collect_expression-returns-in_ok-collect_expression-in-Chain t c =
    let is = ap (λ x. with_used (constants_used x) c.args.table.now) (chain_is c.args.e.now _ _ c.in-Chain.is) in
    let both = both_used (constants_used (typed_expression c.in-Chain.first.value)) (constants_of_links (in_a_row (map link_tree c.in-Chain.links) NoLink)) c.args.table.now in
    on_ok c.collect_links.result c.collect_links.ensures (λ e. cc (is, both, e, c.in_ok-collect_expression-in-Chain.ensures, c.deref-in-Chain.ensures, c.as_slice.ensures))

pub collect_expression-returns-in_ok-collect_expression-in-Compared : goal.collect_expression-returns-in_ok-collect_expression-in-Compared
collect_expression-returns-in_ok-collect_expression-in-Compared t c =
    let is = ap (λ x. with_used (constants_used x) c.args.table.now) (compared_is c.args.e.now _ _ _ c.in-Compared.is) in
    let both = both_used (constants_used (typed_expression c.in-Compared.left.value)) (constants_used (typed_expression c.in-Compared.right.value)) c.args.table.now in
    on_ok c.collect_expression-in-Compared-2.result c.collect_expression-in-Compared-2.ensures (λ e. cc (is, both, e, c.in_ok-collect_expression-in-Compared.ensures, c.deref-in-Compared.ensures, c.deref-in-Compared-2.ensures))

pub collect_expression-returns-in-Applied : goal.collect_expression-returns-in-Applied
collect_expression-returns-in-Applied t c =
    let is = ap (λ x. with_used (constants_used x) c.args.table.now) (applied_is c.args.e.now _ _ _ c.in-Applied.is) in
    on_ok c.collect_expressions.result c.collect_expressions.ensures (λ e. cc (is, e, c.as_slice-in-Applied.ensures))

pub collect_expression-returns-in-Called : goal.collect_expression-returns-in-Called
collect_expression-returns-in-Called t c =
    let is = ap (λ x. with_used (constants_used x) c.args.table.now) (called_is c.args.e.now _ _ c.in-Called.is) in
    on_ok c.collect_call.result c.collect_call.ensures (λ e. cc (is, e))

pub collect_argument-returns-in_ok-collect_expression-in-Value : goal.collect_argument-returns-in_ok-collect_expression-in-Value
collect_argument-returns-in_ok-collect_expression-in-Value t c rest =
    let is = ap (λ x. with_used (constants_of_arguments x) c.args.table.now) (value_is c.args.argument.now c.in-Value.e rest c.in-Value.is) in
    ap (λ w. with_used (constants_of_arguments rest) w) c.in_ok-collect_expression-in-Value.ensures ∙ sym (is ∙ value_collected (typed_expression c.in-Value.e) rest c.args.table.now)

pub collect_arguments-returns : goal.collect_arguments-returns
collect_arguments-returns t c = grind (arith, common_steps, no_argument_collected c.arguments.table, c.arguments.invariant)

pub collect_expressions-returns : goal.collect_expressions-returns
collect_expressions-returns t c = grind (arith, common_steps, no_expression_collected c.expressions.table, c.expressions.invariant)

pub collect_expressions-expressions-preserved : goal.collect_expressions-expressions-preserved
collect_expressions-expressions-preserved t c =
    let k = then_collected (typed_expression c.e-item.result) (all_expressions (map typed_expression (drop (c.expressions.e-index + 1) c.args.expressions.now))) c.expressions.table in
    grind (arith, common_steps, k, c.in_ok-collect_expression.ensures, c.expressions.invariant)

pub collect_link-returns : goal.collect_link-returns
collect_link-returns t c rest =
    let is = ap (λ x. with_used (constants_of_links x) c.args.table.now) (link_is c.args.link.now rest) in
    ap (λ w. with_used (constants_of_links rest) w) c.in_ok-collect_expression.ensures
    ∙ sym (is ∙ link_collected c.args.link.now.widens c.args.link.now.operation (typed_expression c.args.link.now.operand) c.args.link.now.ty rest c.args.table.now)

pub collect_links-returns : goal.collect_links-returns
collect_links-returns t c = grind (arith, common_steps, no_link_collected c.links.table, c.links.invariant)
