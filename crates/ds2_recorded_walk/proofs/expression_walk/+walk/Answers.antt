use Rattle.std.proofs.Common.{List, map, refl, sym, ap}
use Rattle.std.proofs.lemmas.List.{drop_all}
use Rattle.ds2_emitter.proofs.Appended.{on_ok}
use Rattle.ds2_emitter.proofs.Trees.{value_is, in_out_is, constant_is, variable_is, widen_is, convert_is, prefixed_is, chain_is, compared_is, applied_is, called_is, hash_is, iterator_is, link_is}
use Rattle.ds2_statement_emitter.proofs.StatementTrees.{call_is}
use Rattle.ds2_meaning.specs.declared.expressions.Argument as code_argument
use Rattle.ds2_meaning.specs.declared.expressions.Expression as code_expression
use Rattle.ds2_meaning.specs.declared.expressions.Link as code_link
use Rattle.ds2_meaning.specs.Location.{Home}
use Rattle.ds2_meaning.specs.TypedExpression.{Links, TypedArguments, NoLink, NoArgument}
use Rattle.ds2_meaning.specs.View.{CallTree, in_a_row, all_expressions, typed_expression, link_tree, argument_tree}
use Rattle.ds2_locality.specs.Walk.{WalkScope, walk_links, walk_expressions, walk_arguments, walk_call}
use Rattle.ds2_deeds.proofs.DeedLemmas.{drop_next}
use Rattle.ds2_recorded_walk.specs.RecordedStatements.{walk_scope}
use Rattle.ds2_recorded_walk.proofs.GoesLemmas.{goes_nowhere, goes_both, goes_here, gone_by, expression_as, expression_by, leaves_whole, leaves_others, leaves_same, item_gone, none_left}
use Rattle.ds2_recorded_walk.proofs.expression_walk.+walk.Goals as goal

pub walk_expression-returns-in-Constant : goal.walk_expression-returns-in-Constant
walk_expression-returns-in-Constant t c =
    let s = c.args.scope.now in
    let place = c.args.place in
    expression_as s place (constant_is c.args.e.now _ _ c.in-Constant.is) (goes_nowhere s c.args.walk.now)

pub walk_expression-returns-in-Variable : goal.walk_expression-returns-in-Variable
walk_expression-returns-in-Variable t c =
    let s = c.args.scope.now in
    let place = c.args.place in
    on_ok c.read_variable.result c.read_variable.ensures (λ p. expression_as s place (variable_is c.args.e.now _ _ c.in-Variable.is) p)

pub walk_expression-returns-in-Widen : goal.walk_expression-returns-in-Widen
walk_expression-returns-in-Widen t c =
    let s = c.args.scope.now in
    let place = c.args.place in
    on_ok c.walk_expression.result c.walk_expression.ensures (λ p. expression_as s place (widen_is c.args.e.now _ c.in-Widen.is) (expression_by s place c.deref.ensures p))

pub walk_expression-returns-in-Convert : goal.walk_expression-returns-in-Convert
walk_expression-returns-in-Convert t c =
    let s = c.args.scope.now in
    let place = c.args.place in
    on_ok c.walk_expression-in-Convert.result c.walk_expression-in-Convert.ensures (λ p. expression_as s place (convert_is c.args.e.now _ _ c.in-Convert.is) (expression_by s place c.deref-in-Convert.ensures p))

pub walk_expression-returns-in-Prefixed : goal.walk_expression-returns-in-Prefixed
walk_expression-returns-in-Prefixed t c =
    let s = c.args.scope.now in
    let place = c.args.place in
    on_ok c.walk_expression-in-Prefixed.result c.walk_expression-in-Prefixed.ensures (λ p. expression_as s place (prefixed_is c.args.e.now _ _ _ c.in-Prefixed.is) (expression_by s place c.deref-in-Prefixed.ensures p))

pub walk_expression-returns-in_ok-walk_expression-in-Chain : goal.walk_expression-returns-in_ok-walk_expression-in-Chain
walk_expression-returns-in_ok-walk_expression-in-Chain t c =
    let s = c.args.scope.now in
    let place = c.args.place in
    let first = expression_by s place c.deref-in-Chain.ensures c.in_ok-walk_expression-in-Chain.ensures in
    on_ok c.walk_links.result c.walk_links.ensures
    (λ p. expression_as s place (chain_is c.args.e.now _ _ c.in-Chain.is)
    (goes_both s first (gone_by s (λ (l : List code_link.Link) (w : WalkScope). walk_links w (in_a_row (map link_tree l) NoLink) place) _ _ c.as_slice.ensures p)))

pub walk_expression-returns-in_ok-walk_expression-in-Compared : goal.walk_expression-returns-in_ok-walk_expression-in-Compared
walk_expression-returns-in_ok-walk_expression-in-Compared t c =
    let s = c.args.scope.now in
    let place = c.args.place in
    let left = expression_by s place c.deref-in-Compared.ensures c.in_ok-walk_expression-in-Compared.ensures in
    on_ok c.walk_expression-in-Compared-2.result c.walk_expression-in-Compared-2.ensures
    (λ p. expression_as s place (compared_is c.args.e.now _ _ _ c.in-Compared.is) (goes_both s left (expression_by s place c.deref-in-Compared-2.ensures p)))

pub walk_expression-returns-in-Applied : goal.walk_expression-returns-in-Applied
walk_expression-returns-in-Applied t c =
    let s = c.args.scope.now in
    let place = c.args.place in
    on_ok c.walk_expressions.result c.walk_expressions.ensures
    (λ p. expression_as s place (applied_is c.args.e.now _ _ _ c.in-Applied.is)
    (gone_by s (λ (l : List code_expression.Expression) (w : WalkScope). walk_expressions w (all_expressions (map typed_expression l)) place) _ _ c.as_slice-in-Applied.ensures p))

pub walk_expression-returns-in-Called : goal.walk_expression-returns-in-Called
walk_expression-returns-in-Called t c =
    let s = c.args.scope.now in
    let place = c.args.place in
    on_ok c.walk_call.result c.walk_call.ensures (λ p. expression_as s place (called_is c.args.e.now _ _ c.in-Called.is) p)

pub walk_expression-returns-in-HashCalled : goal.walk_expression-returns-in-HashCalled
walk_expression-returns-in-HashCalled t c =
    let s = c.args.scope.now in
    let place = c.args.place in
    on_ok c.walk_hash_call.result c.walk_hash_call.ensures (λ p. expression_as s place (hash_is c.args.e.now _ _ c.in-HashCalled.is) p)

pub walk_expression-returns-in-IteratorCalled : goal.walk_expression-returns-in-IteratorCalled
walk_expression-returns-in-IteratorCalled t c =
    let s = c.args.scope.now in
    let place = c.args.place in
    on_ok c.walk_iterator_call.result c.walk_iterator_call.ensures (λ p. expression_as s place (iterator_is c.args.e.now _ _ c.in-IteratorCalled.is) p)

pub walk_link-returns : goal.walk_link-returns
walk_link-returns t c rest =
    let s = c.args.scope.now in
    let place = c.args.place in
    on_ok c.walk_expression.result c.walk_expression.ensures
    (λ p. leaves_same s (λ calls. ap (λ (l : Links). walk_links (walk_scope s calls) l place) (sym (link_is c.args.link.now rest))) (leaves_others s (λ w. walk_links w rest place) p))

pub walk_argument-returns-in-Value : goal.walk_argument-returns-in-Value
walk_argument-returns-in-Value t c rest =
    let s = c.args.scope.now in
    let place = c.args.place in
    on_ok c.walk_expression.result c.walk_expression.ensures
    (λ p. leaves_same s (λ calls. ap (λ (l : TypedArguments). walk_arguments (walk_scope s calls) l place) (sym (value_is c.args.argument.now c.in-Value.e rest c.in-Value.is))) (leaves_others s (λ w. walk_arguments w rest place) p))

pub walk_argument-returns-in-InOut : goal.walk_argument-returns-in-InOut
walk_argument-returns-in-InOut t c rest =
    let s = c.args.scope.now in
    let place = c.args.place in
    on_ok c.read_variable.result c.read_variable.ensures
    (λ p. leaves_same s (λ calls. ap (λ (l : TypedArguments). walk_arguments (walk_scope s calls) l place) (sym (in_out_is c.args.argument.now c.in-InOut.variable rest c.in-InOut.is))) (leaves_others s (λ w. walk_arguments w rest place) p))

pub walk_call-returns : goal.walk_call-returns
walk_call-returns t c =
    let s = c.args.scope.now in
    let place = c.args.place in
    let call = c.args.call.now in
    let first = gone_by s (λ (l : List code_argument.Argument) (w : WalkScope). walk_arguments w (in_a_row (map argument_tree l) NoArgument) place) _ _ c.as_slice.ensures c.in_ok-walk_arguments.ensures in
    on_ok c.walk_method_call.result c.walk_method_call.ensures
    (λ p. gone_by s (λ (x : CallTree) (w : WalkScope). walk_call w x.instance x.method x.arguments place) _ _ (sym (call_is call))
    (goes_both s first (goes_here s (λ calls. ap (λ (home : Home). calls (record { home = home; number = call.method }) place) c.called_home.ensures) p)))

pub walk_links-links-init : goal.walk_links-links-init
walk_links-links-init t c = leaves_whole c.args.scope.now c.args.walk.now _

pub walk_links-links-preserved : goal.walk_links-links-preserved
walk_links-links-preserved t c =
    let s = c.args.scope.now in
    item_gone s (λ (l : List code_link.Link) (w : WalkScope). walk_links w (in_a_row (map link_tree l) NoLink) c.args.place) _ _ c.link-item.result (drop_next c.args.links.now c.links.link-index c.link-item.result c.links-test.true c.link-item.is) c.links.invariant (c.in_ok-walk_link.ensures _)

pub walk_links-returns : goal.walk_links-returns
walk_links-returns t c = none_left c.args.scope.now (λ (l : List code_link.Link) (w : WalkScope). walk_links w (in_a_row (map link_tree l) NoLink) c.args.place) _ (drop_all c.links.link-index c.args.links.now c.links-test.false) refl c.links.invariant

pub walk_expressions-expressions-init : goal.walk_expressions-expressions-init
walk_expressions-expressions-init t c = leaves_whole c.args.scope.now c.args.walk.now _

pub walk_expressions-expressions-preserved : goal.walk_expressions-expressions-preserved
walk_expressions-expressions-preserved t c =
    let s = c.args.scope.now in
    item_gone s (λ (l : List code_expression.Expression) (w : WalkScope). walk_expressions w (all_expressions (map typed_expression l)) c.args.place) _ _ c.e-item.result (drop_next c.args.expressions.now c.expressions.e-index c.e-item.result c.expressions-test.true c.e-item.is) c.expressions.invariant (leaves_others s _ c.in_ok-walk_expression.ensures)

pub walk_expressions-returns : goal.walk_expressions-returns
walk_expressions-returns t c = none_left c.args.scope.now (λ (l : List code_expression.Expression) (w : WalkScope). walk_expressions w (all_expressions (map typed_expression l)) c.args.place) _ (drop_all c.expressions.e-index c.args.expressions.now c.expressions-test.false) refl c.expressions.invariant

pub walk_arguments-arguments-init : goal.walk_arguments-arguments-init
walk_arguments-arguments-init t c = leaves_whole c.args.scope.now c.args.walk.now _

pub walk_arguments-arguments-preserved : goal.walk_arguments-arguments-preserved
walk_arguments-arguments-preserved t c =
    let s = c.args.scope.now in
    item_gone s (λ (l : List code_argument.Argument) (w : WalkScope). walk_arguments w (in_a_row (map argument_tree l) NoArgument) c.args.place) _ _ c.argument-item.result (drop_next c.args.arguments.now c.arguments.argument-index c.argument-item.result c.arguments-test.true c.argument-item.is) c.arguments.invariant (c.in_ok-walk_argument.ensures _)

pub walk_arguments-returns : goal.walk_arguments-returns
walk_arguments-returns t c = none_left c.args.scope.now (λ (l : List code_argument.Argument) (w : WalkScope). walk_arguments w (in_a_row (map argument_tree l) NoArgument) c.args.place) _ (drop_all c.arguments.argument-index c.args.arguments.now c.arguments-test.false) refl c.arguments.invariant
