use Rattle.std.proofs.Common.{◌+◌, ◌++◌, [], drop, sym, ap, ◌∙◌, arith}
use Rattle.std.proofs.lemmas.Grind.{common_steps}
use Rattle.std.proofs.lemmas.Result.{on_ok_weaker}
use Rattle.ds2_tree.specs.ExpressionViews.{expression_tree, arguments_of}
use Rattle.ds2_tree.specs.StatementViews.{statement_tree, statements_of, whens_of}
use Rattle.ds2_names.specs.NameRules.{from_each}
use Rattle.ds2_names.specs.Uses.{uses, argument_uses, statement_uses, statements_uses, when_uses}
use Rattle.ds2_calls.specs.UseParts.{else_if_uses}
use Rattle.ds2_aliases.specs.MentionParts.{flags_by_calls, mentions_in_uses}
use Rattle.ds2_aliases.proofs.MentionLemmas.{four_added, items_mention, both_mention, mentions_of_output, mentions_of_if, mentions_of_select, mentions_of_do}
use Rattle.ds2_aliases.proofs.statements.+mention_statements.Goals as goal

pub push_statement-returns-in-Put : goal.push_statement-returns-in-Put
push_statement-returns-in-Put t c =
    let h = items_mention (flags_by_calls c.args.calls.now) c.in-Put.items in grind (arith, common_steps, h)

pub push_statement-returns-in-Output : goal.push_statement-returns-in-Output
push_statement-returns-in-Output t c =
    let h = mentions_of_output (flags_by_calls c.args.calls.now) _ _ _ _ c.in-Output.is in grind (arith, common_steps, h)

pub push_statement-returns-in_ok-push_others-in-If : goal.push_statement-returns-in_ok-push_others-in-If
push_statement-returns-in_ok-push_others-in-If t c =
    let flags = flags_by_calls c.args.calls.now in
    let first = c.in_ok-push_statement-in-If.ensures ∙ ap (λ s. c.push_expression.new.found ++ mentions_in_uses flags (statement_uses flags (statement_tree s))) c.deref.ensures in
    let further = c.in_ok-push_others-in-If.ensures ∙ ap (λ xs. c.push_statement.new.found ++ from_each (λ y. mentions_in_uses flags (else_if_uses flags y)) xs) c.as_slice-in-If.ensures in
    on_ok_weaker c.push_otherwise.result
    (λ last.
    four_added c.args.found.now _ _ _ _ c.push_expression.new.found c.push_statement.new.found c.push_others.new.found c.push_otherwise.new.found c.in_ok-push_expression-in-If.ensures first further last
    ∙ ap (λ r. c.args.found.now ++ r) (sym (mentions_of_if flags _ _ _ _ _ _ _ c.in-If.is)))
    c.push_otherwise.ensures

pub push_statement-returns-in_ok-push_whens-in-Select : goal.push_statement-returns-in_ok-push_whens-in-Select
push_statement-returns-in_ok-push_whens-in-Select t c =
    let h = mentions_of_select (flags_by_calls c.args.calls.now) _ _ _ _ _ _ _ _ c.in-Select.is in grind (arith, common_steps, h)

pub push_statement-returns-in_ok-push_control-in-Do : goal.push_statement-returns-in_ok-push_control-in-Do
push_statement-returns-in_ok-push_control-in-Do t c =
    let h = mentions_of_do (flags_by_calls c.args.calls.now) _ _ _ _ _ _ _ c.in-Do.is in grind (arith, common_steps, h)

pub push_else_if-returns : goal.push_else_if-returns
push_else_if-returns t c =
    let flags = flags_by_calls c.args.calls.now in
    let h = both_mention flags (uses flags (expression_tree c.args.x.now.condition)) (statement_uses flags (statement_tree c.args.x.now.then)) in grind (arith, common_steps, h)

pub push_when-returns : goal.push_when-returns
push_when-returns t c =
    let flags = flags_by_calls c.args.calls.now in
    let h = both_mention flags (argument_uses flags [] (arguments_of c.args.when.now.values)) (statement_uses flags (statement_tree c.args.when.now.statement)) in grind (arith, common_steps, h)

pub push_whens-whens-preserved : goal.push_whens-whens-preserved
push_whens-whens-preserved t c =
    let flags = flags_by_calls c.args.calls.now in
    let w = c.when-item.result in
    let h = both_mention flags (argument_uses flags [] (arguments_of w.values) ++ statement_uses flags (statement_tree w.statement)) (when_uses flags (whens_of (drop (c.whens.when-index + 1) c.args.whens.now))) in
    grind (arith, common_steps, h, c.whens.invariant)

pub push_statements-body-preserved : goal.push_statements-body-preserved
push_statements-body-preserved t c =
    let flags = flags_by_calls c.args.calls.now in
    let h = both_mention flags (statement_uses flags (statement_tree c.s-item.result)) (statements_uses flags (statements_of (drop (c.body.s-index + 1) c.args.body.now))) in
    grind (arith, common_steps, h, c.body.invariant)
