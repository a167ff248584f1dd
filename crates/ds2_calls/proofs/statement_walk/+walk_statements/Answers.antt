use Rattle.std.proofs.Common.{◌+◌, ◌++◌, [], drop, sym, ap, ◌∙◌, arith}
use Rattle.std.proofs.lemmas.Grind.{common_steps}
use Rattle.ds2_tree.specs.ExpressionViews.{arguments_of}
use Rattle.ds2_tree.specs.StatementViews.{statement_tree, statements_of, whens_of}
use Rattle.ds2_names.specs.NameRules.{from_each}
use Rattle.ds2_names.specs.Uses.{argument_uses, statement_uses, statements_uses, when_uses}
use Rattle.ds2_calls.specs.UseParts.{earliest_use, else_if_uses}
use Rattle.ds2_scope.specs.Earliest.{earlier_of, earliest}
use Rattle.ds2_scope.proofs.CollectedLemmas.{one_more_item}
use Rattle.ds2_calls.proofs.UseLemmas.{one_more_use, uses_of_if}
use Rattle.ds2_calls.proofs.statement_walk.+walk_statements.Goals as goal

pub in_others-others-preserved : goal.in_others-others-preserved
in_others-others-preserved g t c =
    let k = one_more_item (λ x. from_each (g.R.UseRule.places c.args.rule.now) (else_if_uses (g.R.UseRule.flags c.args.rule.now) x)) c.others.found c.x-item.result (drop (c.others.x-index + 1) c.args.others.now) in
    grind (arith, common_steps, k, c.others.invariant)

pub in_whens-whens-preserved : goal.in_whens-whens-preserved
in_whens-whens-preserved g t c =
    let flags = g.R.UseRule.flags c.args.rule.now in
    let w = c.when-item.result in
    let k = one_more_use (g.R.UseRule.places c.args.rule.now) c.whens.found (argument_uses flags [] (arguments_of w.values) ++ statement_uses flags (statement_tree w.statement))
    (when_uses flags (whens_of (drop (c.whens.when-index + 1) c.args.whens.now))) in
    grind (arith, common_steps, k, c.whens.invariant)

pub in_statements-body-preserved : goal.in_statements-body-preserved
in_statements-body-preserved g t c =
    let flags = g.R.UseRule.flags c.args.rule.now in
    let k = one_more_use (g.R.UseRule.places c.args.rule.now) c.body.found (statement_uses flags (statement_tree c.s-item.result)) (statements_uses flags (statements_of (drop (c.body.s-index + 1) c.args.body.now))) in
    grind (arith, common_steps, k, c.body.invariant)

pub in_statement-returns-in_ok-last-in-If : goal.in_statement-returns-in_ok-last-in-If
in_statement-returns-in_ok-last-in-If g t c =
    let places = g.R.UseRule.places c.args.rule.now in
    let flags = g.R.UseRule.flags c.args.rule.now in
    let first = c.in_ok-first-in-If.ensures ∙ ap (λ s. earliest_use places (statement_uses flags (statement_tree s))) c.deref.ensures in
    let further = c.in_ok-further-in-If.ensures ∙ ap (λ xs. earliest (from_each (λ y. from_each places (else_if_uses flags y)) xs)) c.as_slice-in-If.ensures in
    c.earlier_of-in-If-2.ensures
    ∙ ap (earlier_of c.in_ok-test-in-If.test) (c.earlier_of-in-If.ensures ∙ ap (earlier_of c.in_ok-first-in-If.first) c.earlier_of.ensures)
    ∙ (λ i. earlier_of (c.in_ok-test-in-If.ensures i) (earlier_of (first i) (earlier_of (further i) (c.in_ok-last-in-If.ensures i))))
    ∙ sym (uses_of_if places flags _ _ _ _ _ _ _ c.in-If.is)
