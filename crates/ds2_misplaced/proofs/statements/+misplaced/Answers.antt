use Rattle.std.proofs.Common.{◌+◌, drop, arith}
use Rattle.std.proofs.lemmas.Grind.{common_steps}
use Rattle.ds2_tree.specs.StatementViews.{statement_tree, statements_of, whens_of}
use Rattle.ds2_misplaced.specs.MisplacedParts.{misplaced_within, misplaced_within_all, misplaced_within_whens, misplaced_within_else_if}
use Rattle.ds2_scope.proofs.CollectedLemmas.{one_more_item}
use Rattle.ds2_scope.proofs.StatementRows.{one_more_list}
use Rattle.ds2_misplaced.proofs.MisplacedRows.{misplaced_if, misplaced_select, misplaced_do}
use Rattle.ds2_misplaced.proofs.statements.+misplaced.Goals as goal

pub within-returns-in-If : goal.within-returns-in-If
within-returns-in-If t c =
    let h = misplaced_if c.args.rule c.args.returns c.args.inside _ _ _ _ _ _ _ c.in-If.is in grind (arith, common_steps, h)

pub within-returns-in-Select : goal.within-returns-in-Select
within-returns-in-Select t c =
    let h = misplaced_select c.args.rule c.args.returns c.args.inside _ _ _ _ _ _ _ _ c.in-Select.is in grind (arith, common_steps, h)

pub within-returns-after-inside : goal.within-returns-after-inside
within-returns-after-inside t c =
    let h = misplaced_do c.args.rule c.args.returns c.args.inside _ _ _ _ _ _ _ c.in-Do.is in grind (arith, common_steps, h)

pub within_others-others-preserved : goal.within_others-others-preserved
within_others-others-preserved t c =
    let h = one_more_item (misplaced_within_else_if c.args.rule c.args.returns c.args.inside) c.others.found c.x-item.result (drop (c.others.x-index + 1) c.args.others.now) in
    grind (arith, common_steps, h, c.others.invariant)

pub within_whens-whens-preserved : goal.within_whens-whens-preserved
within_whens-whens-preserved t c =
    let here = misplaced_within c.args.rule c.args.returns c.args.inside (statement_tree c.when-item.result.statement) in
    let h = one_more_list c.whens.found here (misplaced_within_whens c.args.rule c.args.returns c.args.inside (whens_of (drop (c.whens.when-index + 1) c.args.whens.now))) in
    grind (arith, common_steps, h, c.whens.invariant)

pub within_all-body-preserved : goal.within_all-body-preserved
within_all-body-preserved t c =
    let here = misplaced_within c.args.rule c.args.returns c.args.inside (statement_tree c.s-item.result) in
    let h = one_more_list c.body.found here (misplaced_within_all c.args.rule c.args.returns c.args.inside (statements_of (drop (c.body.s-index + 1) c.args.body.now))) in
    grind (arith, common_steps, h, c.body.invariant)
