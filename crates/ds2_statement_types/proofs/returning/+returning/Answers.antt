use Rattle.std.proofs.Common.{Bool, List, ◌+◌, ◌&&◌, drop, refl, sym, ap, ◌∙◌, arith}
use Rattle.ds2_tree.specs.StatementViews.{statement_tree, whens_of, statements_of}
use Rattle.ds2_tree.specs.declared.statements.ElseIf as code_else_if
use Rattle.ds2_tree.specs.declared.statements.Statement as code
use Rattle.ds2_tree.specs.declared.statements.When as code_when
use Rattle.ds2_elaboration.specs.StatementTypes.{surely_returns, list_surely_returns, whens_surely_return}
use Rattle.ds2_statement_types.specs.Returning.{chained_return}
use Rattle.ds2_statement_types.proofs.ReturningForms.{if_returns, select_returns, block_returns, count_returns, test_returns, one_other, no_other_left, parts_return, one_when_returns, no_when_to_return, last_tells}
use Rattle.ds2_statement_types.proofs.returning.+returning.Goals as goal

pub surely_returns-returns-in-If : goal.surely_returns-returns-in-If
surely_returns-returns-in-If t c =
    c.all_three.ensures
    ∙ (λ i.
    (c.surely_returns-first.ensures ∙ ap (λ (s : code.Statement). surely_returns (statement_tree s)) c.deref.ensures) i
    && ((c.others_return-further.ensures ∙ ap chained_return c.as_slice-in-If.ensures) i && c.last_returns-last.ensures i))
    ∙ sym (if_returns _ _ _ _ _ _ _ c.in-If.is)

pub surely_returns-returns-in-Select : goal.surely_returns-returns-in-Select
surely_returns-returns-in-Select t c =
    c.both_hold.ensures
    ∙ (λ i. (c.whens_return-parts.ensures ∙ ap (λ (ws : List code_when.When). whens_surely_return (whens_of ws)) c.as_slice-in-Select.ensures) i && c.last_returns-last-in-Select.ensures i)
    ∙ sym (select_returns _ _ _ _ _ _ _ _ c.in-Select.is)

pub surely_returns-returns-in-Block : goal.surely_returns-returns-in-Block
surely_returns-returns-in-Block t c =
    c.list_returns.ensures ∙ ap (λ (ss : List code.Statement). list_surely_returns (statements_of ss)) c.as_slice.ensures ∙ sym (block_returns _ _ _ _ _ _ _ c.in-Do.is c.in-Block.is)

pub surely_returns-returns-in-Counted : goal.surely_returns-returns-in-Counted
surely_returns-returns-in-Counted t c = sym (count_returns _ _ _ _ _ _ _ c.in-Do.is _ c.in-Counted.is)

pub surely_returns-returns-in-Tested : goal.surely_returns-returns-in-Tested
surely_returns-returns-in-Tested t c = sym (test_returns _ _ _ _ _ _ _ c.in-Do.is _ c.in-Tested.is)

pub list_returns-returns-in-len1-up : goal.list_returns-returns-in-len1-up
list_returns-returns-in-len1-up t c = c.surely_returns.ensures ∙ last_tells c.args.body.now c.last-item.result c.in-len1-up.len_at_least c.last-item.is

pub others_return-others-init : goal.others_return-others-init
others_return-others-init t c = refl

pub others_return-others-preserved : goal.others_return-others-preserved
others_return-others-preserved t c =
    ap (λ (b : Bool). b && chained_return (drop (c.others.x-index + 1) c.args.others.now)) c.both_hold-all.ensures
    ∙ one_other c.args.others.now c.others.x-index c.x-item.result c.others.all c.surely_returns-one.result (omega arith) c.x-item.is c.surely_returns-one.ensures ∙ c.others.invariant

pub others_return-returns : goal.others_return-returns
others_return-returns t c = sym (no_other_left c.args.others.now c.others.x-index c.others.all (omega arith)) ∙ c.others.invariant

pub whens_return-whens-init : goal.whens_return-whens-init
whens_return-whens-init t c = refl

pub whens_return-whens-preserved : goal.whens_return-whens-preserved
whens_return-whens-preserved t c =
    ap (λ (b : Bool). b && parts_return (drop (c.whens.when-index + 1) c.args.whens.now)) c.both_hold-all.ensures
    ∙ one_when_returns c.args.whens.now c.whens.when-index c.when-item.result c.whens.all c.surely_returns-one.result (omega arith) c.when-item.is c.surely_returns-one.ensures ∙ c.whens.invariant

pub whens_return-returns : goal.whens_return-returns
whens_return-returns t c = sym (no_when_to_return c.args.whens.now c.whens.when-index c.whens.all (omega arith)) ∙ c.whens.invariant
