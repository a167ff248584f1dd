use Rattle.std.proofs.Common.{◌++◌, ◌∙◌, subst}
use Rattle.ds2_types.specs.Judgements.{IsOutcome}
use Rattle.ds2_statement_types.specs.Branches.{IsHead, IsTail}
use Rattle.ds2_statement_types.proofs.BranchForms.{same_if}
use Rattle.ds2_simple_statement_types.proofs.PartOutcomes.{AreBoth, both_stand}
use Rattle.ds2_statement_types.proofs.branches.if_statement.Goals as goal

pub returns-in-Err : goal.returns-in-Err
returns-in-Err c = λ xs ys test node parts last h k.
    subst (IsOutcome (AreBoth (IsHead test node) (IsTail parts last)) (xs ++ ys)) c.in-Err.is
    (both_stand (IsHead test node) (IsTail parts last) xs ys c.args.head c.args.tail c.of_both.result h k c.of_both.ensures)

pub returns-in_ok-made-in-Ok : goal.returns-in_ok-made-in-Ok
returns-in_ok-made-in-Ok c = λ xs ys test node parts last h k.
    let so =
    subst (IsOutcome (AreBoth (IsHead test node) (IsTail parts last)) (xs ++ ys)) c.in-Ok.is
    (both_stand (IsHead test node) (IsTail parts last) xs ys c.args.head c.args.tail c.of_both.result h k c.of_both.ensures) in
    (so.0, c.in_ok-made-in-Ok.ensures ∙ c.if_node.ensures ∙ same_if c.args.place test node parts last c.in-Ok.parts.first c.in-Ok.parts.second so.1.0 so.1.1)
