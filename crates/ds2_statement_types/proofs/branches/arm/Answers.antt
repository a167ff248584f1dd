use Rattle.std.proofs.Common.{sym, subst, ◌++◌}
use Rattle.ds2_types.specs.Judgements.{IsOutcome}
use Rattle.ds2_statement_types.specs.Branches.{IsHead}
use Rattle.ds2_statement_types.proofs.BranchForms.{same_arm}
use Rattle.ds2_statement_types.proofs.branches.arm.Goals as goal

pub returns-in-Err : goal.returns-in-Err
returns-in-Err c = λ xs ys test node h k. subst (IsOutcome (IsHead test node) (xs ++ ys)) c.in-Err.is (c.head.ensures xs ys test node h k)

pub returns-in-Ok : goal.returns-in-Ok
returns-in-Ok c = λ xs ys test node h k.
    let so = subst (IsOutcome (IsHead test node) (xs ++ ys)) c.in-Ok.is (c.head.ensures xs ys test node h k) in
    (so.0, same_arm c.args.place test node c.in-Ok.head c.arm_node.result so.1 c.arm_node.ensures)
