use Rattle.std.proofs.Common.{◌++◌, ◌∙◌, subst}
use Rattle.ds2_types.specs.Judgements.{IsOutcome}
use Rattle.ds2_statement_types.specs.Branches.{IsSelector, AreSelected}
use Rattle.ds2_statement_types.proofs.BranchForms.{same_select}
use Rattle.ds2_simple_statement_types.proofs.PartOutcomes.{AreBoth, both_stand}
use Rattle.ds2_statement_types.proofs.selections.select_statement.Goals as goal

pub returns-in-Err : goal.returns-in-Err
returns-in-Err c = λ xs ys value forms last h k.
    subst (IsOutcome (AreBoth (IsSelector value) (AreSelected forms last)) (xs ++ ys)) c.in-Err.is
    (both_stand (IsSelector value) (AreSelected forms last) xs ys c.args.selector c.args.parts c.of_both.result h k c.of_both.ensures)

pub returns-in_ok-made-in-Ok : goal.returns-in_ok-made-in-Ok
returns-in_ok-made-in-Ok c = λ xs ys value forms last h k.
    let so =
    subst (IsOutcome (AreBoth (IsSelector value) (AreSelected forms last)) (xs ++ ys)) c.in-Ok.is
    (both_stand (IsSelector value) (AreSelected forms last) xs ys c.args.selector c.args.parts c.of_both.result h k c.of_both.ensures) in
    (so.0, c.in_ok-made-in-Ok.ensures ∙ c.select_node.ensures ∙ same_select c.args.place value forms last c.in-Ok.both.first c.in-Ok.both.second so.1.0 so.1.1)
