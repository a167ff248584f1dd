use Rattle.std.proofs.Common.{Ok, refl, sym, ap, ◌∙◌, subst}
use Rattle.std.specs.Prelude.{IfOk}
use Rattle.ds2_tree.specs.StatementViews.{control_tree, counted_tree, tested_tree}
use Rattle.ds2_tree.specs.Statements as s
use Rattle.ds2_tree.specs.declared.statements.CountedControl.{CountedControl}
use Rattle.ds2_tree.specs.declared.statements.TestedControl.{TestedControl}
use Rattle.ds2_elaboration.specs.StatementTypes.{control_refusals}
use Rattle.ds2_types.specs.Judgements.{IsOutcome}
use Rattle.ds2_statement_types.specs.Controls.{IsHeldControl, IsCount}
use Rattle.ds2_statement_types.specs.declared.counts.TypedControl.TheVariants.{Block}
use Rattle.ds2_statement_types.proofs.ControlForms.{told_control, told_answer}
use Rattle.ds2_statement_types.proofs.counts.control.Goals as goal

pub returns-in-Block : goal.returns-in-Block
returns-in-Block c = λ types m. told_control types (control_tree c.args.control.now) s.Block (Ok Block) (ap control_tree c.in-Block.is) (refl, λ place body. refl)

pub returns-in_ok-counted-in-Counted : goal.returns-in_ok-counted-in-Counted
returns-in_ok-counted-in-Counted c = λ types m.
    let k = counted_tree c.in-Counted.c.value in
    told_control types (control_tree c.args.control.now) k c.counted_control.result (ap control_tree c.in-Counted.is)
    (c.counted_control.ensures types k (control_refusals types k)
    (subst (λ (x : CountedControl). IsOutcome (IsCount types (counted_tree x)) (control_refusals types (counted_tree x)) c.in_ok-counted-in-Counted.counted) c.deref.ensures
    (c.in_ok-counted-in-Counted.ensures types m)))

pub returns-in-Tested : goal.returns-in-Tested
returns-in-Tested c = λ types m.
    told_answer types (control_tree c.args.control.now) (tested_tree c.in-Tested.c.value) c.test.result (ap control_tree c.in-Tested.is)
    (subst (λ (x : TestedControl). IfOk c.test.result (IsOutcome (IsHeldControl types (tested_tree x)) (control_refusals types (tested_tree x)))) c.deref-in-Tested.ensures
    (c.test.ensures types m))
