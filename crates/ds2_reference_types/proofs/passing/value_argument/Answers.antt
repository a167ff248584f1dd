use Rattle.ds2_reference_types.proofs.PassingForms.{value_broken, value_passed}
use Rattle.ds2_reference_types.proofs.passing.value_argument.Goals as goal

pub returns-in-Err : goal.returns-in-Err
returns-in-Err c = λ e p h. value_broken c.args.ty e c.args.place c.in_ok-outcome.outcome p (c.in_ok-outcome.ensures e.value h) c.in-Err.refusal c.in-Err.is

pub returns-in-Ok : goal.returns-in-Ok
returns-in-Ok c = λ e p h.
    value_passed c.args.ty e c.args.place c.in_ok-outcome.outcome p (c.in_ok-outcome.ensures e.value h) c.in-Ok.node c.by_value.result c.in-Ok.is c.by_value.ensures
