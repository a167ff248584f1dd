use Rattle.ds2_simple_statement_types.proofs.TargetForms.{nothing_assigned, variable_assigned}
use Rattle.ds2_simple_statement_types.proofs.assignments.assigned_to.Goals as goal

pub returns-in-None : goal.returns-in-None
returns-in-None c = λ types v e h k. nothing_assigned types c.args.place e c.args.target v c.refusal.result c.in-None.is h c.refusal.ensures

pub returns-in-Some : goal.returns-in-Some
returns-in-Some c = λ types v e h k.
    variable_assigned types c.args.place e c.args.target v c.in-Some.target c.assigned_under.result c.in-Some.is h (λ refusals o. c.assigned_under.ensures refusals e o k)
