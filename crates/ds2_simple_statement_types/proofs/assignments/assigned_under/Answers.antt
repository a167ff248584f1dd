use Rattle.std.proofs.Common.{sym, ◌∙◌}
use Rattle.ds2_meaning.specs.TypedStatement.{Assign}
use Rattle.ds2_elaboration.specs.Typings.{assigned_node}
use Rattle.ds2_simple_statement_types.proofs.TargetForms.{unjoined_target, joined_target}
use Rattle.ds2_simple_statement_types.proofs.assignments.assigned_under.Goals as goal

pub returns-in-Some : goal.returns-in-Some
returns-in-Some c = λ refusals e o h.
    unjoined_target c.args.place e c.args.ty refusals c.in-Some.own c.given_before.result c.args.x.outcome (sym c.in-Some.is ∙ o) h.outcome c.given_before.ensures

pub returns-in-None : goal.returns-in-None
returns-in-None c = λ refusals e o h.
    joined_target c.args.place e c.args.ty refusals (Assign c.args.place c.args.variable (assigned_node c.args.ty e)) c.assigned_to_variable.result (sym c.in-None.is ∙ o)
    (c.assigned_to_variable.ensures e h)
