use Rattle.std.proofs.Common.{sym, ◌∙◌}
use Rattle.ds2_statement_types.proofs.ControlForms.{unjoined_count, joined_count}
use Rattle.ds2_statement_types.proofs.counts.counting.Goals as goal

pub returns-in-Some : goal.returns-in-Some
returns-in-Some c = λ refusals o. unjoined_count c.args.place c.args.ty refusals c.in-Some.own (sym c.in-Some.is ∙ o)

pub returns-in-None : goal.returns-in-None
returns-in-None c = λ refusals o. joined_count c.args.place c.args.ty refusals c.args.variable c.whole_variable.result (sym c.in-None.is ∙ o) c.whole_variable.ensures
