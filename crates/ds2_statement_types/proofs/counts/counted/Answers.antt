use Rattle.ds2_statement_types.proofs.ControlForms.{nothing_counted, variable_counted}
use Rattle.ds2_statement_types.proofs.counts.counted.Goals as goal

pub returns-in-None : goal.returns-in-None
returns-in-None c = λ types v h. nothing_counted types c.args.place c.args.target v c.refusal.result c.in-None.is h c.refusal.ensures

pub returns-in-Some : goal.returns-in-Some
returns-in-Some c = λ types v h. variable_counted types c.args.place c.args.target v c.in-Some.target c.counting.result c.in-Some.is h c.counting.ensures
