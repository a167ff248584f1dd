use Rattle.std.proofs.Common.{sym, ◌∙◌}
use Rattle.ds2_expression_walk.proofs.ArgumentForms.{not_headed, of_headed}
use Rattle.ds2_expression_walk.proofs.named_functions.substring_of.Goals as goal

pub returns-in-None : goal.returns-in-None
returns-in-None c = λ xs h. not_headed c.args.name xs c.args.arguments c.nameless.result (sym c.headed.ensures ∙ c.in-None.is) h c.nameless.ensures

pub returns-in-Some : goal.returns-in-Some
returns-in-Some c = λ xs h. of_headed c.args.name xs c.args.arguments c.in-Some.arguments c.substring.result (sym c.headed.ensures ∙ c.in-Some.is) h c.substring.ensures
