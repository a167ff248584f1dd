use Rattle.std.proofs.Common.{sym, ◌∙◌}
use Rattle.ds2_expression_walk.proofs.ArgumentForms.{not_both, of_both}
use Rattle.ds2_expression_walk.proofs.named_functions.remainder_of.Goals as goal

pub returns-in-None : goal.returns-in-None
returns-in-None c = λ xs h. not_both c.args.name xs c.args.arguments c.nameless.result (sym c.two.ensures ∙ c.in-None.is) h c.nameless.ensures

pub returns-in-Some : goal.returns-in-Some
returns-in-Some c = λ xs h. of_both c.args.name xs c.args.arguments c.in-Some.arguments c.remainder.result (sym c.two.ensures ∙ c.in-Some.is) h c.remainder.ensures
