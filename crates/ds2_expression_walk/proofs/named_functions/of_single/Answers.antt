use Rattle.std.proofs.Common.{sym, ◌∙◌}
use Rattle.ds2_expression_walk.proofs.ArgumentForms.{not_single, of_single}
use Rattle.ds2_expression_walk.proofs.named_functions.of_single.Goals as goal

pub returns-in-None : goal.returns-in-None
returns-in-None c = λ xs h. not_single c.args.by_type c.args.name xs c.args.arguments c.nameless.result (sym c.single.ensures ∙ c.in-None.is) h c.nameless.ensures

pub returns-in-Some : goal.returns-in-Some
returns-in-Some c = λ xs h. of_single c.args.by_type c.args.name xs c.args.arguments c.in-Some.x c.of_one.result (sym c.single.ensures ∙ c.in-Some.is) h c.of_one.ensures
