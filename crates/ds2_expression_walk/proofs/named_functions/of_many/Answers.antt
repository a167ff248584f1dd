use Rattle.ds2_names.specs.declared.functions.FunctionOfMany.TheVariants as many
use Rattle.ds2_expression_walk.proofs.ArgumentForms.{many_told}
use Rattle.ds2_expression_walk.proofs.named_functions.of_many.Goals as goal

pub returns-in-Coalesce : goal.returns-in-Coalesce
returns-in-Coalesce c = λ xs h. many_told c.args.name xs c.args.function many.Coalesce c.coalesce.result c.in-Coalesce.is (c.coalesce.ensures xs h)

pub returns-in-Greatest : goal.returns-in-Greatest
returns-in-Greatest c = λ xs h. many_told c.args.name xs c.args.function many.Greatest c.extreme.result c.in-Greatest.is (c.extreme.ensures xs h)

pub returns-in-Least : goal.returns-in-Least
returns-in-Least c = λ xs h. many_told c.args.name xs c.args.function many.Least c.extreme-in-Least.result c.in-Least.is (c.extreme-in-Least.ensures xs h)
