use Rattle.ds2_names.specs.declared.functions.NamedFunction.TheVariants as named
use Rattle.ds2_expression_walk.proofs.ArgumentForms.{form_told}
use Rattle.ds2_expression_walk.proofs.named_functions.form.Goals as goal

pub returns-in-OfOne : goal.returns-in-OfOne
returns-in-OfOne c = λ xs h. form_told c.args.name xs c.args.function (named.OfOne c.in-OfOne.by_type) c.of_single.result c.in-OfOne.is (c.of_single.ensures xs h)

pub returns-in-OfMany : goal.returns-in-OfMany
returns-in-OfMany c = λ xs h. form_told c.args.name xs c.args.function (named.OfMany c.in-OfMany.many) c.of_many.result c.in-OfMany.is (c.of_many.ensures xs h)

pub returns-in-Remainder : goal.returns-in-Remainder
returns-in-Remainder c = λ xs h. form_told c.args.name xs c.args.function named.Remainder c.remainder_of.result c.in-Remainder.is (c.remainder_of.ensures xs h)

pub returns-in-Substring : goal.returns-in-Substring
returns-in-Substring c = λ xs h. form_told c.args.name xs c.args.function named.Substring c.substring_of.result c.in-Substring.is (c.substring_of.ensures xs h)
