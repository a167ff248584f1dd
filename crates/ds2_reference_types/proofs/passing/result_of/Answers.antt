use Rattle.std.proofs.Common.{None, Ok}
use Rattle.std.specs.Option.{option_copied}
use Rattle.ds2_value.specs.declared.ty.Ty.TheVariants.{BigInt}
use Rattle.ds2_meaning.specs.TypedExpression.{Called}
use Rattle.ds2_reference_types.proofs.MethodResults.{result_as}
use Rattle.ds2_reference_types.proofs.passing.result_of.Goals as goal

pub returns-in-Some : goal.returns-in-Some
returns-in-Some c = λ a h.
    result_as c.args.name (option_copied c.args.instance) c.args.method.now.number a c.args.method.now.returns _ c.with_result.result c.in-Some.is (c.with_result.ensures c.args.name a h)

pub returns-in-None : goal.returns-in-None
returns-in-None c = λ a h.
    result_as c.args.name (option_copied c.args.instance) c.args.method.now.number a c.args.method.now.returns None (Ok c.without_result.result) c.in-None.is
    (c.without_result.ensures (Called (option_copied c.args.instance) c.args.method.now.number a.arguments BigInt) a h)
