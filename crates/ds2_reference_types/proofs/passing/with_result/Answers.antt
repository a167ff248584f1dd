use Rattle.std.specs.Option.{option_copied}
use Rattle.ds2_reference_types.proofs.MethodResults.{result_broken, result_typed}
use Rattle.ds2_reference_types.proofs.passing.with_result.Goals as goal

pub returns-in-Err : goal.returns-in-Err
returns-in-Err c = λ name a h. result_broken name (option_copied c.args.instance) c.args.number a c.args.arguments h c.args.ty c.in-Err.refusal c.in-Err.is

pub returns-in_ok-node-in-Ok : goal.returns-in_ok-node-in-Ok
returns-in_ok-node-in-Ok c = λ name a h.
    result_typed name (option_copied c.args.instance) c.args.number a c.args.arguments h c.args.ty c.in-Ok.arguments c.in_ok-node-in-Ok.node c.in_ok-own-in-Ok.own c.in-Ok.is
    c.in_ok-own-in-Ok.ensures c.in_ok-node-in-Ok.ensures
