use Rattle.std.proofs.Common.{◌≡◌, length, arith}
use Rattle.ds2_local.proofs.BodyLemmas.{none_read, one_output_more, all_outputs}
use Rattle.ds2_local.proofs.runs.read_all_outputs.Goals as goal

pub outputs-init : goal.outputs-init
outputs-init c = none_read c.args.scope.now c.args.walk.now

pub outputs-preserved : goal.outputs-preserved
outputs-preserved c = one_output_more c.args.scope.now c.args.walk.now c.outputs.walk c.read_output.new.walk _ c.outputs.number c.outputs.invariant c.in_ok-read_output.ensures

pub returns : goal.returns
returns c =
    let over = c.outputs-test.false in
    let few = c.outputs.auto.number-end in
    let whole : c.outputs.number ≡ length c.args.scope.now.body.outputs.now = omega (arith, over, few) in
    all_outputs c.args.scope.now c.args.walk.now c.outputs.walk _ c.outputs.number whole c.outputs.invariant
