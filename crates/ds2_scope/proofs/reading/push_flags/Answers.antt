use Rattle.std.proofs.Common.{◌+◌, drop, arith}
use Rattle.std.proofs.lemmas.Grind.{common_steps}
use Rattle.ds2_scope.proofs.CollectedLemmas.{flags_item}
use Rattle.ds2_scope.proofs.reading.push_flags.Goals as goal

pub inputs-preserved : goal.inputs-preserved
inputs-preserved c =
    let k = flags_item c.input-item.result (drop (c.inputs.input-index + 1) c.args.inputs.now) in
    grind (arith, common_steps, k, c.in_ok-push_flag.ensures, c.inputs.invariant)
