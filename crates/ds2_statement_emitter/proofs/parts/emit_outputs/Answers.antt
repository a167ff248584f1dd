use Rattle.std.proofs.Common.{◌+◌, drop, get_or, arith}
use Rattle.std.proofs.lemmas.Grind.{common_steps}
use Rattle.ds2_statement_emitter.proofs.PartRuns.{no_output_added, output_added}
use Rattle.ds2_statement_emitter.proofs.parts.emit_outputs.Goals as goal

pub outputs-preserved : goal.outputs-preserved
outputs-preserved c =
    let k = output_added (get_or c.args.outputs.now c.outputs.output-index 0) (drop (c.outputs.output-index + 1) c.args.outputs.now) c.outputs.code in
    grind (arith, common_steps, k, c.in_ok-emit.ensures, c.outputs.invariant)

pub returns : goal.returns
returns c = grind (arith, common_steps, no_output_added c.outputs.code, c.outputs.invariant)
