use Rattle.std.proofs.Common.{◌+◌, drop, arith}
use Rattle.std.proofs.lemmas.Grind.{common_steps}
use Rattle.ds2_resolve.specs.TableMakers.{maker_in, makes_one, makes_table}
use Rattle.ds2_resolve.proofs.MakerLemmas.{one_more_output}
use Rattle.ds2_resolve.proofs.makers.note_outputs.Goals as goal

pub outputs-preserved : goal.outputs-preserved
outputs-preserved c = λ name.
    let k = one_more_output (makes_table (drop (c.outputs.o-index + 1) c.args.outputs.now) name) (makes_one c.o-item.result name) c.args.number (maker_in c.outputs.makers name) in
    let noted = c.in_ok-note_output.ensures name in
    let before = c.outputs.invariant name in
    grind (arith, common_steps, k, noted, before)

pub returns : goal.returns
returns c = λ name. let before = c.outputs.invariant name in grind (arith, common_steps, before)
