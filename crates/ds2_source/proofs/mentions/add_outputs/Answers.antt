use Rattle.std.proofs.Common.{◌+◌, drop, nat_eq, arith}
use Rattle.std.proofs.lemmas.Grind.{common_steps}
use Rattle.std.specs.Cmp.Lexicographic.{pointwise}
use Rattle.std.specs.HashSet.{contains}
use Rattle.ds2_source.proofs.StoreTables.{one_output}
use Rattle.ds2_source.proofs.mentions.add_outputs.Goals as goal

pub outputs-preserved : goal.outputs-preserved
outputs-preserved c = λ name.
    let k = one_output c.o-item.result name (contains (pointwise nat_eq) c.outputs.known name) (drop (c.outputs.o-index + 1) c.args.outputs.now) in
    let added = c.in_ok-add_output.ensures name in
    let was = c.outputs.invariant name in
    grind (arith, common_steps, k, added, was)

pub returns : goal.returns
returns c = λ name. let was = c.outputs.invariant name in grind (arith, common_steps, was)
