use Rattle.std.proofs.Common.{◌+◌, drop, arith}
use Rattle.std.proofs.lemmas.Grind.{common_steps}
use Rattle.ds2_misplaced.specs.MisplacedParts.{null_place}
use Rattle.ds2_scope.proofs.CollectedLemmas.{one_more_item}
use Rattle.ds2_misplaced.proofs.methods_and_outputs.earliest_null.Goals as goal

pub outputs-preserved : goal.outputs-preserved
outputs-preserved c =
    let k = one_more_item null_place c.outputs.found c.o-item.result (drop (c.outputs.o-index + 1) c.args.outputs.now) in
    grind (arith, common_steps, k, c.in_ok-null_place.ensures, c.earlier_of-found.ensures, c.outputs.invariant)
