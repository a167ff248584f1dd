use Rattle.std.proofs.Common.{◌+◌, drop, arith}
use Rattle.std.proofs.lemmas.Grind.{common_steps}
use Rattle.ds2_misplaced.specs.MisplacedParts.{in_out_word}
use Rattle.ds2_scope.proofs.CollectedLemmas.{one_more_item}
use Rattle.ds2_misplaced.proofs.kinds.earliest_in_out.Goals as goal

pub parameters-preserved : goal.parameters-preserved
parameters-preserved c =
    let k = one_more_item in_out_word c.parameters.found c.parameter-item.result (drop (c.parameters.parameter-index + 1) c.args.parameters.now) in
    grind (arith, common_steps, k, c.parameters.invariant)
