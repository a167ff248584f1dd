use Rattle.std.proofs.Common.{◌+◌, drop, arith}
use Rattle.std.proofs.lemmas.Grind.{common_steps}
use Rattle.ds2_scope.proofs.EarliestLemmas.{none_right}
use Rattle.ds2_misplaced.proofs.TestForms.{one_more_constant, no_constant}
use Rattle.ds2_misplaced.proofs.constants.handed_constants.Goals as goal

pub constants-preserved : goal.constants-preserved
constants-preserved c =
    let k = one_more_constant c.constants.found c.constants.left.now c.constant-item.result (drop (c.constants.constant-index + 1) c.args.constants.now) in
    grind (arith, common_steps, k, c.constants.invariant)

pub returns : goal.returns
returns c =
    let k = no_constant c.constants.left.now in
    let n = none_right c.constants.found in
    grind (arith, common_steps, k, n, c.constants.invariant)
