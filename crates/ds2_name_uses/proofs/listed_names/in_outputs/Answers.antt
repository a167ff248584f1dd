use Rattle.std.proofs.Common.{◌+◌, drop, arith}
use Rattle.std.proofs.lemmas.Grind.{common_steps}
use Rattle.ds2_name_uses.specs.ListedParts.{unknown_in_output}
use Rattle.ds2_name_uses.specs.ScopeTables.{tests_by}
use Rattle.ds2_scope.proofs.CollectedLemmas.{one_more_item}
use Rattle.ds2_name_uses.proofs.listed_names.in_outputs.Goals as goal

pub outputs-preserved : goal.outputs-preserved
outputs-preserved c =
    let k = one_more_item (unknown_in_output (tests_by c.args.scope.now)) c.outputs.found c.o-item.result (drop (c.outputs.o-index + 1) c.args.outputs.now) in
    grind (arith, common_steps, k, c.outputs.invariant)
