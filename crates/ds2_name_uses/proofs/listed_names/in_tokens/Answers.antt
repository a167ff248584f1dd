use Rattle.std.proofs.Common.{◌+◌, drop, arith}
use Rattle.std.proofs.lemmas.Grind.{common_steps}
use Rattle.ds2_name_uses.specs.ListedParts.{unknown_global}
use Rattle.ds2_name_uses.specs.ScopeTables.{tests_by}
use Rattle.ds2_scope.proofs.CollectedLemmas.{one_more_item}
use Rattle.ds2_name_uses.proofs.listed_names.in_tokens.Goals as goal

pub names-preserved : goal.names-preserved
names-preserved c =
    let k = one_more_item (unknown_global (tests_by c.args.scope.now)) c.names.found c.name-item.result (drop (c.names.name-index + 1) c.args.names.now) in
    grind (arith, common_steps, k, c.names.invariant)
