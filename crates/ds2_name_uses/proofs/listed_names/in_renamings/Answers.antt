use Rattle.std.proofs.Common.{◌+◌, drop, arith}
use Rattle.std.proofs.lemmas.Grind.{common_steps}
use Rattle.std.specs.Prelude.{map}
use Rattle.ds2_tree.specs.declared.units.Renaming.{Renaming}
use Rattle.ds2_name_uses.specs.ListedParts.{unknown_global}
use Rattle.ds2_name_uses.specs.ScopeTables.{tests_by}
use Rattle.ds2_scope.proofs.CollectedLemmas.{one_more_item}
use Rattle.ds2_name_uses.proofs.listed_names.in_renamings.Goals as goal

pub renamings-preserved : goal.renamings-preserved
renamings-preserved c =
    let k = one_more_item (unknown_global (tests_by c.args.scope.now)) c.renamings.found c.r-item.result.old (map (λ (r : Renaming). r.old) (drop (c.renamings.r-index + 1) c.args.renamings.now)) in
    grind (arith, common_steps, k, c.renamings.invariant)
