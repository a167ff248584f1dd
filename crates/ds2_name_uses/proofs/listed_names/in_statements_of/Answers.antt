use Rattle.std.proofs.Common.{◌+◌, drop, arith}
use Rattle.std.proofs.lemmas.Grind.{common_steps}
use Rattle.std.specs.Prelude.{map}
use Rattle.ds2_tree.specs.UnitViews.{global_tree}
use Rattle.ds2_name_uses.specs.ListedParts.{unknown_in_lists}
use Rattle.ds2_name_uses.specs.ScopeTables.{tests_by}
use Rattle.ds2_scope.proofs.CollectedLemmas.{one_more_item}
use Rattle.ds2_name_uses.proofs.listed_names.in_statements_of.Goals as goal

pub globals-preserved : goal.globals-preserved
globals-preserved c =
    let k = one_more_item (unknown_in_lists (tests_by c.args.scope.now)) c.globals.found (global_tree c.global-item.result) (map global_tree (drop (c.globals.global-index + 1) c.args.globals.now)) in
    grind (arith, common_steps, k, c.globals.invariant)
