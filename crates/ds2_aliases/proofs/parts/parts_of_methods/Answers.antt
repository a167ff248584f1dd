use Rattle.std.proofs.Common.{◌+◌, drop, arith}
use Rattle.std.proofs.lemmas.Grind.{common_steps}
use Rattle.std.specs.Prelude.{map}
use Rattle.ds2_tree.specs.UnitViews.{global_tree}
use Rattle.ds2_scope.proofs.CollectedLemmas.{methods_item}
use Rattle.ds2_aliases.proofs.parts.parts_of_methods.Goals as goal

pub globals-preserved : goal.globals-preserved
globals-preserved c =
    let k = methods_item (global_tree c.global-item.result) (map global_tree (drop (c.globals.global-index + 1) c.args.globals.now)) in
    grind (arith, common_steps, k, c.in_ok-push_parts_in.ensures, c.globals.invariant)
