use Rattle.std.proofs.Common.{◌+◌, drop, arith}
use Rattle.std.proofs.lemmas.Grind.{common_steps}
use Rattle.std.specs.Prelude.{map}
use Rattle.ds2_tree.specs.UnitViews.{global_tree}
use Rattle.ds2_scope.specs.CodeUnits.{unit_kind}
use Rattle.ds2_misplaced.specs.MisplacedParts.{misplaced_in_method_of}
use Rattle.ds2_scope.proofs.CollectedLemmas.{one_more_global}
use Rattle.ds2_misplaced.proofs.methods_and_outputs.in_methods.Goals as goal

pub globals-preserved : goal.globals-preserved
globals-preserved c =
    let k = one_more_global (misplaced_in_method_of (unit_kind c.args.kind)) c.globals.found (global_tree c.global-item.result) (map global_tree (drop (c.globals.global-index + 1) c.args.globals.now)) in
    grind (arith, common_steps, k, c.in_ok-in_global.ensures, c.earlier_of-found.ensures, c.globals.invariant)
