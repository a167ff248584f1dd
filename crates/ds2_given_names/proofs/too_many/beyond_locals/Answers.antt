use Rattle.std.proofs.Common.{◌+◌, drop, arith}
use Rattle.std.proofs.lemmas.Grind.{common_steps}
use Rattle.std.specs.Prelude.{map}
use Rattle.ds2_tree.specs.UnitViews.{global_tree}
use Rattle.ds2_given_names.specs.TooMany.{too_many_locals}
use Rattle.ds2_scope.proofs.CollectedLemmas.{one_more_global}
use Rattle.ds2_given_names.proofs.too_many.beyond_locals.Goals as goal

pub globals-preserved : goal.globals-preserved
globals-preserved c =
    let k = one_more_global too_many_locals c.globals.found (global_tree c.global-item.result) (map global_tree (drop (c.globals.global-index + 1) c.args.globals.now)) in
    grind (arith, common_steps, k, c.globals.invariant)
