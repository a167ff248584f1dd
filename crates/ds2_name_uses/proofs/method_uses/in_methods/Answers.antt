use Rattle.std.proofs.Common.{◌+◌, drop, arith}
use Rattle.std.proofs.lemmas.Grind.{common_steps}
use Rattle.std.specs.Prelude.{map}
use Rattle.ds2_tree.specs.UnitViews.{global_tree}
use Rattle.ds2_name_uses.specs.BrokenUses.{broken_in_method}
use Rattle.ds2_scope.proofs.CollectedLemmas.{one_more_global}
use Rattle.ds2_scope.proofs.EarliestLemmas.{none_right}
use Rattle.ds2_name_uses.proofs.method_uses.in_methods.Goals as goal

pub globals-init : goal.globals-init
globals-init c = λ names t has. grind (arith, common_steps)

pub globals-preserved : goal.globals-preserved
globals-preserved c = λ names t has.
    let here = c.in_ok-in_global.ensures names t has in
    let k = one_more_global (broken_in_method c.args.rule names) c.globals.found (global_tree c.global-item.result) (map global_tree (drop (c.globals.global-index + 1) c.args.globals.now)) in
    let before = c.globals.invariant names t has in
    grind (arith, common_steps, k, here, before)

pub returns : goal.returns
returns c = λ names t has.
    let k = none_right c.globals.found in
    let before = c.globals.invariant names t has in
    grind (arith, common_steps, k, before)
