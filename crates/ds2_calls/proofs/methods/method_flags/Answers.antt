use Rattle.std.proofs.Common.{◌+◌, drop, arith}
use Rattle.std.proofs.lemmas.Grind.{common_steps}
use Rattle.std.specs.Prelude.{nat_eq, map}
use Rattle.std.specs.Cmp.Lexicographic.{pointwise}
use Rattle.std.specs.HashMap.{get}
use Rattle.ds2_tree.specs.UnitViews.{global_tree}
use Rattle.ds2_calls.proofs.MethodLemmas.{one_more_method}
use Rattle.ds2_scope.proofs.TableLemmas.{or_none}
use Rattle.ds2_calls.proofs.methods.method_flags.Goals as goal

pub globals-preserved : goal.globals-preserved
globals-preserved c = λ name.
    let k = one_more_method (get (pointwise nat_eq) c.globals.methods name) (global_tree c.global-item.result) (map global_tree (drop (c.globals.global-index + 1) c.args.globals.now)) name in
    let noted = c.in_ok-note_global.ensures name in
    let before = c.globals.invariant name in
    grind (arith, common_steps, k, noted, before)

pub returns : goal.returns
returns c = λ name.
    let k = or_none (get (pointwise nat_eq) c.globals.methods name) in
    let before = c.globals.invariant name in
    grind (arith, common_steps, k, before)
