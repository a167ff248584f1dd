use Rattle.std.proofs.Common.{◌+◌, drop, arith}
use Rattle.std.proofs.lemmas.Grind.{common_steps}
use Rattle.std.specs.Prelude.{nat_eq, map}
use Rattle.std.specs.Cmp.Lexicographic.{pointwise}
use Rattle.std.specs.HashMap.{get}
use Rattle.ds2_tree.specs.UnitViews.{global_tree}
use Rattle.ds2_scope.proofs.TableLemmas.{or_none}
use Rattle.ds2_scope.specs.CodeUnits.{unit_kind}
use Rattle.ds2_type_tables.proofs.CallableLemmas.{one_more_callable}
use Rattle.ds2_type_tables.proofs.methods.methods.Goals as goal

pub globals-preserved : goal.globals-preserved
globals-preserved c = λ name.
    let k =
    one_more_callable (get (pointwise nat_eq) c.globals.table name) c.globals.number (unit_kind c.args.kind) (map global_tree (drop (c.globals.global-index + 1) c.args.globals.now)) name
    (global_tree c.global-item.result) c.in_ok-number.number c.in_ok-number.ensures.number in
    let noted = c.in_ok-number.ensures.table name in
    let before = c.globals.invariant name in
    grind (arith, common_steps, k, noted, before)

pub returns : goal.returns
returns c = λ name.
    let k = or_none (get (pointwise nat_eq) c.globals.table name) in
    let before = c.globals.invariant name in
    grind (arith, common_steps, k, before)
