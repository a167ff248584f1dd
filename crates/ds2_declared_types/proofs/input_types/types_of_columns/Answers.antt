use Rattle.std.proofs.Common.{◌+◌, drop, arith}
use Rattle.std.proofs.lemmas.Grind.{common_steps}
use Rattle.std.specs.Prelude.{nat_eq}
use Rattle.std.specs.Cmp.Lexicographic.{pointwise}
use Rattle.std.specs.HashMap.{get}
use Rattle.ds2_scope.proofs.TableLemmas.{or_none}
use Rattle.ds2_declared_types.proofs.InputForms.{one_more_type}
use Rattle.ds2_declared_types.proofs.input_types.types_of_columns.Goals as goal

pub columns-preserved : goal.columns-preserved
columns-preserved c = λ name.
    let k = one_more_type (get (pointwise nat_eq) c.columns.types name) c.column-item.result (drop (c.columns.column-index + 1) c.args.columns.now) name in
    let more = c.in_ok-add_type.ensures name in
    let before = c.columns.invariant name in
    grind (arith, common_steps, k, more, before)

pub returns : goal.returns
returns c = λ name.
    let k = or_none (get (pointwise nat_eq) c.columns.types name) in
    let before = c.columns.invariant name in
    grind (arith, common_steps, k, before)
