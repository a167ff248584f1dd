use Rattle.std.proofs.Common.{◌≡◌, ◌∙◌, ◌<◌, List, sym, ap, subst, length, take, arith}
use Rattle.std.specs.Prelude.{true}
use Rattle.ds2_value.specs.Types.{fits}
use Rattle.ds2_value.specs.declared.value.Value.{Value}
use Rattle.ds2_columns.specs.Columns.{ColumnContents, with_value}
use Rattle.ds2_table.proofs.Across.{each_none, as_wide, as_many_columns, type_more, each_more, each_refused, on_err}
use Rattle.ds2_table.proofs.columns.push_each.Goals as goal

pub columns-init : goal.columns-init
columns-init c = sym (each_none c.args.columns.now.items)

pub index_mut-requires : goal.index_mut-requires
index_mut-requires c =
    omega (arith, c.columns-test.true, as_wide c.args.columns.now.items c.args.row.now c.requires, ap (λ (cs : List ColumnContents). length cs) c.columns.invariant, as_many_columns c.args.columns.now.items (take c.columns.i c.args.row.now), c.columns.columns.ok)

pub push-requires : goal.push-requires
push-requires c =
    let within : c.columns.i < length c.args.columns.now.items = omega (arith, c.columns-test.true, as_wide c.args.columns.now.items c.args.row.now c.requires) in
    subst (λ (v : Value). fits v c.index_mut.result.now.ty ≡ true) (sym c.as_cell.ensures)
    (type_more c.args.columns.now.items c.args.row.now c.columns.i c.columns.columns.items c.index_mut.result.now _ c.requires within c.columns.invariant c.index_mut.ensures.value c.index-row-i.is)

pub returns-in_err-push-clause-err : goal.returns-in_err-push-clause-err
returns-in_err-push-clause-err c =
    on_err c.from_residual.result
    (each_refused c.args.columns.now.items c.args.row.now c.columns.i c.columns.columns.items c.index_mut.result.now c.push.new.self c.columns.invariant c.index_mut.ensures.value c.in_err-push.ensures.err)

pub columns-preserved : goal.columns-preserved
columns-preserved c =
    let within : c.columns.i < length c.args.columns.now.items = omega (arith, c.columns-test.true, as_wide c.args.columns.now.items c.args.row.now c.requires) in
    each_more c.args.columns.now.items c.args.row.now c.columns.i c.columns.columns.items c.index_mut.result.now c.push.new.self _ c.requires within c.columns.invariant c.index_mut.ensures.value c.index-row-i.is
    (c.in_ok-push.ensures.ok ∙ ap (λ (v : Value). with_value c.index_mut.result.now v) c.as_cell.ensures)
