use Rattle.std.proofs.Common.{◌≡◌, ◌∙◌, ◌≤◌, List, sym, ap, subst, length}
use Rattle.std.specs.Prelude.{true}
use Rattle.ds2_columns.specs.Columns.{ColumnContents}
use Rattle.ds2_value.specs.Row.{Row, Columns}
use Rattle.ds2_value.specs.Schema.{row_fits}
use Rattle.ds2_table.specs.Across.{AddsMissing, HoldsRows, HaveTypesFor, rows_across, with_each}
use Rattle.ds2_table.specs.Table.{Contents, with_row}
use Rattle.ds2_table.proofs.Across.{still_holds, types_for, pushed_rows, pushed_holds, restored}
use Rattle.ds2_table.proofs.table.Table.push.Goals as goal

pub push_each-requires : goal.push_each-requires
push_each-requires c =
    let schema = c.self.inside.schema in
    let named = c.as_slice.ensures ∙ c.columns.ensures.value in
    let kept : AddsMissing schema c.self.inside.columns.items c.add_missing.new.columns.items =
    subst (λ (cs : Columns). AddsMissing cs c.self.inside.columns.items c.add_missing.new.columns.items) named c.in_ok-add_missing.ensures.kept in
    let long : length schema ≤ length c.add_missing.new.columns.items =
    subst (λ (cs : Columns). length cs ≤ length c.add_missing.new.columns.items) named c.in_ok-add_missing.ensures.ok in
    let fits : row_fits c.args.row schema ≡ true = subst (λ (t : Contents). row_fits c.args.row t.columns ≡ true) (sym c.self.view_is) c.requires in
    let held = still_holds schema c.self.inside.rows c.self.inside.columns.items c.add_missing.new.columns.items c.self.invariant kept in
    subst (λ (row : Row). HaveTypesFor c.add_missing.new.columns.items row) (sym c.as_slice-2.ensures)
    (types_for schema c.self.inside.rows c.add_missing.new.columns.items c.args.row held.first long fits)

pub invariant_of-self-in-Ok : goal.invariant_of-self-in-Ok
invariant_of-self-in-Ok c =
    let schema = c.self.inside.schema in
    let named = c.as_slice.ensures ∙ c.columns.ensures.value in
    pushed_holds schema c.self.inside.rows c.self.inside.columns.items c.add_missing.new.columns.items c.push_each.new.columns.items c.args.row c.self.invariant
    (subst (λ (cs : Columns). AddsMissing cs c.self.inside.columns.items c.add_missing.new.columns.items) named c.in_ok-add_missing.ensures.kept)
    (subst (λ (cs : Columns). length cs ≤ length c.add_missing.new.columns.items) named c.in_ok-add_missing.ensures.ok)
    (subst (λ (t : Contents). row_fits c.args.row t.columns ≡ true) (sym c.self.view_is) c.requires)
    (c.in-Ok.ensures.ok ∙ ap (λ (row : Row). with_each c.add_missing.new.columns.items row) c.as_slice-2.ensures)

pub returns-in-Ok-clause-ok : goal.returns-in-Ok-clause-ok
returns-in-Ok-clause-ok c =
    let schema = c.self.inside.schema in
    let named = c.as_slice.ensures ∙ c.columns.ensures.value in
    ap (λ (rows : List Row). record { columns = schema; rows = rows })
    (pushed_rows schema c.self.inside.rows c.self.inside.columns.items c.add_missing.new.columns.items c.push_each.new.columns.items c.args.row c.self.invariant
    (subst (λ (cs : Columns). AddsMissing cs c.self.inside.columns.items c.add_missing.new.columns.items) named c.in_ok-add_missing.ensures.kept)
    (subst (λ (cs : Columns). length cs ≤ length c.add_missing.new.columns.items) named c.in_ok-add_missing.ensures.ok)
    (subst (λ (t : Contents). row_fits c.args.row t.columns ≡ true) (sym c.self.view_is) c.requires)
    (c.in-Ok.ensures.ok ∙ ap (λ (row : Row). with_each c.add_missing.new.columns.items row) c.as_slice-2.ensures))
    ∙ ap (λ (t : Contents). with_row t c.args.row) c.self.view_is

pub invariant_of-self-in-Err : goal.invariant_of-self-in-Err
invariant_of-self-in-Err c =
    let schema = c.self.inside.schema in
    let named = c.as_slice.ensures ∙ c.columns.ensures.value in
    let kept : AddsMissing schema c.self.inside.columns.items c.add_missing.new.columns.items =
    subst (λ (cs : Columns). AddsMissing cs c.self.inside.columns.items c.add_missing.new.columns.items) named c.in_ok-add_missing.ensures.kept in
    subst (λ (cs : List ColumnContents). HoldsRows schema c.self.inside.rows cs)
    (sym (restored schema c.self.inside.rows c.self.inside.columns.items c.add_missing.new.columns.items c.push_each.new.columns.items c.cut_back.new.columns.items
    c.self.invariant kept c.in-Err.ensures.err c.cut_back.ensures))
    (still_holds schema c.self.inside.rows c.self.inside.columns.items c.add_missing.new.columns.items c.self.invariant kept)

pub returns-clause-err : goal.returns-clause-err
returns-clause-err c =
    let schema = c.self.inside.schema in
    let named = c.as_slice.ensures ∙ c.columns.ensures.value in
    let kept : AddsMissing schema c.self.inside.columns.items c.add_missing.new.columns.items =
    subst (λ (cs : Columns). AddsMissing cs c.self.inside.columns.items c.add_missing.new.columns.items) named c.in_ok-add_missing.ensures.kept in
    let same = restored schema c.self.inside.rows c.self.inside.columns.items c.add_missing.new.columns.items c.push_each.new.columns.items c.cut_back.new.columns.items
    c.self.invariant kept c.in-Err.ensures.err c.cut_back.ensures in
    ap (λ (rows : List Row). record { columns = schema; rows = rows })
    (ap (λ (cs : List ColumnContents). rows_across c.self.inside.rows cs) same ∙ kept.rows c.self.inside.rows c.self.invariant.first)
    ∙ c.self.view_is
