use Rattle.std.proofs.Common.{◌≡◌, ◌∙◌, ◌<◌, ◌≤◌, List, refl, ap, subst, length, get_or, map}
use Rattle.std.proofs.lemmas.Option.{slice_get_past, slice_get_read}
use Rattle.std.specs.Prelude.{Some, None, IfOk, slice_get}
use Rattle.ds2_columns.specs.Columns.{ColumnContents, value_in_row}
use Rattle.ds2_table.specs.Table.{Contents, table_value}
use Rattle.ds2_table.proofs.Across.{no_cell, cell_is, gathered_is}
use Rattle.ds2_table.proofs.table.Table.gathered_column.Goals as goal

pub returns-in-None : goal.returns-in-None
returns-in-None c =
    let none : slice_get c.self.inside.columns.items c.args.column ≡ None =
    slice_get_past c.self.inside.columns.items c.args.column
    (subst (λ (columns : List ColumnContents). length columns ≤ c.args.column) c.deref.ensures.value c.in-None.ensures.lookup.3) in
    let P : Contents → Type 0 = λ t. IfOk c.gathered.result (λ gathered. gathered.values ≡ map (λ row. table_value t.rows row c.args.column) c.args.order.now) in
    subst P c.self.view_is
    (gathered_is c.gathered.result c.new.result c.args.order.now _ c.gathered.ensures
    (λ row. ap (λ (column : ColumnContents). value_in_row column.values row) c.new.ensures ∙ no_cell c.self.inside.rows c.self.inside.columns.items row c.args.column none))

pub returns-in-Some : goal.returns-in-Some
returns-in-Some c =
    let there : slice_get c.self.inside.columns.items c.args.column ≡ Some c.in-Some.values.now =
    slice_get_read c.self.inside.columns.items (length c.self.inside.columns.items) c.args.column c.in-Some.values.now refl
    (subst (λ (columns : List ColumnContents). c.args.column < length columns) c.deref.ensures.value c.in-Some.ensures.lookup.3.0)
    (subst (λ (columns : List ColumnContents). c.in-Some.values.now ≡ get_or columns c.args.column c.in-Some.values.now) c.deref.ensures.value c.in-Some.ensures.lookup.1) in
    let P : Contents → Type 0 = λ t. IfOk c.gathered-in-Some.result (λ gathered. gathered.values ≡ map (λ row. table_value t.rows row c.args.column) c.args.order.now) in
    subst P c.self.view_is
    (gathered_is c.gathered-in-Some.result c.in-Some.values.now c.args.order.now _ c.gathered-in-Some.ensures
    (λ row. cell_is c.self.inside.schema c.self.inside.rows c.self.inside.columns.items row c.args.column c.in-Some.values.now c.self.invariant.first there))
