use Rattle.std.proofs.Common.{◌≡◌, ◌∙◌, ◌<◌, ◌≤◌, List, refl, subst, length, get_or}
use Rattle.std.proofs.lemmas.Option.{slice_get_past, slice_get_read}
use Rattle.std.specs.Prelude.{Some, None, slice_get}
use Rattle.ds2_columns.specs.Columns.{ColumnContents}
use Rattle.ds2_value.specs.Cell.{lent_value}
use Rattle.ds2_value.specs.declared.value.Value.TheVariants.{Null}
use Rattle.ds2_table.specs.Table.{Contents, table_value}
use Rattle.ds2_table.proofs.Across.{no_cell, cell_is}
use Rattle.ds2_table.proofs.table.Table.cell.Goals as goal

pub returns-in-None : goal.returns-in-None
returns-in-None c =
    let P : Contents → Type 0 = λ t. Null ≡ table_value t.rows c.args.row c.args.column in
    let none : slice_get c.self.inside.columns.items c.args.column ≡ None =
    slice_get_past c.self.inside.columns.items c.args.column
    (subst (λ (columns : List ColumnContents). length columns ≤ c.args.column) c.deref.ensures.value c.in-None.ensures.lookup.3) in
    subst P c.self.view_is (no_cell c.self.inside.rows c.self.inside.columns.items c.args.row c.args.column none)

pub returns-in-Some : goal.returns-in-Some
returns-in-Some c =
    let P : Contents → Type 0 = λ t. lent_value c.cell.result ≡ table_value t.rows c.args.row c.args.column in
    let there : slice_get c.self.inside.columns.items c.args.column ≡ Some c.in-Some.values.now =
    slice_get_read c.self.inside.columns.items (length c.self.inside.columns.items) c.args.column c.in-Some.values.now refl
    (subst (λ (columns : List ColumnContents). c.args.column < length columns) c.deref.ensures.value c.in-Some.ensures.lookup.3.0)
    (subst (λ (columns : List ColumnContents). c.in-Some.values.now ≡ get_or columns c.args.column c.in-Some.values.now) c.deref.ensures.value c.in-Some.ensures.lookup.1) in
    subst P c.self.view_is
    (c.cell.ensures ∙ cell_is c.self.inside.schema c.self.inside.rows c.self.inside.columns.items c.args.row c.args.column c.in-Some.values.now c.self.invariant.first there)
