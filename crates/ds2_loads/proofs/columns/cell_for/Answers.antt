use Rattle.std.proofs.Common.{◌≡◌, Some, sym, ap, ◌∙◌, subst}
use Rattle.std.specs.Prelude.{IsTrue, slice_get}
use Rattle.std.specs.Option.{option_copied}
use Rattle.ds2_value.specs.Types.{fits}
use Rattle.ds2_value.specs.Row.{Columns}
use Rattle.ds2_value.specs.declared.value.Value.{Value}
use Rattle.ds2_loads.proofs.Unchanged.{table_value_fits}
use Rattle.ds2_loads.proofs.columns.cell_for.Goals as goal

pub column_value-requires-clause-fit : goal.column_value-requires-clause-fit
column_value-requires-clause-fit c =
    let t = c.args.table.now in
    let described = c.in-Some.described.now in
    let there : slice_get t.columns c.args.column ≡ Some described =
    ap (λ (xs : Columns). slice_get xs c.args.column) (sym (c.columns.ensures.value ∙ c.schema.ensures)) ∙ sym c.get.ensures ∙ ap option_copied c.in-Some.is in
    subst (λ (v : Value). IsTrue (fits v described.ty)) (sym c.cell-value.ensures) (table_value_fits t c.args.row c.args.column described c.is_table.ensures there)
