use Rattle.std.proofs.Common.{◌≡◌, ◌∙◌, ℕ, sym, ap, subst}
use Rattle.std.specs.Prelude.{true}
use Rattle.ds2_value.specs.Types.{fits}
use Rattle.ds2_value.specs.declared.ty.Ty.{Ty}
use Rattle.ds2_value.specs.declared.value.Value.{Value}
use Rattle.ds2_columns.specs.Columns.{ColumnContents, value_in_row}
use Rattle.ds2_columns.proofs.Fitting.{fits_at}
use Rattle.ds2_columns.proofs.column.ColumnValues.add_rows.Goals as goal

pub push-requires : goal.push-requires
push-requires c =
    let ty : c.rows.column.ty ≡ c.args.self.now.ty = ap (λ (column : ColumnContents). column.ty) c.rows.invariant ∙ c.requires in
    let all : (row : ℕ) → fits (value_in_row c.args.self.now.values row) c.rows.column.ty ≡ true =
    λ row. subst (λ (t : Ty). fits (value_in_row c.args.self.now.values row) t ≡ true) (sym ty) (fits_at c.args.self.now.ty c.args.self.now.values row c.is_column.ensures.fit) in
    subst (λ (v : Value). fits v c.rows.column.ty ≡ true) (sym c.cell.ensures) (all _)
