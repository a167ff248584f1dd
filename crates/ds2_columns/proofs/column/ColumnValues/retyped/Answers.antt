use Rattle.std.proofs.Common.{sym, subst}
use Rattle.std.specs.Prelude.{IsTrue}
use Rattle.ds2_columns.specs.Columns.{ColumnContents, all_fit}
use Rattle.ds2_columns.specs.Items.{items_values}
use Rattle.ds2_columns.proofs.KeptColumns.{kept_as}
use Rattle.ds2_columns.proofs.column.ColumnValues.retyped.Goals as goal

pub invariant_of-result : goal.invariant_of-result
invariant_of-result c =
    let P : ColumnContents → Type 0 = λ column. IsTrue (all_fit c.args.ty column.values) in
    kept_as c.args.ty c.self.inside.ty c.self.inside.marks (items_values c.self.inside.items) c.self.invariant c.requires.bounds (subst P (sym c.self.view_is) c.requires.fit)
