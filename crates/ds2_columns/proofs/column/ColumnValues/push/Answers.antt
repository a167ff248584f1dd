use Rattle.std.proofs.Common.{sym, subst}
use Rattle.std.specs.Prelude.{IsTrue}
use Rattle.ds2_value.specs.Cell.{lent_value}
use Rattle.ds2_value.specs.Types.{fits}
use Rattle.ds2_columns.specs.Columns.{ColumnContents}
use Rattle.ds2_columns.specs.Items.{items_values}
use Rattle.ds2_columns.proofs.KeptColumns.{kept_either}
use Rattle.ds2_columns.proofs.column.ColumnValues.push.Goals as goal

pub invariant_of-self : goal.invariant_of-self
invariant_of-self c =
    let P : ColumnContents → Type 0 = λ column. IsTrue (fits (lent_value c.args.cell.now) column.ty) in
    kept_either c.self.inside.ty c.self.inside.marks (items_values c.self.inside.items) (items_values c.push.new.self) (lent_value c.args.cell.now) c.push.result
    c.self.invariant (subst P (sym c.self.view_is) c.requires) c.push.ensures.ok c.push.ensures.err
