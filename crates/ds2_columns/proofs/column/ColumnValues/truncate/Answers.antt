use Rattle.ds2_columns.specs.Items.{items_values}
use Rattle.ds2_columns.proofs.KeptColumns.{kept_first}
use Rattle.ds2_columns.proofs.column.ColumnValues.truncate.Goals as goal

pub invariant_of-self : goal.invariant_of-self
invariant_of-self c =
    kept_first c.self.inside.ty c.self.inside.marks c.truncate.new.self (items_values c.self.inside.items) (items_values c.truncate-2.new.self) c.args.count
    c.self.invariant c.truncate.ensures c.truncate-2.ensures
