use Rattle.std.proofs.Common.{List, subst}
use Rattle.std.specs.List.{AllByRecursion}
use Rattle.ds2_columns.specs.Columns.{ColumnContents, IsColumn}
use Rattle.ds2_table.proofs.Across.{holds_columns}
use Rattle.ds2_table.proofs.table.Table.of_columns.Goals as goal

pub invariant_of-result : goal.invariant_of-result
invariant_of-result c =
    holds_columns c.args.schema c.args.rows c.args.columns.items c.requires
    (subst (λ (columns : List ColumnContents). AllByRecursion IsColumn columns) c.as_slice.ensures.value c.read_columns.ensures)
