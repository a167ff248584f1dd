use Rattle.std.proofs.Common.{ap, ◌∙◌}
use Rattle.ds2_declared_types.specs.Joins.{clash_at_rows, column_typing_of}
use Rattle.ds2_declared_types.proofs.ColumnForms.{rows_clash, tables_clash}
use Rattle.ds2_declared_types.proofs.columns.clash_read.Goals as goal

pub returns-in-Some : goal.returns-in-Some
returns-in-Some c =
    let from = c.args.from in
    let begun = c.typing_of_rows-begun.ensures in
    rows_clash from.inputs.now from.stage from.row_types.now c.args.declared c.args.name.now c.clash_at_rows.result c.in-Some.place c.in-Some.is
    (c.clash_at_rows.ensures ∙ ap (clash_at_rows from.stage) begun)

pub returns-in-None : goal.returns-in-None
returns-in-None c =
    let from = c.args.from in
    let begun = c.typing_of_rows-begun.ensures in
    c.clashing_table.ensures
    ∙ tables_clash from.inputs.now from.stage from.row_types.now c.args.declared c.args.name.now c.clash_at_rows.result (column_typing_of c.typing_of_rows-begun.result) c.in-None.is
    (c.clash_at_rows.ensures ∙ ap (clash_at_rows from.stage) begun) begun
