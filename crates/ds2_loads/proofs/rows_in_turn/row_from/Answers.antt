use Rattle.std.proofs.Common.{drop}
use Rattle.ds2_loads.specs.RowsBehind.{rows_behind}
use Rattle.ds2_loads.proofs.RowLists.{table_behind, row_there}
use Rattle.ds2_loads.proofs.rows_in_turn.row_from.Goals as goal

pub returns-then-row-count-clause-next : goal.returns-then-row-count-clause-next
returns-then-row-count-clause-next c =
    row_there c.args.tables.now c.args.reads.now c.tables.table c.tables.row c.row_count-count.result c.index-reads-table.result
    (rows_behind c.args.tables.now c.args.from.table c.args.from.row (drop c.args.from.table c.args.reads.now)) c.tables-test.true c.index-reads-table.is c.row_count-count.ensures c.if-row-count.true c.tables.invariant

pub tables-preserved : goal.tables-preserved
tables-preserved c =
    table_behind c.args.tables.now c.args.reads.now c.tables.table c.tables.row c.row_count-count.result c.index-reads-table.result
    (rows_behind c.args.tables.now c.args.from.table c.args.from.row (drop c.args.from.table c.args.reads.now)) c.tables-test.true c.index-reads-table.is c.row_count-count.ensures c.if-row-count.false c.tables.invariant
