use Rattle.std.proofs.Common.{length, arith}
use Rattle.ds2_loads.proofs.rows_in_turn.next_row.Goals as goal

pub set_row_load-requires-clause-table : goal.set_row_load-requires-clause-table
set_row_load-requires-clause-table c = omega (arith, c.in-Some.ensures.next.table, c.requires)

pub set_row_load-requires-clause-row : goal.set_row_load-requires-clause-row
set_row_load-requires-clause-row c = c.in-Some.ensures.room

pub returns-in-Some : goal.returns-in-Some
returns-in-Some c =
    let it = c.in-Some.ensures.next in
    let here = c.in-Some.here in
    record { row = record { table = here.table; number = here.row; key = it.key }; left = it.left; means = c.set_row_load.ensures (length c.args.reads.now) c.requires }
