use Rattle.std.proofs.Common.{arith}
use Rattle.ds2_merge.proofs.LoadMeans.{past_rows, no_row, this_row, place_there}
use Rattle.ds2_merge.proofs.key_load.row_of_table.Goals as goal

pub overflow_add-from : goal.overflow_add-from
overflow_add-from c = record {
  fits = place_there c.args.rows.now c.args.place.now c.args.key.now c.requires.here c.args.table c.requires.table (omega (arith, c.saturating_sub.ensures));
}

pub returns-then-key-saturating_sub : goal.returns-then-key-saturating_sub
returns-then-key-saturating_sub c =
    past_rows c.args.rows.now c.args.place.now c.args.key.now c.requires.here c.args.table c.requires.table (omega (arith, c.saturating_sub.ensures))

pub returns-in-None : goal.returns-in-None
returns-in-None c =
    no_row c.args.rows.now c.args.place.now c.args.key.now c.requires.here c.args.table c.requires.table (omega (arith, c.saturating_sub.ensures)) c.in-None.ensures.row

pub returns-in-Some : goal.returns-in-Some
returns-in-Some c =
    this_row c.args.rows.now c.args.place.now c.args.key.now c.requires.here c.args.table c.requires.table (omega (arith, c.saturating_sub.ensures)) c.in-Some.row
    c.in-Some.ensures.there c.in-Some.ensures.row
