use Rattle.std.proofs.Common.{ap}
use Rattle.ds2_merge.specs.KeyPlaces.{is_row_of}
use Rattle.ds2_merge.proofs.next_key.is_of_table.Goals as goal

pub returns-in-None : goal.returns-in-None
returns-in-None c = ap (is_row_of c.args.table) c.in-None.ensures.row

pub returns-in-Some : goal.returns-in-Some
returns-in-Some c = ap (is_row_of c.args.table) c.in-Some.ensures.row
