use Rattle.ds2_csv_records.proofs.Reading.{no-more, within-first}
use Rattle.ds2_csv_records.proofs.taken.first_cell.Goals as goal

pub returns-then-is_empty : goal.returns-then-is_empty
returns-then-is_empty c =
    no-more c.args.text.now c.without_front-start.result.now c.is_empty.result c.without_front-start.ensures c.is_empty.ensures c.if-is_empty.true

pub returns-else-is_empty : goal.returns-else-is_empty
returns-else-is_empty c =
    within-first c.args.text.now c.without_front-start.result.now c.is_empty.result c.take_cell.result c.without_front-start.ensures c.is_empty.ensures c.if-is_empty.false c.take_cell.ensures.taken
