use Rattle.ds2_csv_records.proofs.Reading.{within-next}
use Rattle.ds2_csv_records.proofs.taken.Taken.next.Goals as goal

pub returns-clause-within : goal.returns-clause-within
returns-clause-within c text cells within = within-next text cells c.args.self c.take_cell.result c.requires c.take_cell.ensures.taken within
