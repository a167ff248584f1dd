use Rattle.ds2_csv_records.proofs.Reading.{within-last}
use Rattle.ds2_csv_records.proofs.taken.Taken.behind.Goals as goal

pub returns : goal.returns
returns c text cells within = within-last text cells c.args.self c.requires within
