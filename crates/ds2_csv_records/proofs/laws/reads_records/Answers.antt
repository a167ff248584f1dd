use Rattle.ds2_csv_records.proofs.LawRecords.{reads-records}
use Rattle.ds2_csv_records.proofs.laws.reads_records.Goals as goal

pub returns : goal.returns
returns c = reads-records
