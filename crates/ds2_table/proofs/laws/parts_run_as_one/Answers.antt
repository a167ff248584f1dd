use Rattle.ds2_table.proofs.Parts.{parts_run_as_one}
use Rattle.ds2_table.proofs.laws.parts_run_as_one.Goals as goal

pub returns : goal.returns
returns c start = parts_run_as_one c.row.L.Denot c.row.C.Denot
