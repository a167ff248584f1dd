use Rattle.ds2_csv_cells.proofs.Inferring.{with-missing}
use Rattle.ds2_csv_cells.proofs.inference.Inference.add_missing.Goals as goal

pub returns : goal.returns
returns c cells is = with-missing c.args.self.now cells c.args.cell.now c.with_size-self.result is c.requires c.with_size-self.ensures
