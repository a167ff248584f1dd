use Rattle.std.proofs.Common.{map}
use Rattle.ds2_csv.specs.Text.{heading_text}
use Rattle.ds2_csv.proofs.Writing.{record-ended}
use Rattle.ds2_csv.proofs.write.add_header.Goals as goal

pub returns : goal.returns
returns c = record-ended _ _ _ c.len-start.result (map heading_text c.args.columns.now) c.len-start.ensures c.in_ok-header_cells.ensures c.in_ok-end_record.ensures
