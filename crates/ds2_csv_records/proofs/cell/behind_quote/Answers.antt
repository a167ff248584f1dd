use Rattle.ds2_csv_records.proofs.Cells.{quote-cut}
use Rattle.ds2_csv_records.proofs.cell.behind_quote.Goals as goal

pub split_at-requires : goal.split_at-requires
split_at-requires c = quote-cut c.args.text.now c.utf8.text c.requires
