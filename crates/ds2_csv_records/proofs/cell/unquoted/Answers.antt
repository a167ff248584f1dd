use Rattle.ds2_csv_records.proofs.Cells.{spelled-all}
use Rattle.ds2_csv_records.proofs.cell.unquoted.Goals as goal

pub returns : goal.returns
returns c = spelled-all _ _ _ c.is_empty.result c.is_empty.ensures c.quotes-test.false c.quotes.invariant.text
