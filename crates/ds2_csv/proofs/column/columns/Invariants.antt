use Rattle.std.proofs.Common.{◌≡◌, ◌++◌, drop}
use Rattle.ds2_csv.specs.Columns.{columns_from}
use Rattle.ds2_csv.specs.Known.{AreInferred}
use Rattle.ds2_csv.specs.Records.{Rows}
use Rattle.ds2_csv.proofs.column.columns.Given as goal

abbrev pub invariant-headings : goal.invariant-headings
invariant-headings l = (rows : Rows) → AreInferred l.known rows → l.columns ++ columns_from l.i (drop l.i l.headings) rows ≡ columns_from 0 l.headings rows
