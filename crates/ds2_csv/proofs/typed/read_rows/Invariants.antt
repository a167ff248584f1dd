use Rattle.std.proofs.Common.{◌≡◌, ◌++◌, length}
use denote.Shadow.{shadow}
use denote.Text.{Utf8}
use Rattle.ds2_csv_records.specs.Reading.{records_left}
use Rattle.ds2_csv.specs.Records.{Rows}
use Rattle.ds2_csv.specs.Typed.{HasColumnTypes, HasRead}
use Rattle.ds2_csv.proofs.typed.read_rows.Given as goal

abbrev pub invariant-rows : goal.invariant-rows
invariant-rows l = record {
  types : HasColumnTypes l.typed l.columns (length l.fn.known);
  read : (rows : Rows) × (l.count ≡ length rows) × (rows ++ records_left l.rest ≡ records_left l.text) × HasRead l.typed l.columns rows;
  utf8 : shadow (Utf8 l.rest);
}
