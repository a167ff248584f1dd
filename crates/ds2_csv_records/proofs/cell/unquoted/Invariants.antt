use Rattle.std.proofs.Common.{◌≡◌, ◌++◌, true, length, string_bytes}
use denote.Shadow.{shadow}
use denote.Text.{Utf8}
use Rattle.ds2_csv_records.specs.Cells.{unquoted}
use Rattle.ds2_csv_records.proofs.cell.unquoted.Given as goal

abbrev pub invariant-quotes : goal.invariant-quotes
invariant-quotes l = record {
  text : string_bytes l.text ++ unquoted true l.rest ≡ unquoted true l.raw;
  utf8 : shadow (Utf8 l.rest);
}

abbrev pub decreases-quotes : goal.decreases-quotes
decreases-quotes l = length l.rest
