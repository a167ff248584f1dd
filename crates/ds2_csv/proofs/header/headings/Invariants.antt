use Rattle.std.proofs.Common.{◌≡◌, drop, length, map}
use Rattle.ds2_csv_records.specs.Cells.{spelled}
use Rattle.ds2_csv.specs.Header.{headings_after, headings_of}
use Rattle.ds2_csv.proofs.header.headings.Given as goal

abbrev pub invariant-cells : goal.invariant-cells
invariant-cells l = record {
  headings : headings_after l.headings (drop l.i (map spelled l.header)) ≡ headings_of (map spelled l.header);
  count : length l.headings ≡ l.i;
}
