use Rattle.std.proofs.Common.{◌≡◌, length, []}
use Rattle.ds2_csv.specs.Known.{AreInferred}
use Rattle.ds2_csv.proofs.column.nothing_known.Given as goal

abbrev pub invariant-columns : goal.invariant-columns
invariant-columns l = record {
  count : length l.known ≡ l.i;
  known : AreInferred l.known [];
}
