use Rattle.std.proofs.Common.{◌≡◌, ◌≤◌, length}
use Rattle.std.specs.Prelude.{min}
use Rattle.std.specs.Str.{all_ascii_digits}
use Rattle.ds2_csv_cells.specs.Number.{number_from}
use Rattle.ds2_csv_cells.specs.declared.spelling.TheConstants.{TOO_MANY}
use Rattle.ds2_csv_cells.proofs.spelling.number.Given as goal

abbrev pub invariant-digits : goal.invariant-digits
invariant-digits l = record {
  bound : l.n ≤ TOO_MANY;
  number : min (number_from l.n l.rest) TOO_MANY ≡ min (number_from 0 l.digits) TOO_MANY;
  digits : all_ascii_digits l.rest ≡ all_ascii_digits l.digits;
}

abbrev pub decreases-digits : goal.decreases-digits
decreases-digits l = length l.rest
