use Rattle.std.proofs.Common.{◌≡◌, length}
use Rattle.std.specs.Str.{all_ascii_digits}
use Rattle.ds2_csv_cells.specs.Number.{number_from}
use Rattle.ds2_csv_cells.proofs.number.size.Given as goal

abbrev pub invariant-loop-rest : goal.invariant-loop-rest
invariant-loop-rest l = record {
  number : number_from l.n l.rest ≡ number_from 0 l.digits;
  digits : all_ascii_digits l.rest ≡ all_ascii_digits l.digits;
}

abbrev pub decreases-loop-rest : goal.decreases-loop-rest
decreases-loop-rest l = length l.rest
