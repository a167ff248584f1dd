use Rattle.std.proofs.Common.{◌≡◌, ◌++◌, length, map}
use Rattle.ds2_reading.specs.KeyHeads.{row_of}
use Rattle.ds2_reading.proofs.sorted_rows.row_numbers.Given as goal

abbrev pub invariant-numbers : goal.invariant-numbers
invariant-numbers l = l.rows ++ map row_of l.rest ≡ map row_of l.fn.numbers

abbrev pub decreases-numbers : goal.decreases-numbers
decreases-numbers l = length l.rest
