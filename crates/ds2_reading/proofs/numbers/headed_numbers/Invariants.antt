use Rattle.std.proofs.Common.{◌≡◌, map}
use Rattle.std.specs.List.{range_with_len, All}
use Rattle.ds2_reading.specs.KeyHeads.{row_of}
use Rattle.ds2_reading.specs.Numbers.{IsHeadedNumber}
use Rattle.ds2_reading.proofs.numbers.headed_numbers.Given as goal

abbrev pub invariant-rows : goal.invariant-rows
invariant-rows l = All (IsHeadedNumber l.inputs) l.numbers.items × (map row_of l.numbers.items ≡ range_with_len 0 l.row)
