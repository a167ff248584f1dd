use Rattle.std.proofs.Common.{◌≡◌, drop}
use Rattle.ds2_deeds.specs.NumberedCalls.{is_one_of_numbers}
use Rattle.ds2_deeds.proofs.marked_numbers.is_among.Given as goal

abbrev pub invariant-numbers : goal.invariant-numbers
invariant-numbers l = is_one_of_numbers (drop l.other-index l.numbers) l.number ≡ is_one_of_numbers l.numbers l.number
