use Rattle.std.proofs.Common.{take}
use Rattle.ds2_deeds.specs.NumberedCalls.{AreMarked}
use Rattle.ds2_deeds.proofs.marked_numbers.marks_of.Given as goal

abbrev pub invariant-numbers : goal.invariant-numbers
invariant-numbers l = AreMarked (take l.number-index l.numbers) l.marks
