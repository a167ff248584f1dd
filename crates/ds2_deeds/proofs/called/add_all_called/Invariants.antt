use Rattle.std.proofs.Common.{◌≡◌, drop}
use Rattle.ds2_deeds.specs.NumberedCalls.{with_numbers, numbers_called}
use Rattle.ds2_deeds.proofs.called.add_all_called.Given as goal

abbrev pub invariant-deeds : goal.invariant-deeds
invariant-deeds l = with_numbers l.numbers (numbers_called (drop l.deed-index l.deeds)) ≡ with_numbers l.fn.numbers (numbers_called l.deeds)
