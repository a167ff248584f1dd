use Rattle.std.proofs.Common.{◌≡◌, drop}
use Rattle.std.specs.Prelude.{flat_map}
use Rattle.ds2_deeds.specs.NumberedCalls.{with_numbers, calls_by_number}
use Rattle.ds2_deeds.proofs.called.add_round.Given as goal

abbrev pub invariant-fresh : goal.invariant-fresh
invariant-fresh l = with_numbers l.numbers (flat_map (calls_by_number l.all) (drop l.number-index l.number-items)) ≡ with_numbers l.fn.numbers (flat_map (calls_by_number l.all) (drop l.walked l.fn.numbers))
