use Rattle.std.proofs.Common.{◌≡◌, ◌≤◌, ◌-◌, length}
use Rattle.ds2_deeds.specs.NumberedCalls.{numbers_reached, may_call}
use Rattle.ds2_deeds.proofs.RoundLemmas.{past_round, past_fresh}
use Rattle.ds2_deeds.proofs.called.may_call.Given as goal

abbrev pub invariant-rounds : goal.invariant-rounds
invariant-rounds l =
    (numbers_reached l.all (l.rounds - l.counter) l.numbers ≡ may_call l.all l.rounds l.deeds)
    × (past_fresh l.all l.walked l.numbers ≡ past_round l.all l.numbers)
    × (l.walked ≤ length l.numbers)
