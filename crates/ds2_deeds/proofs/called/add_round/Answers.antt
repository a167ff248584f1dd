use Rattle.std.proofs.Common.{List, ap, ◌∙◌}
use Rattle.ds2_deeds.specs.declared.deed.NumberedDeed.{NumberedDeed}
use Rattle.ds2_deeds.specs.NumberedCalls.{numbers_called, with_numbers, calls_by_number}
use Rattle.ds2_deeds.proofs.RoundLemmas.{numbers_added}
use Rattle.ds2_deeds.proofs.called.add_round.Goals as goal

pub fresh-preserved : goal.fresh-preserved
fresh-preserved c =
    let is = c.in_ok-add_all_called.ensures ∙ ap (λ (deeds : List NumberedDeed). with_numbers c.fresh.numbers (numbers_called deeds)) c.deeds_numbered.ensures in
    numbers_added (calls_by_number c.args.all.now) _ c.fresh.number-index c.fresh.numbers _ _ c.fresh-test.true is c.fresh.invariant
