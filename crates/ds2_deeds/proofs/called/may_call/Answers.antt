use Rattle.std.proofs.Common.{◌-◌, sym, ◌∙◌}
use Rattle.ds2_deeds.proofs.RoundLemmas.{round_made, none_reached, walked_on, no_fewer_reached}
use Rattle.ds2_deeds.proofs.called.may_call.Goals as goal

pub returns-then-len-count : goal.returns-then-len-count
returns-then-len-count c =
    c.into_list.ensures
    ∙ none_reached c.args.all.now (c.args.rounds - c.rounds.counter) c.rounds.numbers _ _ (c.in_ok-add_round.ensures ∙ c.rounds.invariant.1)
    (sym c.len.ensures ∙ c.if-len-count.true ∙ c.len-count.ensures) c.rounds.invariant.0

pub rounds-preserved : goal.rounds-preserved
rounds-preserved c =
    let is = c.in_ok-add_round.ensures ∙ c.rounds.invariant.1 in (
      round_made c.args.all.now c.args.rounds c.rounds.counter c.rounds.numbers _ _ c.rounds-test.true is c.rounds.invariant.0,
      walked_on c.args.all.now c.rounds.numbers _ c.len-count.result is c.len-count.ensures,
      no_fewer_reached c.args.all.now c.rounds.numbers _ c.len-count.result is c.len-count.ensures,
    )
