use Rattle.std.proofs.Common.{◌≡◌, ◌∙◌}
use Rattle.std.proofs.lemmas.Result.{IfOk-weaker}
use Rattle.std.specs.List.{filter, range_with_len}
use Rattle.ds2_recorded_walk.specs.LocationBits.{is_on}
use Rattle.ds2_local.specs.MarkedLocations.{numbers_mentioned}
use Rattle.ds2_local.proofs.MarkLemmas.{mentioned_picked}
use Rattle.ds2_local.proofs.marks.numbers_mentioned.Goals as goal

pub returns : goal.returns
returns c =
    IfOk-weaker c.numbers_on.result (λ numbers. numbers ≡ filter (is_on c.as_slice.result.now) (range_with_len 0 c.args.count)) (λ numbers. numbers ≡ numbers_mentioned c.args.count c.args.deeds.now)
    (λ numbers e. e ∙ mentioned_picked c.args.count c.args.deeds.now c.as_slice.result.now (c.as_slice.ensures ∙ c.in_ok-bits.ensures)) c.numbers_on.ensures
