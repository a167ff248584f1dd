use Rattle.std.proofs.Common.{sym, ap}
use Rattle.std.specs.Prelude.{slice_index_or}
use Rattle.ds2_scope.specs.Earliest.{earliest}
use Rattle.ds2_given_names.proofs.LimitLemmas.{none_beyond, beyond_is, not_earlier_by_cmp}
use Rattle.ds2_given_names.proofs.limits.earliest_beyond.Goals as goal

pub returns-then-places-limit : goal.returns-then-places-limit
returns-then-places-limit c = sym (ap earliest (none_beyond c.args.limit c.args.places.now c.if-places-limit.true))

pub returns : goal.returns
returns c =
    let chosen = c.select_nth_unstable-place in
    let front = chosen.result.0.now in
    let x = chosen.result.1.now in
    let back = chosen.result.2.now in
    sym (beyond_is c.args.limit c.args.places.now front back x chosen.ensures.permutation chosen.ensures.front_len
    (λ k d lt. not_earlier_by_cmp x (slice_index_or front k d) (chosen.ensures.partitioned.0 k d lt))
    (λ k d lt. not_earlier_by_cmp (slice_index_or back k d) x (chosen.ensures.partitioned.1 k d lt)))
