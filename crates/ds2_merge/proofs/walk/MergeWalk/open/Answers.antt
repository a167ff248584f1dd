use Rattle.std.proofs.Common.{ap, ◌∙◌, arith}
use Rattle.ds2_merge.specs.KeyPlaces.{between_keys, loads_given}
use Rattle.ds2_merge.proofs.Opening.{can_read, ready_at_start, opened_is}
use Rattle.ds2_merge.proofs.walk.MergeWalk.open.Goals as goal

pub invariant_of-result : goal.invariant_of-result
invariant_of-result c =
    rw (c.between-place.ensures, c.start.ensures)
    (ready_at_start c.in_ok-rows.rows
    (can_read c.args.tables.now c.args.reading.now c.in_ok-rows.rows c.requires.fits c.in_ok-rows.ensures c.have_keys.ensures (omega (arith, c.len-rows.ensures.value, c.len-rows.ensures.bound))))

pub returns : goal.returns
returns c =
    opened_is c.args.tables.now c.args.reading.now 0 c.in_ok-rows.rows _ c.in_ok-rows.ensures
    (ap loads_given (c.between-place.ensures ∙ ap between_keys c.start.ensures))
