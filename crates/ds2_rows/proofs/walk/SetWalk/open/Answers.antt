use Rattle.std.proofs.Common.{refl, arith}
use Rattle.ds2_rows.proofs.Opening.{ready_at_start, opened_is}
use Rattle.ds2_rows.proofs.walk.SetWalk.open.Goals as goal

pub invariant_of-result : goal.invariant_of-result
invariant_of-result c =
    ready_at_start c.args.tables.now c.args.reading.now c.in_ok-rows.rows c.requires.fits c.in_ok-rows.ensures c.have_keys.ensures
    (omega (arith, c.len-rows.ensures.value, c.len-rows.ensures.bound))

pub returns : goal.returns
returns c = opened_is c.args.tables.now c.args.reading.now 0 c.in_ok-rows.rows _ c.in_ok-rows.ensures refl
