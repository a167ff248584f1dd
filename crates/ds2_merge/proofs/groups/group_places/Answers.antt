use Rattle.std.proofs.Common.{arith}
use Rattle.ds2_merge.proofs.KeyGroups.{begin_places, all_places}
use Rattle.ds2_merge.proofs.KeyStates.{count_fits}
use Rattle.ds2_merge.proofs.groups.group_places.Goals as goal

pub keys-init : goal.keys-init
keys-init c = rw (c.start-place.ensures, c.new-places.ensures) (begin_places c.args.rows.now c.args.grain c.requires.tables)

pub behind-place-requires : goal.behind-place-requires
behind-place-requires c = count_fits c.args.rows.now c.requires.tables c.keys.place c.in-Some.key c.in-Some.ensures.0

pub keys-preserved : goal.keys-preserved
keys-preserved c = rw c.behind-place.ensures c.in_ok-places.ensures

pub keys-smaller : goal.keys-smaller
keys-smaller c = let e = c.in-Some.ensures.0 in rw c.behind-place.ensures (omega (arith, e.end.low, e.end.high))

pub returns : goal.returns
returns c = rw c.in_ok-push.ensures.ok (all_places c.args.rows.now c.args.grain c.requires.tables c.keys.place c.keys.places c.keys.invariant c.in_default.ensures)
