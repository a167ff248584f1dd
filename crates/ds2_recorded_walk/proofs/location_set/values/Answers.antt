use Rattle.ds2_recorded_walk.proofs.SetLemmas.{but_next}
use Rattle.ds2_recorded_walk.proofs.location_set.values.Goals as goal

pub locations-preserved : goal.locations-preserved
locations-preserved c = but_next c.locations.number c.args.out.now c.locations.bits _ c.contains.result c.locations.invariant c.contains.ensures c.in_ok-push.ensures.ok
