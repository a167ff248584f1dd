use Rattle.std.proofs.Common.{refl}
use Rattle.ds2_recorded_walk.specs.LocationBits.{is_on}
use Rattle.ds2_local.proofs.RangeLemmas.{number_next}
use Rattle.ds2_local.proofs.marks.numbers_on.Goals as goal

pub locations-preserved : goal.locations-preserved
locations-preserved c =
    number_next (is_on c.args.bits.now) c.locations.numbers _ c.locations.number (is_on c.args.bits.now c.locations.number) refl c.in_ok-add_if_on.ensures c.locations.invariant
