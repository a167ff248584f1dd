use Rattle.std.proofs.Common.{◌-◌, length}
use Rattle.ds2_merge.specs.KeyPlaces.{ordered_rows, HasKeyPlaces}
use Rattle.ds2_merge.proofs.groups.group_places.Given as goal

abbrev pub invariant-keys : goal.invariant-keys
invariant-keys l = HasKeyPlaces l.rows l.grain l.place l.places

abbrev pub decreases-keys : goal.decreases-keys
decreases-keys l = length (ordered_rows l.rows) - l.place.start
