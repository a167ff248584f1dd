use Rattle.ds2_rows.specs.SetPlaces.{HasStarts}
use Rattle.ds2_rows.proofs.groups.group_starts.Given as goal

abbrev pub invariant-places : goal.invariant-places
invariant-places l = HasStarts l.rows l.grain l.place l.starts
