use Rattle.ds2_recorded_walk.proofs.SetLemmas.{all_in}
use Rattle.ds2_recorded_walk.proofs.location_set.LocationSet.all.Goals as goal

pub returns : goal.returns
returns c = all_in c.args.count c.new.result c.new.ensures
