use Rattle.ds2_gen.proofs.CountRuns.{ways_fix_counts}
use Rattle.ds2_gen.proofs.laws.ways_fix_counts.Goals as goal

pub returns : goal.returns
returns c = ways_fix_counts c.units_count_alike.ensures
