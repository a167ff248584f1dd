use Rattle.ds2_table.specs.Loads.{merge_loads}
use Rattle.ds2_reading.specs.ReadingKeys.{directions_of, keys_of_reading}
use Rattle.ds2_loads.proofs.OpenWalks.{merge_walk_opened}
use Rattle.ds2_loads.proofs.opening.walk_merge.Goals as goal

pub returns : goal.returns
returns c =
    let reading = c.args.reading.now in
    merge_walk_opened reading c.args.retains c.args.tables.now (merge_loads (directions_of reading.bys) (keys_of_reading c.args.tables.now reading)) c.in_ok-walk.walk c.in_ok-walk.ensures
