use Rattle.std.proofs.Common.{false}
use Rattle.ds2_table.specs.Loads.{set_loads}
use Rattle.ds2_reading.specs.ReadingKeys.{directions_of, keys_of_reading}
use Rattle.ds2_loads.proofs.OpenWalks.{set_walk_opened}
use Rattle.ds2_loads.proofs.opening.walk_set.Goals as goal

pub returns : goal.returns
returns c =
    let reading = c.args.reading.now in
    set_walk_opened reading false c.args.tables.now (set_loads (directions_of reading.bys) (keys_of_reading c.args.tables.now reading)) c.in_ok-walk.walk c.in_ok-walk.ensures
