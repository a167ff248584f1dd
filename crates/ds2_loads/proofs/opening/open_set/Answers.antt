use Rattle.ds2_table.specs.Loads.{set_loads}
use Rattle.ds2_reading.specs.ReadingKeys.{directions_of, keys_of_reading}
use Rattle.ds2_loads.proofs.OpenCursors.{have_table_keys, set_opened}
use Rattle.ds2_loads.proofs.opening.open_set.Goals as goal

pub returns : goal.returns
returns c =
    let reading = c.args.reading.now in
    let tables = c.args.tables.now in
    let keys = keys_of_reading tables reading in
    let ordered = c.loads_stand_in_by_order.ensures (directions_of reading.bys) keys (have_table_keys tables reading.bys reading.tables) in
    set_opened reading c.args.grain (set_loads (directions_of reading.bys) keys) c.in_ok-cursor.cursor c.in_ok-cursor.ensures
    (c.groups_divide_loads.ensures (directions_of reading.bys) c.args.grain (set_loads (directions_of reading.bys) keys) ordered.0)
