use Rattle.ds2_table.specs.Loads.{merge_loads}
use Rattle.ds2_reading.specs.ReadingKeys.{directions_of, keys_of_reading}
use Rattle.ds2_loads.proofs.OpenCursors.{have_table_keys, merge_opened}
use Rattle.ds2_loads.proofs.opening.open_merge.Goals as goal

pub returns : goal.returns
returns c =
    let reading = c.args.reading.now in
    let tables = c.args.tables.now in
    let keys = keys_of_reading tables reading in
    let ordered = c.loads_stand_in_by_order.ensures (directions_of reading.bys) keys (have_table_keys tables reading.bys reading.tables) in
    merge_opened reading c.args.grain (merge_loads (directions_of reading.bys) keys) c.in_ok-cursor.cursor c.in_ok-cursor.ensures
    (c.groups_divide_loads.ensures (directions_of reading.bys) c.args.grain (merge_loads (directions_of reading.bys) keys) ordered.1)
