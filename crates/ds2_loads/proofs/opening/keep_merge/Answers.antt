use Rattle.std.proofs.Common.{length, refl}
use Rattle.ds2_table.specs.Loads.{merge_loads}
use Rattle.ds2_reading.specs.ReadingKeys.{directions_of, keys_of_reading}
use Rattle.ds2_loads.specs.declared.kept_loads.KeptLoads.{KeptLoads}
use Rattle.ds2_loads.proofs.OpenCursors.{kept_opened, walked_all}
use Rattle.ds2_loads.proofs.opening.keep_merge.Goals as goal

pub returns : goal.returns
returns c =
    let reading = c.args.reading.now in
    let all = merge_loads (directions_of reading.bys) (keys_of_reading c.args.tables.now reading) in
    let kept : KeptLoads = record { loads = c.in_ok-loads.loads; given = 0 } in
    kept_opened reading all kept (walked_all (length reading.tables) (length reading.bys) all c.in_ok-walk.walk c.in_ok-loads.loads c.in_ok-walk.ensures c.in_ok-loads.ensures) refl
