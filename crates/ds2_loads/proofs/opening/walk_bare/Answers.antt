use Rattle.std.proofs.Common.{false}
use Rattle.ds2_loads.specs.LoadCursors.{bare_loads_of}
use Rattle.ds2_loads.proofs.OpenWalks.{walk_of_cursor}
use Rattle.ds2_loads.proofs.opening.walk_bare.Goals as goal

pub returns : goal.returns
returns c = walk_of_cursor c.args.reading.now false c.args.tables.now 0 (bare_loads_of c.args.is_there) c.in_ok-cursor.cursor c.in_ok-cursor.ensures
