use Rattle.ds2_loads.proofs.OpenWalks.{rows_opened}
use Rattle.ds2_loads.proofs.opening.walk_rows.Goals as goal

pub returns : goal.returns
returns c = rows_opened c.args.reading.now c.args.tables.now c.requires.fits c.requires.none
