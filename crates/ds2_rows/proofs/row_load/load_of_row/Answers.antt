use Rattle.std.proofs.Common.{◌+◌, length, arith}
use Rattle.ds2_reading.proofs.PlaceFlags.{before_within}
use Rattle.ds2_rows.proofs.LoadMeans.{load_means}
use Rattle.ds2_rows.proofs.NextLoad.{number_fits}
use Rattle.ds2_rows.proofs.row_load.load_of_row.Goals as goal

pub all_but-requires-clause-few : goal.all_but-requires-clause-few
all_but-requires-clause-few c = omega (arith, c.common_at-first.ensures, c.bys-bys.ensures, before_within c.args.rows.now c.args.place)

pub all_but-requires-2-clause-few : goal.all_but-requires-2-clause-few
all_but-requires-2-clause-few c = omega (arith, c.common_at-last.ensures, c.bys-bys.ensures, before_within c.args.rows.now (c.args.place + 1))

pub returns : goal.returns
returns c =
    let input = c.args.rows.now in
    load_means input c.args.place c.requires.ready c.args.row _ _ _ _ c.requires.row (number_fits input c.args.place c.requires.ready c.args.row c.requires.there)
    c.bys-bys.ensures c.common_at-first.ensures c.common_at-last.ensures c.one_row.ensures c.opens_key.ensures c.all_but.ensures c.all_but-2.ensures (c.one.ensures (length input.tables))
