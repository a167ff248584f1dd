use Rattle.std.proofs.Common.{false, refl}
use Rattle.ds2_reading.specs.declared.load.Load.{Load}
use Rattle.ds2_loads.proofs.RowLists.{load_is}
use Rattle.ds2_loads.proofs.rows_in_turn.set_row_load.Goals as goal

pub returns : goal.returns
returns c = λ count few.
    let l : Load = record { rows = c.row_alone-load.result; is_fresh = false; first = 0; last = 0; present = c.one-load.result } in
    load_is c.args.place l count few c.requires.row c.row_alone-load.ensures refl (c.one-load.ensures count)
