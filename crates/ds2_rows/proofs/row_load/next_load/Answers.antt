use Rattle.std.proofs.Common.{length, ap, ◌∙◌}
use Rattle.std.specs.Option.{option_map}
use Rattle.ds2_reading.specs.KeyOrder.{row_in}
use Rattle.ds2_reading.specs.LoadMeaning.{load_meaning}
use Rattle.ds2_rows.proofs.NextLoad.{no_load, none_given, ready_behind, one_given}
use Rattle.ds2_rows.proofs.row_load.next_load.Goals as goal

pub returns-clause-load : goal.returns-clause-load
returns-clause-load c = c.load_of_row.ensures

pub returns-clause-given : goal.returns-clause-given
returns-clause-given c = one_given c.args.rows.now c.args.place.now c.requires (row_in c.args.rows.now.tables c.in_ok-row.row) c.in_ok-row.ensures.row

pub returns-clause-place : goal.returns-clause-place
returns-clause-place c = ready_behind c.args.rows.now c.args.place.now c.requires (row_in c.args.rows.now.tables c.in_ok-row.row) c.in_ok-row.ensures.row

pub returns-in_err-row-clause-load : goal.returns-in_err-row-clause-load
returns-in_err-row-clause-load c =
    ap (option_map (load_meaning (length c.args.rows.now.tables) (length c.args.rows.now.descending))) c.from_residual.ensures
    ∙ no_load c.args.rows.now c.args.place.now c.requires c.in_err-row.ensures.row

pub returns-in_err-row-clause-given : goal.returns-in_err-row-clause-given
returns-in_err-row-clause-given c = none_given c.args.rows.now c.args.place.now c.requires c.in_err-row.ensures.row
