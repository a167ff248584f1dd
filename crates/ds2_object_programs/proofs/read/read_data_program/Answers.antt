use Rattle.ds2_object_programs.proofs.ReadSteps.{stops_at, data_stops_reading, data_stops_units, data_stops_instrs, data_is_read}
use Rattle.ds2_object_programs.proofs.read.read_data_program.Goals as goal

pub returns-in_err-reading : goal.returns-in_err-reading
returns-in_err-reading c =
    stops_at c.from_residual-in_err-reading.result c.in_err-reading.field-0.0 _ _ c.from_residual-in_err-reading.ensures.1
    (data_stops_reading c.args.bytes.now c.read_no_name.new.bytes c.read_globals.new.bytes c.read.new.bytes _ _ _ c.in_err-reading.field-0.0
    c.in_ok-name.ensures c.in_ok-globals.ensures c.in_ok-methods.ensures c.in_err-reading.ensures)

pub returns-in_err-units : goal.returns-in_err-units
returns-in_err-units c =
    stops_at c.from_residual-in_err-units.result c.in_err-units.field-0.0 _ _ c.from_residual-in_err-units.ensures.1
    (data_stops_units c.args.bytes.now c.read_no_name.new.bytes c.read_globals.new.bytes c.read.new.bytes c.read_data_reading.new.bytes _ _ _ _ c.in_err-units.field-0.0
    c.in_ok-name.ensures c.in_ok-globals.ensures c.in_ok-methods.ensures c.in_ok-reading.ensures c.in_err-units.ensures)

pub returns-in_err-instrs : goal.returns-in_err-instrs
returns-in_err-instrs c =
    stops_at c.from_residual-in_err-instrs.result c.in_err-instrs.field-0.0 _ _ c.from_residual-in_err-instrs.ensures.1
    (data_stops_instrs c.args.bytes.now c.read_no_name.new.bytes c.read_globals.new.bytes c.read.new.bytes c.read_data_reading.new.bytes c.read_units.new.bytes _ _ _ _ _ c.in_err-instrs.field-0.0
    c.in_ok-name.ensures c.in_ok-globals.ensures c.in_ok-methods.ensures c.in_ok-reading.ensures c.in_ok-units.ensures c.in_err-instrs.ensures)

pub returns : goal.returns
returns c =
    rw c.staged_where.ensures
    (data_is_read c.args.bytes.now c.read_no_name.new.bytes c.read_globals.new.bytes c.read.new.bytes c.read_data_reading.new.bytes c.read_units.new.bytes c.read_instrs.new.bytes _ _ _ _ _ _
    c.in_ok-name.ensures c.in_ok-globals.ensures c.in_ok-methods.ensures c.in_ok-reading.ensures c.in_ok-units.ensures c.in_ok-instrs.ensures)
