use Rattle.ds2_code.specs.CodeRun.{column_slots}
use Rattle.ds2_code.specs.Desk.{values_of_slots}
use Rattle.ds2_exec.proofs.SinkSteps.{none_taken, ok_taken}
use Rattle.ds2_exec.proofs.output_rows.keep_values.Goals as goal

pub returns-in-None : goal.returns-in-None
returns-in-None c = none_taken c.args.kept.now (values_of_slots (column_slots c.args.output.now) c.args.slots.now) c.in-None.is

pub returns-in-Some : goal.returns-in-Some
returns-in-Some c =
    ok_taken c.args.kept.now c.in-Some.table c.take_values.new.self (values_of_slots (column_slots c.args.output.now) c.args.slots.now) c.take_values.result c.in-Some.is c.take_values.ensures
