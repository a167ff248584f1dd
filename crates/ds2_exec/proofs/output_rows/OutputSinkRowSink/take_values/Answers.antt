use Rattle.ds2_code.specs.CodeRun.{column_slots}
use Rattle.ds2_code.specs.Desk.{values_of_slots}
use Rattle.ds2_exec.proofs.SinkSteps.{row_sunk}
use Rattle.ds2_exec.proofs.output_rows.OutputSinkRowSink.take_values.Goals as goal

pub returns : goal.returns
returns c =
    row_sunk c.args.self.now (record { written = c.take_values.new.self; kept = c.keep_values.new.kept }) (values_of_slots (column_slots c.args.output.now) c.args.slots.now) c.in_ok-take_values.ensures c.in_ok-keep_values.ensures
