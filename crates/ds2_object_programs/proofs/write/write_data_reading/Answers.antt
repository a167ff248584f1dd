use Rattle.std.proofs.Common.{arith}
use Rattle.ds2_object_programs.proofs.WriteSteps.{no_stage_there, alone_written}
use Rattle.ds2_object_programs.proofs.write.write_data_reading.Goals as goal

pub returns-in_ok-write_reading-in-empty : goal.returns-in_ok-write_reading-in-empty
returns-in_ok-write_reading-in-empty c =
    alone_written c.args.out.now c.write_reading.new.out c.args.reading.now c.args.stages.now (no_stage_there c.args.stages.now (omega (arith, c.in-empty.len_below))) c.requires
    c.in_ok-write_reading-in-empty.ensures
