use Rattle.ds2_object_programs.proofs.WriteSteps.{name_written}
use Rattle.ds2_object_programs.proofs.write.write_thread_name.Goals as goal

pub returns : goal.returns
returns c = name_written c.args.name.now c.requires c.in_ok-write.ensures
