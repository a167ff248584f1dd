use Rattle.ds2_object_programs.proofs.WriteSteps.{no_name_written}
use Rattle.ds2_object_programs.proofs.write.write_no_name.Goals as goal

pub returns : goal.returns
returns c = no_name_written c.args.name.now c.requires (rw c.is_some.ensures at c.in_ok-write.ensures)
