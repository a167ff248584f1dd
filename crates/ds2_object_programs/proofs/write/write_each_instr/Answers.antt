use Rattle.ds2_object_programs.proofs.WriteSteps.{instrs_begun}
use Rattle.ds2_object_programs.proofs.write.write_each_instr.Goals as goal

pub instrs-init : goal.instrs-init
instrs-init c = instrs_begun c.args.out.now c.args.instrs.now c.requires
