use Rattle.ds2_object.proofs.ObjectSteps.{programs_begun}
use Rattle.ds2_object.proofs.encoding.write_programs.Goals as goal

pub programs-init : goal.programs-init
programs-init c = programs_begun c.args.out.now c.args.programs.now c.requires
