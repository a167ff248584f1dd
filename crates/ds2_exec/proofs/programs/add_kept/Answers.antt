use Rattle.ds2_exec.proofs.ProgramSteps.{adds_none}
use Rattle.ds2_exec.proofs.programs.add_kept.Goals as goal

pub returns-in-None : goal.returns-in-None
returns-in-None c = adds_none c.args.sink c.args.tables.now c.in-None.is
