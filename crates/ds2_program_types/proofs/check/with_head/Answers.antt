use Rattle.ds2_program_types.proofs.TreeForms.{thread_opened}
use Rattle.ds2_program_types.proofs.check.with_head.Goals as goal

pub returns-clause-tree : goal.returns-clause-tree
returns-clause-tree c = thread_opened c.args.head.name c.args.head.parameters c.args.program c.args.stage
