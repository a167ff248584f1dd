use Rattle.ds2_exec.proofs.IndependentThreads.{code_gives_stages}
use Rattle.ds2_exec.proofs.local_laws.independent_code_gives_stages.Goals as goal

pub returns : goal.returns
returns c = code_gives_stages c.independent_code_gives_thread.ensures
