use Rattle.ds2_exec.proofs.IndependentThreads.{code_gives_thread}
use Rattle.ds2_exec.proofs.local_laws.independent_code_gives_thread.Goals as goal

pub returns : goal.returns
returns c = code_gives_thread
