use Rattle.ds2_group_job.specs.GroupRuns.{given_together}
use Rattle.ds2_group_job.specs.StageJobs.{HasKeptGroups}
use Rattle.ds2_group_job.proofs.gathering.keep_all.Given as goal

abbrev pub invariant-given : goal.invariant-given
invariant-given l = HasKeptGroups l.initial.written l.written (given_together l.yielded) l.all
