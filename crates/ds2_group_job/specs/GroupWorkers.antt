-- The workers of a thread program's groups.
use Rattle.std.specs.Prelude.{◌≡◌, ℕ, false, List}
use Rattle.ds2_machine.specs.AtRest.{staged_program}
use Rattle.ds2_code.specs.Scales.{IsDataScaled}
use Rattle.ds2_loads.specs.ProgramSources.{program_groups}
use Rattle.ds2_group_job.specs.StageJobs.{StageJob}
use Rattle.ds2_group_job.specs.WhateverRan.{IsBehindGroups}
use Rattle.ds2_group_job.specs.declared.group_worker.GroupWorker.{GroupWorker}

-- a worker stands behind some groups of a job, with a machine for its program and the job's loads in their groups
pub record IsWorkerOf (job : StageJob) (worker : GroupWorker) : Type 0 where
  pub program : worker.machine.program ≡ job.number
  pub ready : worker.machine.spent ≡ false
  pub scaled : IsDataScaled (staged_program job.code worker.machine.program) worker.machine.state
  pub loads : program_groups worker.loads ≡ job.groups
  pub ran : List ℕ
  pub behind : IsBehindGroups (staged_program job.code job.number) job.budget job.groups ran job.first worker.machine.state
