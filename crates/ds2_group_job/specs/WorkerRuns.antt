-- A thread program whose groups run on workers.
use Rattle.std.specs.Prelude.{◌≤◌}
use Rattle.ds2_unit.specs.Threads.{IsReadyThread}
use Rattle.ds2_group_job.specs.declared.worker_run.WorkerRun.{WorkerRun}

-- a thread program can be run, its groups on 1 to 64 workers
pub record IsReadyOnWorkers (run : WorkerRun) : Type 0 where
  pub thread : IsReadyThread run.thread
  pub workers : (1 ≤ run.workers) × (run.workers ≤ 64)
