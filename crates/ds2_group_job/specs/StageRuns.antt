-- A thread program that can be run, on one thread or with its groups on workers.
use Rattle.std.specs.Borrow.{Bor}
use Rattle.std.specs.Prelude.{ℕ, ◌≤◌, Option, IfSome, IfOk, Result}
use Rattle.ds2_value.specs.Row.{Row}
use Rattle.ds2_table.specs.OneThread.{Answer}
use Rattle.ds2_unit.specs.Threads.{IsReadyThread, IsThreadEnd, thread_answer}
use Rattle.ds2_unit.specs.declared.thread.ThreadEnd.{ThreadEnd}
use Rattle.ds2_unit.specs.declared.thread_run.ThreadRun.{ThreadRun}
use Rattle.ds2_group_job.specs.WhateverRan.{IsIndependentThread}

-- a thread program over the tables that it reads, and on how many workers its groups may run, where they may
pub record RunnableStage : Type 0 where
  pub thread : ThreadRun
  pub workers : Option ℕ

-- it can be run; where its groups may run on workers, these are 1 to 64, and each group gives the same whatever groups ran before it
pub record IsStageReady (s : RunnableStage) : Type 0 where
  pub thread : IsReadyThread s.thread
  pub workers : IfSome s.workers (λ n. (1 ≤ n) × (n ≤ 64))
  pub independent : IfSome s.workers (λ _. IsIndependentThread s.thread.stage.now s.thread.tables.now s.thread.budget s.thread.grain)

-- its answer to these values of its parameters
abbrev pub answer_of_thread : RunnableStage → Row → Answer
answer_of_thread s given = thread_answer s.thread.stage.now s.thread.tables.now s.thread.budget s.thread.grain given

-- what runs thread programs leaves what their answers say, however it does
abbrev pub RunsStages : {A E : Type 0} → (A → Bor RunnableStage → Bor Row → Result ThreadEnd E → Type 0) → Type 0
RunsStages {A} {E} post = (a : A) (s : Bor RunnableStage) (given : Bor Row) (r : Result ThreadEnd E) → post a s given r → IfOk r (λ end. IsThreadEnd (answer_of_thread s.now given.now) end)
