use Rattle.std.proofs.Common.{ℕ, ◌≤◌, Option, IfSome, IfOk, subst}
use Rattle.ds2_unit.specs.Threads.{IsThreadEnd}
use Rattle.ds2_group_job.specs.StageRuns.{RunnableStage, answer_of_thread}
use Rattle.ds2_group_job.specs.WhateverRan.{IsIndependentThread}
use Rattle.ds2_group_job.proofs.stage_run.StageRun.run_on.Goals as goal

pub run_thread_on-requires-clause-thread : goal.run_thread_on-requires-clause-thread
run_thread_on-requires-clause-thread g c = λ κs lives. c.self.invariant.thread

pub run_thread_on-requires-clause-workers : goal.run_thread_on-requires-clause-workers
run_thread_on-requires-clause-workers g c = λ κs lives.
    let P : Option ℕ → Type 0 = λ workers. IfSome workers (λ n. (1 ≤ n) × (n ≤ 64)) in
    subst P c.in-Some.is c.self.invariant.workers

pub run_thread_on-requires-clause-independent : goal.run_thread_on-requires-clause-independent
run_thread_on-requires-clause-independent g c = λ κs lives.
    let s = c.self.inside.thread in
    let P : Option ℕ → Type 0 = λ workers. IfSome workers (λ _. IsIndependentThread s.stage.now s.tables.now s.budget s.grain) in
    subst P c.in-Some.is c.self.invariant.independent

pub returns-in-Some : goal.returns-in-Some
returns-in-Some g c =
    let P : RunnableStage → Type 0 = λ s. IfOk c.run_thread_on.result (λ end. IsThreadEnd (answer_of_thread s c.args.given.now) end) in
    subst P c.self.view_is c.run_thread_on.ensures
