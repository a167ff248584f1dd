use Rattle.std.proofs.Common.{[], subst, IfOk}
use Rattle.ds2_table.specs.OneThread.{alone_answer}
use Rattle.ds2_code.specs.Desk.{ProgramData}
use Rattle.ds2_code_answer.specs.CodeAnswer.{code_program}
use Rattle.ds2_unit.specs.Threads.{IsThreadEnd}
use Rattle.ds2_group_job.specs.StageRuns.{RunnableStage, answer_of_thread}
use Rattle.ds2_group_job.proofs.stage_run.StageRun.run.Goals as goal

pub open_thread-requires : goal.open_thread-requires
open_thread-requires c = record { thread = c.self.invariant.thread }

pub run_thread-requires-clause-thread : goal.run_thread-requires-clause-thread
run_thread-requires-clause-thread c = c.self.invariant.thread

pub returns : goal.returns
returns c =
    let run = c.self.inside.thread in
    let P : ProgramData → Type 0 = λ d. IfOk c.run_thread.result (λ end. IsThreadEnd (alone_answer (code_program run.stage.now [] run.tables.now run.budget run.grain) d) end) in
    let Q : RunnableStage → Type 0 = λ s. IfOk c.run_thread.result (λ end. IsThreadEnd (answer_of_thread s c.args.given.now) end) in
    subst Q c.self.view_is (subst P c.in_ok-machine.ensures.begun c.run_thread.ensures)
