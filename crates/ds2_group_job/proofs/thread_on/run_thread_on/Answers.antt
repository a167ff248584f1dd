use Rattle.std.proofs.Common.{[], sym, subst, IfOk}
use Rattle.ds2_table.specs.OneThread.{alone_answer}
use Rattle.ds2_code.specs.Desk.{ProgramData}
use Rattle.ds2_code_answer.specs.CodeAnswer.{code_program}
use Rattle.ds2_unit.specs.Threads.{IsThreadEnd}
use Rattle.ds2_group_job.specs.WhateverRan.{IsIndependentFrom}
use Rattle.ds2_group_job.proofs.thread_on.run_thread_on.Goals as goal

pub run_begun-requires-clause-run : goal.run_begun-requires-clause-run
run_begun-requires-clause-run g c = λ κs lives. record { thread = c.requires.thread; workers = c.requires.workers }

pub run_begun-requires-clause-machine : goal.run_begun-requires-clause-machine
run_begun-requires-clause-machine g c = λ κs lives. c.in_ok-machine.ensures.machine

pub run_begun-requires-clause-independent : goal.run_begun-requires-clause-independent
run_begun-requires-clause-independent g c = λ κs lives.
    let run = c.args.thread.now in
    let P : ProgramData → Type 0 = λ d. IsIndependentFrom run.stage.now run.tables.now run.budget run.grain d in
    subst P (sym c.in_ok-machine.ensures.begun) (c.requires.independent c.args.given.now)

pub returns : goal.returns
returns g c =
    let run = c.args.thread.now in
    let P : ProgramData → Type 0 = λ d. IfOk c.run_begun.result (λ end. IsThreadEnd (alone_answer (code_program run.stage.now [] run.tables.now run.budget run.grain) d) end) in
    subst P c.in_ok-machine.ensures.begun c.run_begun.ensures
