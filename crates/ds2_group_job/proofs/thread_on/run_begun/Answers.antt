use Rattle.std.proofs.Common.{◌≡◌, Some, sym, ap, ◌∙◌, subst}
use Rattle.ds2_value.specs.declared.fault.Ending.{Ending}
use Rattle.ds2_table.specs.OneThread.{groups_at}
use Rattle.ds2_code_answer.specs.CodeLoads.{code_group_count}
use Rattle.ds2_machine.specs.declared.record.UnitRecord.{UnitRecord}
use Rattle.ds2_group_job.proofs.KeptUnits.{thread_ended}
use Rattle.ds2_group_job.proofs.thread_on.run_begun.Goals as goal

pub run_whole-requires-clause-run : goal.run_whole-requires-clause-run
run_whole-requires-clause-run g c = λ κs lives. c.requires.run

pub run_whole-requires-clause-machine : goal.run_whole-requires-clause-machine
run_whole-requires-clause-machine g c = λ κs lives. c.requires.machine

pub run_whole-requires-clause-independent : goal.run_whole-requires-clause-independent
run_whole-requires-clause-independent g c = λ κs lives. c.requires.independent

pub returns : goal.returns
returns g c =
    let run = c.args.run.now.thread in
    let ran = c.in_ok-ran.ran in
    let told = c.thread_end.result in
    let P : Ending → Type 0 = λ e. groups_at (Some e) ran.groups ≡ groups_at (Some e) (code_group_count run.grain run.stage.now run.tables.now) in
    thread_ended run.stage.now run.tables.now run.budget run.grain c.args.machine.now.state c.new-written.result c.run_whole.new.written ran.end told ran.groups
    (ap (λ (r : UnitRecord). r.rows) c.new-written.ensures) (ap (λ (r : UnitRecord). r.lines) c.new-written.ensures) c.in_ok-ran.ensures.ran
    c.thread_end.ensures.written (c.thread_end.ensures.ending ∙ c.ended_alone.ensures.ending) (c.thread_end.ensures.executed ∙ c.ended_alone.ensures.executed) c.thread_end.ensures.groups
    (subst P (sym (c.thread_end.ensures.ending ∙ c.ended_alone.ensures.ending)) c.in_ok-ran.ensures.groups) (c.thread_end.ensures.below ∙ c.ended_alone.ensures.stages)
