use Rattle.std.proofs.Common.{List, refl, sym, ◌∙◌, subst, arith}
use Rattle.ds2_table.specs.OneThread.{run_each}
use Rattle.ds2_code.specs.declared.parts.ProgramParts.{ProgramParts}
use Rattle.ds2_code.specs.CodeUnit.{code_term}
use Rattle.ds2_code.specs.Desk.{SlotSettings}
use Rattle.ds2_code_answer.specs.CodeAnswer.{code_units}
use Rattle.ds2_code_answer.specs.StageTold.{told_by_answer}
use Rattle.ds2_machine.specs.AtRest.{IsUnitEnd}
use Rattle.ds2_loads.specs.GroupedLoads.{loads_in_groups}
use Rattle.ds2_unit.specs.declared.units_end.UnitsEnd.{UnitsEnd}
use Rattle.ds2_group_job.specs.KeptAnswers.{HasKeptTold}
use Rattle.ds2_group_job.proofs.GroupSteps.{HasKeptRows}
use Rattle.ds2_group_job.proofs.GroupsInTurn.{NoneStrays}
use Rattle.ds2_group_job.proofs.NoneStrays.{none_strays}
use Rattle.ds2_group_job.proofs.ThreadRest.{rest_faulted, rest_ended}
use Rattle.ds2_group_job.proofs.on_workers.run_rest.Goals as goal

pub run_loads_on-requires-clause-run : goal.run_loads_on-requires-clause-run
run_loads_on-requires-clause-run g c = λ κs lives. c.requires.run

pub run_loads_on-requires-clause-machine : goal.run_loads_on-requires-clause-machine
run_loads_on-requires-clause-machine g c = λ κs lives. c.requires.machine

pub run_loads_on-requires-clause-independent : goal.run_loads_on-requires-clause-independent
run_loads_on-requires-clause-independent g c = λ κs lives. c.requires.independent

pub call_term-requires-clause-scaled : goal.call_term-requires-clause-scaled
call_term-requires-clause-scaled g c = c.requires.machine.scaled

pub call_term-requires-clause-budget : goal.call_term-requires-clause-budget
call_term-requires-clause-budget g c = c.requires.run.thread.within

pub call_term-requires-clause-ready : goal.call_term-requires-clause-ready
call_term-requires-clause-ready g c = c.requires.machine.ready

pub returns-then-is_fault-clause-ran : goal.returns-then-is_fault-clause-ran
returns-then-is_fault-clause-ran g c =
    let run = c.args.run.now.thread in
    let state = c.args.machine.now.state in
    let before = c.args.written.now in
    let middle = c.run_loads_on.new.written in
    let groups = loads_in_groups run.grain run.stage.now run.tables.now in
    let P : List SlotSettings → Type 0 = λ ls. HasKeptTold before middle (told_by_answer (run_each (code_units run.stage.now run.budget) ls state)) c.in_ok-ran.ran.end in
    subst P (c.groups_are_all_loads.ensures run.grain run.stage.now run.tables.now)
    (rest_faulted run.stage.now run.budget groups state before middle c.in_ok-ran.ran.end c.in_ok-ran.ensures.kept (sym c.is_fault.ensures ∙ c.if-is_fault.true))

pub returns-then-is_fault-clause-groups : goal.returns-then-is_fault-clause-groups
returns-then-is_fault-clause-groups g c = c.in_ok-ran.ensures.groups

pub returns-clause-ran : goal.returns-clause-ran
returns-clause-ran g c =
    let run = c.args.run.now.thread in
    let state = c.args.machine.now.state in
    let before = c.args.written.now in
    let middle = c.run_loads_on.new.written in
    let after = c.call_term.new.sink in
    let now = c.call_term.new.self.state in
    let groups = loads_in_groups run.grain run.stage.now run.tables.now in
    let end : UnitsEnd = record { ending = c.in_ok-last.last.ending; executed = c.in_ok-executed.executed } in
    let S : ProgramParts → Type 0 = λ p. NoneStrays p run.budget groups in
    let stays = subst S c.requires.machine.number (none_strays c.valid_code_ends.ensures run.code.now c.args.machine.now.program run.budget groups c.parts-valid.ensures.valid) in
    let T : ProgramParts → Type 0 = λ p. IsUnitEnd HasKeptRows middle after (code_term p run.budget state) c.in_ok-last.last now in
    let P : List SlotSettings → Type 0 = λ ls. HasKeptTold before after (told_by_answer (run_each (code_units run.stage.now run.budget) ls state)) end in
    subst P (c.groups_are_all_loads.ensures run.grain run.stage.now run.tables.now)
    (rest_ended run.stage.now run.budget groups state before middle c.in_ok-ran.ran.end c.in_ok-ran.ensures.kept c.requires.independent stays (sym c.is_fault.ensures ∙ c.if-is_fault.false)
    after c.in_ok-last.last now end (subst T c.requires.machine.number c.in_ok-last.ensures.ran) refl (omega (arith, c.in_ok-executed.ensures, c.from.ensures)))

pub returns-clause-groups : goal.returns-clause-groups
returns-clause-groups g c = c.in_ok-ran.ensures.groups
