use Rattle.std.proofs.Common.{List, Some, length, map, sym, ap, ◌∙◌, subst}
use Rattle.std.specs.List.{AllByRecursion}
use Rattle.std.proofs.lemmas.List.{length-map}
use Rattle.ds2_table.specs.Loads.{groups}
use Rattle.ds2_table.specs.OneThread.{groups_at, run_each, then_unit}
use Rattle.ds2_code.specs.declared.parts.ProgramParts.{ProgramParts}
use Rattle.ds2_code.specs.CodeUnit.{code_init}
use Rattle.ds2_code.specs.Desk.{SlotSettings}
use Rattle.ds2_code.specs.Scales.{AreSettingsScaled}
use Rattle.ds2_machine.specs.AtRest.{staged_program}
use Rattle.ds2_machine.specs.declared.record.UnitRecord.{UnitRecord}
use Rattle.ds2_code_answer.specs.CodeAnswer.{code_units}
use Rattle.ds2_code_answer.specs.CodeLoads.{code_keyed_loads, code_loads}
use Rattle.ds2_loads.specs.GroupedLoads.{settings_of_code}
use Rattle.ds2_unit.specs.UnitsRun.{HasRunAnswer}
use Rattle.ds2_unit.proofs.ThreadEnds.{HasKept, stage_ended}
use Rattle.ds2_unit.proofs.thread.run_thread.Goals as goal

pub run_units-requires-clause-scaled : goal.run_units-requires-clause-scaled
run_units-requires-clause-scaled c = c.requires.machine.scaled

pub run_units-requires-clause-ready : goal.run_units-requires-clause-ready
run_units-requires-clause-ready c = c.requires.machine.ready

pub run_units-requires-clause-budget : goal.run_units-requires-clause-budget
run_units-requires-clause-budget c = c.requires.thread.within

pub run_units-requires-clause-loads : goal.run_units-requires-clause-loads
run_units-requires-clause-loads c =
    let run = c.args.run.now in
    let P : ProgramParts → Type 0 = λ p. AllByRecursion (AreSettingsScaled p.slots) (code_loads run.stage.now run.tables.now) in
    let Q : List SlotSettings → Type 0 = λ xs. AllByRecursion (AreSettingsScaled (staged_program run.code.now c.args.machine.now.program).slots) xs in
    subst Q (sym c.in_ok-loads.ensures.left) (subst P (sym c.requires.machine.number) (c.loads_are_scaled.ensures run.stage.now run.tables.now))

pub returns : goal.returns
returns c =
    let run = c.args.run.now in
    let state = c.args.machine.now.state in
    let now = c.run_units.new.sink in
    let told = c.thread_end.result in
    let here = staged_program run.code.now c.args.machine.now.program in
    let P : ProgramParts → Type 0 = λ p. HasRunAnswer HasKept c.new-written.result now (then_unit (code_init p run.budget state) (run_each (code_units p run.budget) (code_loads run.stage.now run.tables.now))) c.in_ok-end.end in
    let Q : List SlotSettings → Type 0 = λ xs. HasRunAnswer HasKept c.new-written.result now (then_unit (code_init here run.budget state) (run_each (code_units here run.budget) xs)) c.in_ok-end.end in
    let many =
    c.groups-groups.ensures ∙ ap length c.in_ok-loads.ensures.groups ∙ length-map (groups run.grain (code_keyed_loads run.stage.now run.tables.now)) (map (settings_of_code run.stage.now run.tables.now)) in
    stage_ended run.stage.now run.tables.now run.budget run.grain state c.new-written.result now c.in_ok-end.end c.ended_alone.result told
    (ap (λ (r : UnitRecord). r.rows) c.new-written.ensures) (ap (λ (r : UnitRecord). r.lines) c.new-written.ensures) (subst P c.requires.machine.number (subst Q c.in_ok-loads.ensures.left c.in_ok-end.ensures))
    c.ended_alone.ensures.ending c.ended_alone.ensures.executed c.ended_alone.ensures.stages c.thread_end.ensures.written c.thread_end.ensures.ending c.thread_end.ensures.executed
    (c.thread_end.ensures.groups ∙ ap (groups_at (Some told.ending)) many) c.thread_end.ensures.below
