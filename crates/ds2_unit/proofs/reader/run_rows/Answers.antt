use Rattle.std.proofs.Common.{◌≡◌, List, length, map, Some, refl, sym, ap, ◌∙◌, subst}
use Rattle.std.specs.List.{AllByRecursion}
use Rattle.ds2_table.specs.OneThread.{run_each, stage_rows}
use Rattle.ds2_code.specs.declared.parts.ProgramParts.{ProgramParts}
use Rattle.ds2_code.specs.declared.parts.Slot.{Slot}
use Rattle.ds2_code.specs.CodeUnit.{row_slot_settings}
use Rattle.ds2_code.specs.Desk.{SlotSettings}
use Rattle.ds2_code.specs.Scales.{AreSettingsScaled}
use Rattle.ds2_slots.specs.LoadedHashes.{AreSlotTypesInBounds}
use Rattle.ds2_machine.specs.declared.record.OutRow.{OutRow}
use Rattle.ds2_code_answer.specs.CodeAnswer.{code_units}
use Rattle.ds2_code_answer.specs.CodeLoads.{slots_of_stage}
use Rattle.ds2_loads.specs.StageRows.{rows_as_loads}
use Rattle.ds2_unit.specs.Threads.{answer_on_rows}
use Rattle.ds2_unit.specs.UnitsRun.{HasRunAnswer}
use Rattle.ds2_unit.proofs.StagedRuns.{loads_of_rows, rows_scaled, behind_normal, behind_fault, whatever_groups}
use Rattle.ds2_unit.proofs.reader.run_rows.Goals as goal

pub returns-in-Faulted : goal.returns-in-Faulted
returns-in-Faulted g c = λ answer is.
    behind_fault g.S.UnitSink.has_taken c.args.sink.now c.hand_on.new.sink c.as_slice-lines.result.now answer (answer_on_rows c.args.run.now.place.program.now c.args.budget c.args.machine.now.state)
    c.in-Faulted.kind c.in-Faulted.place _ (is.ended ∙ ap Some c.in-Faulted.is) (c.as_slice-lines.ensures ∙ is.lines) c.in_ok-hand_on.ensures refl refl

pub invariant_of-source : goal.invariant_of-source
invariant_of-source g c =
    let P : List Slot → Type 0 = λ ss. AreSlotTypesInBounds ss in
    record { in_bounds = subst P (sym c.as_slice-slots.ensures) c.requires.reader.types }

pub run_to_end-requires-clause-scaled : goal.run_to_end-requires-clause-scaled
run_to_end-requires-clause-scaled g c = c.requires.machine.scaled

pub run_to_end-requires-clause-loads : goal.run_to_end-requires-clause-loads
run_to_end-requires-clause-loads g c =
    let slots = c.as_slice-slots.result.now in
    let loads = rows_as_loads slots c.thread_slots-into.result.now c.as_slice-rest.result.now in
    let P : ProgramParts → Type 0 = λ p. AllByRecursion (AreSettingsScaled p.slots) loads in
    let Q : List Slot → Type 0 = λ ss. AllByRecursion (AreSettingsScaled ss) loads in
    subst P (sym c.requires.machine.number) (subst Q c.as_slice-slots.ensures (rows_scaled slots c.thread_slots-into.result.now c.as_slice-rest.result.now))

pub returns-in_ok-end-in-Normal : goal.returns-in_ok-end-in-Normal
returns-in_ok-end-in-Normal g c = λ answer is.
    let program = c.args.run.now.place.program.now in
    let budget = c.args.budget in
    let slots = c.as_slice-slots.result.now in
    let into = c.thread_slots-into.result.now in
    let rest = c.as_slice-rest.result.now in
    let state = c.args.machine.now.state in
    let loads : rows_as_loads slots into rest ≡ map (row_slot_settings program.slots (slots_of_stage program.reading)) (stage_rows answer) =
    ap (λ (s : List Slot). rows_as_loads s into rest) c.as_slice-slots.ensures
    ∙ ap (λ (rows : List OutRow). rows_as_loads program.slots into rows) c.as_slice-rest.ensures
    ∙ ap (λ (columns : List _). rows_as_loads program.slots columns c.args.thread.now.written.rows) (sym c.thread_slots-into.ensures)
    ∙ loads_of_rows program.slots (slots_of_stage program.reading) c.args.thread.now.written.rows (stage_rows answer) is.rows in
    let P : ProgramParts → Type 0 = λ p.
    HasRunAnswer g.S.UnitSink.has_taken c.hand_on.new.sink c.run_to_end.new.sink (run_each (code_units p budget) (rows_as_loads slots into rest) state) c.in_ok-end-in-Normal.end in
    let Q : List SlotSettings → Type 0 = λ xs.
    HasRunAnswer g.S.UnitSink.has_taken c.hand_on.new.sink c.run_to_end.new.sink (run_each (code_units program budget) xs state) c.in_ok-end-in-Normal.end in
    behind_normal g.S.UnitSink.has_taken c.args.sink.now c.hand_on.new.sink c.run_to_end.new.sink c.as_slice-lines.result.now answer (answer_on_rows program budget state)
    c.in_ok-end-in-Normal.end (is.ended ∙ ap Some c.in-Normal.is) (c.as_slice-lines.ensures ∙ is.lines) c.in_ok-hand_on.ensures
    (whatever_groups g.S.UnitSink.has_taken c.hand_on.new.sink c.run_to_end.new.sink (length (stage_rows answer))
    (run_each (code_units program budget) (map (row_slot_settings program.slots (slots_of_stage program.reading)) (stage_rows answer)) state) c.in_ok-end-in-Normal.end
    (subst Q loads (subst P c.requires.machine.number c.in_ok-end-in-Normal.ensures)))
