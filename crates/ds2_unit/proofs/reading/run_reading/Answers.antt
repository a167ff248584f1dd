use Rattle.std.proofs.Common.{List, sym, ap, ◌∙◌, subst, IfOk, IsTrue}
use Rattle.std.specs.List.{AllByRecursion}
use Rattle.ds2_code.specs.declared.parts.ProgramParts.{ProgramParts}
use Rattle.ds2_code.specs.declared.parts.StagedParts.{StagedParts}
use Rattle.ds2_code.specs.Desk.{SlotSettings}
use Rattle.ds2_code.specs.Scales.{AreSettingsScaled, IsDataScaled}
use Rattle.ds2_slots.specs.LoadedHashes.{AreSlotTypesInBounds}
use Rattle.ds2_reading.specs.ReadingFits.{reading_fits_tables}
use Rattle.ds2_code_answer.specs.CodeLoads.{code_loads, code_reading}
use Rattle.ds2_loads.specs.Readings.{ReadsNoThread}
use Rattle.ds2_machine.specs.AtRest.{staged_program}
use Rattle.ds2_unit.specs.UnitsRun.{HasRunOnLoads}
use Rattle.ds2_unit.proofs.Statements.{data_program, types_of_valid}
use Rattle.ds2_unit.proofs.reading.run_reading.Goals as goal

pub walk-requires-clause-reads : goal.walk-requires-clause-reads
walk-requires-clause-reads g c =
    let P : ProgramParts → Type 0 = λ p. ReadsNoThread p.reading in
    subst P (sym (ap (λ (x : StagedParts). x.program) c.parts.ensures.value)) c.requires.reads

pub walk-requires-clause-types : goal.walk-requires-clause-types
walk-requires-clause-types g c =
    let P : ProgramParts → Type 0 = λ p. AreSlotTypesInBounds p.slots in
    subst P (sym (ap (λ (x : StagedParts). x.program) c.parts.ensures.value)) (types_of_valid c.args.code.now c.parts.ensures.valid)

pub walk-requires-clause-fits : goal.walk-requires-clause-fits
walk-requires-clause-fits g c =
    let P : ProgramParts → Type 0 = λ p. IsTrue (reading_fits_tables c.args.tables.now (code_reading p)) in
    subst P (sym (ap (λ (x : StagedParts). x.program) c.parts.ensures.value)) (c.readings_fit_tables.ensures c.args.code.now c.args.tables.now c.parts.ensures.valid c.requires.stages c.requires.tables)

pub run_units-requires-clause-scaled : goal.run_units-requires-clause-scaled
run_units-requires-clause-scaled g c =
    let P : ProgramParts → Type 0 = λ p. IsDataScaled p c.args.machine.now.state in
    subst P (sym (data_program c.args.code.now c.args.machine.now.program c.requires.ready.program)) c.requires.ready.scaled

pub run_units-requires-clause-loads : goal.run_units-requires-clause-loads
run_units-requires-clause-loads g c =
    let program = c.args.code.now.program in
    let left = c.in_ok-loads.ensures ∙ ap (λ (x : StagedParts). code_loads x.program c.args.tables.now) c.parts.ensures.value in
    let P : ProgramParts → Type 0 = λ p. AllByRecursion (AreSettingsScaled p.slots) (code_loads program c.args.tables.now) in
    let Q : List SlotSettings → Type 0 = λ xs. AllByRecursion (AreSettingsScaled (staged_program c.args.code.now c.args.machine.now.program).slots) xs in
    subst Q (sym left) (subst P (sym (data_program c.args.code.now c.args.machine.now.program c.requires.ready.program)) (c.loads_are_scaled.ensures program c.args.tables.now))

pub run_units-requires-clause-budget : goal.run_units-requires-clause-budget
run_units-requires-clause-budget g c = c.requires.ready.budget

pub run_units-requires-clause-ready : goal.run_units-requires-clause-ready
run_units-requires-clause-ready g c = c.requires.ready.ready

pub returns : goal.returns
returns g c =
    let program = c.args.code.now.program in
    let left = c.in_ok-loads.ensures ∙ ap (λ (x : StagedParts). code_loads x.program c.args.tables.now) c.parts.ensures.value in
    let P : ProgramParts → Type 0 = λ p.
    IfOk c.run_units.result (λ end. HasRunOnLoads g.S.UnitSink.has_taken c.args.sink.now c.run_units.new.sink p c.args.budget c.args.machine.now.state (code_loads program c.args.tables.now) end) in
    let Q : List SlotSettings → Type 0 = λ xs.
    IfOk c.run_units.result (λ end. HasRunOnLoads g.S.UnitSink.has_taken c.args.sink.now c.run_units.new.sink (staged_program c.args.code.now c.args.machine.now.program) c.args.budget c.args.machine.now.state xs end) in
    subst P (data_program c.args.code.now c.args.machine.now.program c.requires.ready.program) (subst Q left c.run_units.ensures)
