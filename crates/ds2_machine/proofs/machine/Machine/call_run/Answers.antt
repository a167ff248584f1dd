use Rattle.std.proofs.Common.{◌≡◌, ℕ, ◌+◌, ◌*◌, ◌≤◌, length, sym, ap, ◌∙◌, subst, IfOk}
use Rattle.ds2_code.specs.declared.parts.ProgramParts.{ProgramParts}
use Rattle.ds2_code.specs.CodeUnit.{code_run}
use Rattle.ds2_code.specs.Scales.{AreSettingsScaled, IsDataScaled}
use Rattle.ds2_machine.specs.AtRest.{MachineAtRest, staged_program, IsUnitEnd}
use Rattle.ds2_machine.proofs.UnitEnds.{bound}
use Rattle.ds2_machine.proofs.machine.Machine.call_run.Goals as goal

pub run_unit-requires-clause-scaled : goal.run_unit-requires-clause-scaled
run_unit-requires-clause-scaled g c =
    let same : c.program_of-program.result.now ≡ staged_program c.args.code.now c.args.self.now.program = c.program_of-program.ensures.program ∙ ap (λ (z : MachineAtRest). staged_program c.args.code.now z.program) c.self.view_is in
    let P : ProgramParts → Type 0 = λ p. IsDataScaled p c.args.self.now.state in
    subst P (sym same) c.requires.scaled

pub run_unit-requires-clause-load : goal.run_unit-requires-clause-load
run_unit-requires-clause-load g c =
    let same : c.program_of-program.result.now ≡ staged_program c.args.code.now c.args.self.now.program = c.program_of-program.ensures.program ∙ ap (λ (z : MachineAtRest). staged_program c.args.code.now z.program) c.self.view_is in
    let P : ProgramParts → Type 0 = λ p. AreSettingsScaled p.slots (g.L.UnitLoad.settings c.args.load.now) in
    subst P (sym same) c.requires.load

pub run_unit-requires-clause-ends : goal.run_unit-requires-clause-ends
run_unit-requires-clause-ends g c = (c.valid_code_ends.ensures c.program_of-program.ensures.valid.parts c.program_of-program.ensures.valid.number c.program_of-program.result.now c.args.budget (g.L.UnitLoad.settings c.args.load.now) c.args.self.now.state c.program_of-program.ensures.valid.valid c.program_of-program.ensures.valid.here).run

pub returns-clause-ran : goal.returns-clause-ran
returns-clause-ran g c =
    let same : c.program_of-program.result.now ≡ staged_program c.args.code.now c.args.self.now.program = c.program_of-program.ensures.program ∙ ap (λ (z : MachineAtRest). staged_program c.args.code.now z.program) c.self.view_is in
    let P : ProgramParts → Type 0 = λ p. IfOk c.run_unit.result (λ end. IsUnitEnd g.S.UnitSink.has_taken c.args.sink.now c.run_unit.new.sink (code_run p c.args.budget (g.L.UnitLoad.settings c.args.load.now) c.args.self.now.state) end c.run_unit.new.self.state) in
    subst P same c.run_unit.ensures.ran

pub returns-clause-scaled : goal.returns-clause-scaled
returns-clause-scaled g c = λ goes_on.
    let same : c.program_of-program.result.now ≡ staged_program c.args.code.now c.args.self.now.program = c.program_of-program.ensures.program ∙ ap (λ (z : MachineAtRest). staged_program c.args.code.now z.program) c.self.view_is in
    let P : ProgramParts → Type 0 = λ p. IsDataScaled p c.run_unit.new.self.state in
    let Q : ℕ → Type 0 = λ n. IsDataScaled (staged_program c.args.code.now n) c.run_unit.new.self.state in
    subst Q (sym c.run_unit.ensures.program) (subst P same (c.run_unit.ensures.scaled goes_on))

pub returns-clause-bound : goal.returns-clause-bound
returns-clause-bound g c =
    let same : c.program_of-program.result.now ≡ staged_program c.args.code.now c.args.self.now.program = c.program_of-program.ensures.program ∙ ap (λ (z : MachineAtRest). staged_program c.args.code.now z.program) c.self.view_is in
    let P : ProgramParts → Type 0 = λ p. IfOk c.run_unit.result (λ end. end.executed ≤ (c.args.budget + 1) * length p.instrs) in
    subst P same
    (bound g.S.UnitSink.has_taken c.args.sink.now c.run_unit.new.sink c.program_of-program.result.now c.args.budget (code_run c.program_of-program.result.now c.args.budget (g.L.UnitLoad.settings c.args.load.now) c.args.self.now.state) c.run_unit.result c.run_unit.new.self.state
    (c.valid_code_ends.ensures c.program_of-program.ensures.valid.parts c.program_of-program.ensures.valid.number c.program_of-program.result.now c.args.budget (g.L.UnitLoad.settings c.args.load.now) c.args.self.now.state c.program_of-program.ensures.valid.valid c.program_of-program.ensures.valid.here).run c.run_unit.ensures.ran)
