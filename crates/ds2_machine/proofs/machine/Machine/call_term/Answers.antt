use Rattle.std.proofs.Common.{◌≡◌, ℕ, ◌+◌, ◌*◌, ◌≤◌, [], refl, length, sym, ap, ◌∙◌, subst, IfOk}
use Rattle.ds2_code.specs.declared.parts.ProgramParts.{ProgramParts}
use Rattle.ds2_code.specs.CodeUnit.{code_term}
use Rattle.ds2_code.specs.Scales.{IsDataScaled}
use Rattle.ds2_machine.specs.AtRest.{MachineAtRest, staged_program, IsUnitEnd}
use Rattle.ds2_machine.proofs.Executable.{executable}
use Rattle.ds2_machine.proofs.UnitEnds.{bound}
use Rattle.ds2_machine.proofs.machine.Machine.call_term.Goals as goal

pub unit-requires-clause-scaled : goal.unit-requires-clause-scaled
unit-requires-clause-scaled g c =
    let same : c.program_of-program.result.now ≡ staged_program c.args.code.now c.args.self.now.program = c.program_of-program.ensures.program ∙ ap (λ (z : MachineAtRest). staged_program c.args.code.now z.program) c.self.view_is in
    let P : ProgramParts → Type 0 = λ p. IsDataScaled p c.args.self.now.state in
    subst P (sym same) c.requires.scaled

pub unit-requires-clause-executable : goal.unit-requires-clause-executable
unit-requires-clause-executable g c = executable c.program_of-program.result.now c.program_of-program.ensures.valid

pub unit-requires-clause-entry : goal.unit-requires-clause-entry
unit-requires-clause-entry g c = (2, refl)

pub unit-requires-clause-ends : goal.unit-requires-clause-ends
unit-requires-clause-ends g c = (c.valid_code_ends.ensures c.program_of-program.ensures.valid.parts c.program_of-program.ensures.valid.number c.program_of-program.result.now c.args.budget [] c.args.self.now.state c.program_of-program.ensures.valid.valid c.program_of-program.ensures.valid.here).term

pub returns-clause-ran : goal.returns-clause-ran
returns-clause-ran g c =
    let same : c.program_of-program.result.now ≡ staged_program c.args.code.now c.args.self.now.program = c.program_of-program.ensures.program ∙ ap (λ (z : MachineAtRest). staged_program c.args.code.now z.program) c.self.view_is in
    let P : ProgramParts → Type 0 = λ p. IfOk c.unit.result (λ end. IsUnitEnd g.S.UnitSink.has_taken c.args.sink.now c.unit.new.sink (code_term p c.args.budget c.args.self.now.state) end c.unit.new.self.state) in
    subst P same c.unit.ensures.ran

pub returns-clause-scaled : goal.returns-clause-scaled
returns-clause-scaled g c = λ goes_on.
    let same : c.program_of-program.result.now ≡ staged_program c.args.code.now c.args.self.now.program = c.program_of-program.ensures.program ∙ ap (λ (z : MachineAtRest). staged_program c.args.code.now z.program) c.self.view_is in
    let P : ProgramParts → Type 0 = λ p. IsDataScaled p c.unit.new.self.state in
    let Q : ℕ → Type 0 = λ n. IsDataScaled (staged_program c.args.code.now n) c.unit.new.self.state in
    subst Q (sym c.unit.ensures.program) (subst P same (c.unit.ensures.scaled goes_on))

pub returns-clause-bound : goal.returns-clause-bound
returns-clause-bound g c =
    let same : c.program_of-program.result.now ≡ staged_program c.args.code.now c.args.self.now.program = c.program_of-program.ensures.program ∙ ap (λ (z : MachineAtRest). staged_program c.args.code.now z.program) c.self.view_is in
    let P : ProgramParts → Type 0 = λ p. IfOk c.unit.result (λ end. end.executed ≤ (c.args.budget + 1) * length p.instrs) in
    subst P same
    (bound g.S.UnitSink.has_taken c.args.sink.now c.unit.new.sink c.program_of-program.result.now c.args.budget (code_term c.program_of-program.result.now c.args.budget c.args.self.now.state) c.unit.result c.unit.new.self.state
    (c.valid_code_ends.ensures c.program_of-program.ensures.valid.parts c.program_of-program.ensures.valid.number c.program_of-program.result.now c.args.budget [] c.args.self.now.state c.program_of-program.ensures.valid.valid c.program_of-program.ensures.valid.here).term c.unit.ensures.ran)
