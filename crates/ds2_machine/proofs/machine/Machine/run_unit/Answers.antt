use Rattle.std.proofs.Common.{refl, subst, sym, ap, ◌∙◌, IfOk, List}
use Rattle.ds2_code.specs.declared.parts.Slot.{Slot}
use Rattle.ds2_code.specs.CodeUnit.{code_unit, without_cleared}
use Rattle.ds2_code.specs.Desk.{ProgramData}
use Rattle.ds2_code.specs.ValidCode.{EndsInTime}
use Rattle.ds2_machine.specs.AtRest.{IsUnitEnd}
use Rattle.ds2_code.specs.Scales.{IsDataScaled}
use Rattle.ds2_machine.proofs.Executable.{executable}
use Rattle.ds2_machine.proofs.RunScales.{loaded_scaled}
use Rattle.ds2_machine.proofs.UnitEnds.{loaded_state}
use Rattle.ds2_machine.proofs.machine.Machine.run_unit.Goals as goal

pub unit-requires-clause-ends : goal.unit-requires-clause-ends
unit-requires-clause-ends g c =
    let P : ProgramData → Type 0 = λ s. EndsInTime c.args.code.now c.args.budget (code_unit c.args.code.now c.args.code.now.run c.args.budget s) in
    subst P (loaded_state c.args.self.now c.self.inside.state c.self.inside.spent c.self.inside.program c.args.code.now.slots (g.L.UnitLoad.settings c.args.load.now) c.clear.new.slots c.set_into.new.slots c.self.view_is (c.clear.ensures ∙ ap (λ (parts : List Slot). without_cleared parts c.self.inside.state.slots) c.as_slice.ensures) c.in_ok-set_into.ensures) c.requires.ends

pub returns-clause-ran : goal.returns-clause-ran
returns-clause-ran g c =
    let P : ProgramData → Type 0 = λ s. IfOk c.unit.result (λ end. IsUnitEnd g.S.UnitSink.has_taken c.args.sink.now c.unit.new.sink (code_unit c.args.code.now c.args.code.now.run c.args.budget s) end c.unit.new.self.state) in
    subst P (sym (loaded_state c.args.self.now c.self.inside.state c.self.inside.spent c.self.inside.program c.args.code.now.slots (g.L.UnitLoad.settings c.args.load.now) c.clear.new.slots c.set_into.new.slots c.self.view_is (c.clear.ensures ∙ ap (λ (parts : List Slot). without_cleared parts c.self.inside.state.slots) c.as_slice.ensures) c.in_ok-set_into.ensures)) c.unit.ensures.ran

pub unit-requires-clause-executable : goal.unit-requires-clause-executable
unit-requires-clause-executable g c = executable c.args.code.now c.requires.valid

pub unit-requires-clause-entry : goal.unit-requires-clause-entry
unit-requires-clause-entry g c = (1, refl)

pub unit-requires-clause-scaled : goal.unit-requires-clause-scaled
unit-requires-clause-scaled g c =
    let P : ProgramData → Type 0 = λ s. IsDataScaled c.args.code.now s in
    subst P (loaded_state c.args.self.now c.self.inside.state c.self.inside.spent c.self.inside.program c.args.code.now.slots (g.L.UnitLoad.settings c.args.load.now) c.clear.new.slots c.set_into.new.slots c.self.view_is (c.clear.ensures ∙ ap (λ (parts : List Slot). without_cleared parts c.self.inside.state.slots) c.as_slice.ensures) c.in_ok-set_into.ensures)
    (loaded_scaled c.settings_keep_scales.ensures c.clearing_keeps_scales.ensures c.args.code.now (g.L.UnitLoad.settings c.args.load.now) c.args.self.now.state c.requires.load c.requires.scaled)
