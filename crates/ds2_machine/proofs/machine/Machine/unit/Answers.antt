use Rattle.std.proofs.Common.{ap, ◌∙◌, refl, sym}
use Rattle.ds2_code.specs.CodeUnit.{unit_begun}
use Rattle.ds2_machine.specs.AtRest.{MachineAtRest}
use Rattle.ds2_machine.specs.MachineView.{machine_of_state, nothing_told}
use Rattle.ds2_machine.proofs.RunScales.{begun_scaled, normal_by}
use Rattle.ds2_machine.proofs.UnitEnds.{begun_small, never_stuck, told}
use Rattle.ds2_machine.proofs.machine.Machine.unit.Goals as goal

pub run-requires-clause-small : goal.run-requires-clause-small
run-requires-clause-small g c =
    let begins = c.begin.ensures ∙ ap (λ (z : MachineAtRest). unit_begun c.args.entry c.args.budget z.state) c.self.view_is in
    begun_small c.units_begin_with_little.ensures c.args.code.now c.args.entry c.args.budget c.args.self.now.state (machine_of_state c.begin.new.self nothing_told) begins c.requires.executable.short c.requires.budget

pub ending_of-ending-requires : goal.ending_of-ending-requires
ending_of-ending-requires g c =
    let begins = c.begin.ensures ∙ ap (λ (z : MachineAtRest). unit_begun c.args.entry c.args.budget z.state) c.self.view_is in
    never_stuck c.run_has_one_end.ensures c.args.code.now c.args.entry c.args.budget c.args.self.now.state c.requires.ends g.S.UnitSink.has_taken c.args.sink.now c.run.new.sink (machine_of_state c.begin.new.self nothing_told) begins c.in_ok-ran.ran.executed c.in_ok-ran.ran.halt c.run.new.self c.in_ok-ran.ensures.ran

pub returns-clause-ran : goal.returns-clause-ran
returns-clause-ran g c =
    let begins = c.begin.ensures ∙ ap (λ (z : MachineAtRest). unit_begun c.args.entry c.args.budget z.state) c.self.view_is in
    told c.run_has_one_end.ensures c.args.code.now c.args.entry c.args.budget c.args.self.now.state c.requires.ends g.S.UnitSink.has_taken c.args.sink.now c.run.new.sink (machine_of_state c.begin.new.self nothing_told) begins c.in_ok-ran.ran.executed c.in_ok-ran.ran.halt c.run.new.self _ c.in_ok-ran.ensures.ran c.ending_of-ending.ensures refl refl

pub run-requires-clause-scaled : goal.run-requires-clause-scaled
run-requires-clause-scaled g c =
    let begins = c.begin.ensures ∙ ap (λ (z : MachineAtRest). unit_begun c.args.entry c.args.budget z.state) c.self.view_is in
    begun_scaled c.units_begin_scaled.ensures c.args.code.now c.requires.valid c.requires.entry.0 c.args.entry c.args.budget c.args.self.now.state (machine_of_state c.begin.new.self nothing_told) c.requires.entry.1 c.requires.scaled begins

pub returns-clause-scaled : goal.returns-clause-scaled
returns-clause-scaled g c = λ goes_on. c.in_ok-ran.ensures.scaled (normal_by c.in_ok-ran.ran.halt c.run.new.self.place c.ending_of-ending.result c.ending_of-ending.ensures (sym c.is_early-self-inside.ensures ∙ goes_on))
