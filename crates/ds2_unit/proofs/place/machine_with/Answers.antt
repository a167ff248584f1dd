use Rattle.std.proofs.Common.{ap, ◌∙◌, sym, subst}
use Rattle.ds2_code.specs.declared.parts.ProgramParts.{ProgramParts}
use Rattle.ds2_code.specs.CodeUnit.{opening_data}
use Rattle.ds2_code.specs.Scales.{AreGivenScaled}
use Rattle.ds2_machine.specs.AtRest.{MachineAtRest, staged_program}
use Rattle.ds2_code_answer.specs.CodeTables.{rows_of_each}
use Rattle.ds2_unit.proofs.place.machine_with.Goals as goal

pub open-requires-clause-program : goal.open-requires-clause-program
open-requires-clause-program c = c.requires.place.there

pub open-requires-clause-given : goal.open-requires-clause-given
open-requires-clause-given c =
    let P : ProgramParts → Type 0 = λ p. AreGivenScaled p.slots p.parameters c.args.given.now in
    subst P (sym c.requires.place.here) c.requires.given

pub returns-clause-machine : goal.returns-clause-machine
returns-clause-machine c = record {
  number = ap (λ (m : MachineAtRest). staged_program c.args.place.now.code.now m.program) c.in_ok-machine.ensures.opened ∙ c.requires.place.here;
  scaled = c.in_ok-machine.ensures.scaled;
  ready = ap (λ (m : MachineAtRest). m.spent) c.in_ok-machine.ensures.opened;
}

pub returns-clause-begun : goal.returns-clause-begun
returns-clause-begun c =
    ap (λ (m : MachineAtRest). m.state) c.in_ok-machine.ensures.opened
    ∙ ap (λ (p : ProgramParts). opening_data p c.args.given.now (rows_of_each c.args.place.now.tables.now) c.args.parameters) c.requires.place.here
