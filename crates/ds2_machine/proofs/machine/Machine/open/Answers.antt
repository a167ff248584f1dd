use Rattle.std.proofs.Common.{◌≡◌, sym, ap, ◌∙◌, subst, IfOk, false}
use Rattle.ds2_code.specs.declared.parts.ProgramParts.{ProgramParts}
use Rattle.ds2_code.specs.CodeUnit.{opening_data}
use Rattle.ds2_machine.specs.AtRest.{MachineAtRest, staged_program}
use Rattle.ds2_machine.proofs.Executable.{slot_types}
use Rattle.ds2_machine.proofs.RunScales.{opening_scaled, opened_scaled}
use Rattle.ds2_machine.proofs.machine.Machine.open.Goals as goal

pub opened-requires : goal.opened-requires
opened-requires g c = slot_types c.program_of.result.now c.program_of.ensures.valid

pub returns-clause-opened : goal.returns-clause-opened
returns-clause-opened g c =
    let P : ProgramParts → Type 0 = λ p. IfOk c.opened.result (λ machine. machine ≡ record { state = opening_data p c.args.given.now (g.T.HashTables.tables c.args.tables.now) c.args.parameters; spent = false; program = c.args.program }) in
    subst P c.program_of.ensures.program c.opened.ensures

pub returns-clause-scaled : goal.returns-clause-scaled
returns-clause-scaled g c =
    let P : ProgramParts → Type 0 = λ p. IfOk c.opened.result (λ machine. machine ≡ record { state = opening_data p c.args.given.now (g.T.HashTables.tables c.args.tables.now) c.args.parameters; spent = false; program = c.args.program }) in
    let code = staged_program c.args.code.now c.args.program in
    opened_scaled c.opened.result c.args.code.now (opening_data code c.args.given.now (g.T.HashTables.tables c.args.tables.now) c.args.parameters) c.args.program
    (opening_scaled c.settings_keep_scales.ensures c.loaded_hashes_are_scaled.ensures code c.args.given.now (g.T.HashTables.tables c.args.tables.now) c.args.parameters c.requires.given) (subst P c.program_of.ensures.program c.opened.ensures)
