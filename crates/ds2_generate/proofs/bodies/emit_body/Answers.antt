use Rattle.std.proofs.Common.{◌++◌, List, length, ap, ◌∙◌}
use Rattle.ds2_meaning.specs.declared.globals.Variable.{Variable}
use Rattle.ds2_gen.specs.BodyCode.{OfSystem, code_of_body}
use Rattle.ds2_program_code.specs.ProgramCode.{system_numbers}
use Rattle.ds2_numbering.specs.FrameNumbers.{body_in, way_in}
use Rattle.ds2_generate.specs.UnitBodies.{tree_of_unit}
use Rattle.ds2_generate.proofs.UnitLemmas.{on_ok, body_numbered}
use Rattle.ds2_generate.proofs.bodies.emit_body.Goals as goal

pub emit_system-requires : goal.emit_system-requires
emit_system-requires c = ap way_in c.names_of-names.ensures.frame

pub returns : goal.returns
returns c =
    let u = c.args.unit.now in
    let code = c.args.code.now in
    let p = tree_of_unit u in
    let tree = body_in c.args.parts.locals.now c.args.parts.instances.now c.args.parts.body.now in
    let held = ap (λ (l : List Variable). system_numbers p c.args.first (body_in l c.args.parts.instances.now c.args.parts.body.now)) c.in_ok-table.ensures in
    let same = body_numbered p u.slots.now u.constants.now _ _ _ c.names_of-names.ensures.frame c.names_of-names.ensures.numbers c.requires.slots c.requires.constants ∙ held in
    on_ok c.emit_system.result c.emit_system.ensures (λ e. e ∙ ap (λ n. code ++ code_of_body (length code) (OfSystem n tree c.args.written.now)) same)
