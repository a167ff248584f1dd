use Rattle.std.proofs.Common.{◌++◌, length, ap, ◌∙◌}
use Rattle.ds2_meaning.specs.declared.methods.Method.{Method}
use Rattle.ds2_meaning.specs.View.{typed_method}
use Rattle.ds2_gen.specs.MethodCode.{method_code}
use Rattle.ds2_program_code.specs.CodeMethods.{CodeMethod}
use Rattle.ds2_program_code.specs.ProgramCode.{method_numbers}
use Rattle.ds2_statement_emitter.specs.BodyWords.{method_returning}
use Rattle.ds2_numbering.specs.FrameNumbers.{way_in}
use Rattle.ds2_numbering.specs.SoughtLocations.{home_of_name}
use Rattle.ds2_generate.specs.UnitBodies.{tree_of_unit}
use Rattle.ds2_generate.proofs.UnitLemmas.{on_any, body_numbered}
use Rattle.ds2_generate.proofs.bodies.emit_declared.Goals as goal

pub emit_method-requires : goal.emit_method-requires
emit_method-requires c = ap way_in c.names_of-names.ensures.frame ∙ ap (λ (m : Method). method_returning m.returns) c.in_ok-table.ensures

pub returns-clause-code : goal.returns-clause-code
returns-clause-code c =
    let u = c.args.unit.now in
    let code = c.args.code.now in
    let p = tree_of_unit u in
    let held = ap (λ (m : Method). let declared : CodeMethod = record { home = home_of_name c.args.home; method = typed_method m } in method_numbers p declared) c.in_ok-table.ensures in
    let same = body_numbered p u.slots.now u.constants.now _ _ _ c.names_of-names.ensures.frame c.names_of-names.ensures.numbers c.requires.slots c.requires.constants ∙ held in
    on_any _ (c.in_ok-emit_method.ensures ∙ ap (λ n. code ++ method_code n (length code) (typed_method c.args.method.now)) same)
