use Rattle.std.proofs.Common.{◌++◌, length, ap, ◌∙◌}
use Rattle.ds2_gen.specs.BodyCode.{OfSystem, code_of_body}
use Rattle.ds2_program_code.specs.ProgramCode.{run_numbers}
use Rattle.ds2_generate.specs.UnitBodies.{tree_of_unit}
use Rattle.ds2_generate.proofs.UnitLemmas.{on_ok, system_begins}
use Rattle.ds2_generate.proofs.program.emit_run.Goals as goal

pub returns : goal.returns
returns c =
    let p = tree_of_unit c.args.unit.now in
    let code = c.args.code.now in
    on_ok c.emit_system_method.result c.emit_system_method.ensures (λ e.
    system_begins p p.run c.as_slice.result.now c.args.first _ code _ c.requires.own e
    ∙ ap (λ w. code ++ code_of_body (length code) (OfSystem (run_numbers p) p.run w)) (c.as_slice.ensures ∙ c.in_ok-written.ensures))
