use Rattle.std.proofs.Common.{[], ◌++◌, length, ap, ◌∙◌}
use Rattle.ds2_generate.specs.UnitBodies.{tree_of_unit}
use Rattle.ds2_generate.proofs.UnitLemmas.{init_begins, system_begins, second_begins, third_begins, methods_of_instances, methods_follow, parts_follow, bodies_written, parts_written}
use Rattle.ds2_generate.proofs.program.program_bodies.Goals as goal

pub returns-clause-instrs : goal.returns-clause-instrs
returns-clause-instrs c =
    let u = c.args.unit.now in
    let p = tree_of_unit u in
    let instances = c.as_slice-instances.result.now in
    let first = init_begins u _ instances _ _ c.new-instrs.ensures c.requires.init c.as_slice-instances.ensures c.in_ok-emit_system_method.ensures in
    let third = system_begins p p.term [] _ _ _ _ c.requires.term c.in_ok-emit_system_method-2.ensures in
    bodies_written p _ _ _ _ first c.in_ok-emit_run.ensures third
    (methods_follow u c.as_slice-own.result.now instances _ _ _ c.as_slice-own.ensures c.as_slice-instances.ensures
    (c.in_ok-emit_declared_methods.ensures.code (methods_of_instances instances ++ [])) (c.in_ok-emit_instance_methods.ensures.code []))

pub returns-clause-methods : goal.returns-clause-methods
returns-clause-methods c =
    let u = c.args.unit.now in
    let p = tree_of_unit u in
    let instances = c.as_slice-instances.result.now in
    let first = init_begins u _ instances _ _ c.new-instrs.ensures c.requires.init c.as_slice-instances.ensures c.in_ok-emit_system_method.ensures in
    let third = system_begins p p.term [] _ _ _ _ c.requires.term c.in_ok-emit_system_method-2.ensures in
    parts_written p _ _ _ _ _ first c.in_ok-emit_run.ensures third
    (parts_follow u c.as_slice-own.result.now instances _ _ _ _ _ _ c.as_slice-own.ensures c.as_slice-instances.ensures c.new-methods.ensures
    (c.in_ok-emit_declared_methods.ensures.parts (methods_of_instances instances ++ [])) (c.in_ok-emit_instance_methods.ensures.parts []))

pub returns-clause-run_entry : goal.returns-clause-run_entry
returns-clause-run_entry c =
    let u = c.args.unit.now in
    let first = init_begins u _ c.as_slice-instances.result.now _ _ c.new-instrs.ensures c.requires.init c.as_slice-instances.ensures c.in_ok-emit_system_method.ensures in
    c.in_ok-run.ensures ∙ c.len.ensures ∙ ap length first

pub returns-clause-term_entry : goal.returns-clause-term_entry
returns-clause-term_entry c =
    let u = c.args.unit.now in
    let p = tree_of_unit u in
    let first = init_begins u _ c.as_slice-instances.result.now _ _ c.new-instrs.ensures c.requires.init c.as_slice-instances.ensures c.in_ok-emit_system_method.ensures in
    c.in_ok-term.ensures ∙ c.len-2.ensures ∙ third_begins p _ (second_begins p _ _ first c.in_ok-emit_run.ensures)
