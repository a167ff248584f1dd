use Rattle.std.proofs.Common.{sym, ap, ◌∙◌}
use Rattle.ds2_elaboration.specs.ProgramTypes.{method_refusals}
use Rattle.ds2_names.specs.SourceUnit.{is_system_name}
use Rattle.ds2_tree.specs.UnitViews.{method_tree}
use Rattle.ds2_program_types.proofs.methods.further_method.Goals as goal

pub returns-then-system : goal.returns-then-system
returns-then-system c = λ tables before u methods xs t h.
    let m = method_tree c.args.m.now in
    let told = c.is_system_name-system.ensures ∙ ap is_system_name (c.as_slice-spelled.ensures ∙ c.in_ok-own.ensures) in
    c.further_system.ensures tables before u methods m xs (method_refusals tables before u m) h (sym told ∙ c.if-system.true) (c.as_slice-spelled.ensures ∙ c.in_ok-own.ensures)
    (c.in_ok-method.ensures tables before u t)

pub returns : goal.returns
returns c = λ tables before u methods xs t h.
    let m = method_tree c.args.m.now in
    let told = c.is_system_name-system.ensures ∙ ap is_system_name (c.as_slice-spelled.ensures ∙ c.in_ok-own.ensures) in
    c.further_callable.ensures tables before u methods m xs (method_refusals tables before u m) h (sym told ∙ c.if-system.false) (c.in_ok-callable.ensures tables before u t)
