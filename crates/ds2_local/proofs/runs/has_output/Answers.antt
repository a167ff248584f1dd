use Rattle.std.proofs.Common.{map, sym, ap, ◌∙◌}
use Rattle.std.specs.List.{list_any}
use Rattle.ds2_meaning.specs.Method.{MethodTree}
use Rattle.ds2_meaning.specs.TypedStatement.{have_output}
use Rattle.ds2_meaning.specs.View.{typed_method}
use Rattle.ds2_local.proofs.OutputLemmas.{in_init, in_run, in_term, in_methods}
use Rattle.ds2_local.proofs.runs.has_output.Goals as goal

pub returns-then-system_has_output : goal.returns-then-system_has_output
returns-then-system_has_output c = in_init c.args.program.now (sym c.system_has_output.ensures ∙ c.if-system_has_output.true)

pub returns-then-system_has_output-2 : goal.returns-then-system_has_output-2
returns-then-system_has_output-2 c =
    in_run c.args.program.now (sym c.system_has_output.ensures ∙ c.if-system_has_output.false) (sym c.system_has_output-2.ensures ∙ c.if-system_has_output-2.true)

pub returns-then-system_has_output-3 : goal.returns-then-system_has_output-3
returns-then-system_has_output-3 c =
    in_term c.args.program.now (sym c.system_has_output.ensures ∙ c.if-system_has_output.false) (sym c.system_has_output-2.ensures ∙ c.if-system_has_output-2.false)
    (sym c.system_has_output-3.ensures ∙ c.if-system_has_output-3.true)

pub returns : goal.returns
returns c =
    c.methods_have_output.ensures ∙ ap (λ ms. list_any (λ (m : MethodTree). have_output m.body) (map typed_method ms)) c.as_slice.ensures
    ∙ in_methods c.args.program.now (sym c.system_has_output.ensures ∙ c.if-system_has_output.false) (sym c.system_has_output-2.ensures ∙ c.if-system_has_output-2.false)
    (sym c.system_has_output-3.ensures ∙ c.if-system_has_output-3.false)
