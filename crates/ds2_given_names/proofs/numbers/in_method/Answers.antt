use Rattle.std.proofs.Common.{sym, ap, ◌∙◌}
use Rattle.std.specs.Prelude.{map}
use Rattle.ds2_tree.specs.UnitViews.{method_tree}
use Rattle.ds2_tree.specs.declared.globals.Parameter as source_parameter
use Rattle.ds2_names.specs.UnitRules.{declared_types}
use Rattle.ds2_given_names.specs.TypeNumbers.{bad_in_types}
use Rattle.ds2_scope.specs.Earliest.{earlier_of, earliest}
use Rattle.ds2_given_names.proofs.TypeNumberLemmas.{method_parts}
use Rattle.ds2_given_names.proofs.numbers.in_method.Goals as goal

pub returns : goal.returns
returns c =
    let parameters = c.in_parameters-parameters.ensures ∙ ap (λ ps. earliest (bad_in_types (map (λ (p : source_parameter.Parameter). p.ty) ps))) c.as_slice.ensures in
    let locals = c.in_declarations-locals.ensures ∙ ap (λ vs. earliest (bad_in_types (declared_types vs))) c.as_slice-2.ensures in
    c.earlier_of-2.ensures
    ∙ (λ i. earlier_of (c.earlier_of.ensures i) (locals i))
    ∙ (λ i. earlier_of (earlier_of (parameters i) (c.in_returns-returns.ensures i)) (earliest (bad_in_types (declared_types c.args.m.now.locals))))
    ∙ sym (method_parts (method_tree c.args.m.now))
