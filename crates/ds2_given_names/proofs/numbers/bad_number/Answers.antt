use Rattle.std.proofs.Common.{sym, ap, ◌∙◌}
use Rattle.ds2_scope.specs.CodeUnits.{unit_source}
use Rattle.ds2_scope.specs.Earliest.{earlier_of}
use Rattle.ds2_given_names.proofs.TypeNumberLemmas.{numbers_in_order}
use Rattle.ds2_given_names.proofs.numbers.bad_number.Goals as goal

pub returns : goal.returns
returns c =
    c.earlier_of-3.ensures
    ∙ (λ i. earlier_of (c.earlier_of-2.ensures i) c.in_all_readings-readings.result)
    ∙ (λ i. earlier_of (earlier_of (c.earlier_of.ensures i) c.in_all_methods-methods.result) c.in_all_readings-readings.result)
    ∙ (λ i. earlier_of (earlier_of (earlier_of (c.in_all_variables-variables.ensures i) (c.in_parameters-parameters.ensures i)) (c.in_all_methods-methods.ensures i)) (c.in_all_readings-readings.ensures i))
    ∙ sym (numbers_in_order (unit_source c.args.unit))
