use Rattle.std.proofs.Common.{◌≡◌, drop}
use Rattle.std.specs.Prelude.{map}
use Rattle.ds2_tree.specs.declared.globals.Parameter as source_parameter
use Rattle.ds2_given_names.specs.TypeNumbers.{bad_in_types}
use Rattle.ds2_scope.specs.Earliest.{earlier_of, earliest}
use Rattle.ds2_given_names.proofs.numbers.in_parameters.Given as goal

abbrev pub invariant-parameters : goal.invariant-parameters
invariant-parameters l = earlier_of l.found (earliest (bad_in_types (map (λ (p : source_parameter.Parameter). p.ty) (drop l.p-index l.parameters)))) ≡ earliest (bad_in_types (map (λ (p : source_parameter.Parameter). p.ty) l.parameters))
