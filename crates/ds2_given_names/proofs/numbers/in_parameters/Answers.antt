use Rattle.std.proofs.Common.{◌+◌, drop, arith}
use Rattle.std.proofs.lemmas.Grind.{common_steps}
use Rattle.std.specs.Prelude.{map}
use Rattle.ds2_tree.specs.declared.globals.Parameter as source_parameter
use Rattle.ds2_names.specs.UnitRules.{bad_type_numbers}
use Rattle.ds2_scope.proofs.CollectedLemmas.{one_more_item}
use Rattle.ds2_given_names.proofs.numbers.in_parameters.Goals as goal

pub parameters-preserved : goal.parameters-preserved
parameters-preserved c =
    let k = one_more_item bad_type_numbers c.parameters.found c.p-item.result.ty (map (λ (p : source_parameter.Parameter). p.ty) (drop (c.parameters.p-index + 1) c.args.parameters.now)) in
    grind (arith, common_steps, k, c.parameters.invariant)
