use Rattle.std.proofs.Common.{◌+◌, drop, arith}
use Rattle.std.proofs.lemmas.Grind.{common_steps}
use Rattle.ds2_names.specs.UnitRules.{bad_type_numbers, declared_types}
use Rattle.ds2_scope.proofs.CollectedLemmas.{one_more_item}
use Rattle.ds2_given_names.proofs.numbers.in_declarations.Goals as goal

pub declarations-preserved : goal.declarations-preserved
declarations-preserved c =
    let k = one_more_item bad_type_numbers c.declarations.found c.v-item.result.ty (declared_types (drop (c.declarations.v-index + 1) c.args.declarations.now)) in
    grind (arith, common_steps, k, c.declarations.invariant)
