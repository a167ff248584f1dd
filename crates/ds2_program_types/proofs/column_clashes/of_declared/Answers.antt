use Rattle.std.proofs.Common.{◌≡◌, ℕ, List, refl, ap, ◌∙◌, arith}
use Rattle.std.proofs.lemmas.Grind.{common_steps}
use Rattle.ds2_names.specs.SourceUnit.{columns_stored}
use Rattle.ds2_types.specs.Judgements.{first_type_refusal}
use Rattle.ds2_program_types.proofs.RuleLists.{one_more_ruled, all_ruled}
use Rattle.ds2_program_types.specs.MethodRules.{column_rules}
use Rattle.ds2_program_types.proofs.column_clashes.of_declared.Goals as goal

pub variables-init : goal.variables-init
variables-init c = λ before u all r h. refl

pub variables-preserved : goal.variables-preserved
variables-preserved c = λ before u all r h.
    let named : c.in_ok-name.name ≡ c.v-item.result.name = grind (arith, common_steps) in
    let own = c.clash_of-own.ensures before u all r h ∙ ap (λ (n : List ℕ). first_type_refusal (column_rules (columns_stored c.args.from.tables.now) before u all n)) named in
    one_more_ruled (λ v. column_rules (columns_stored c.args.from.tables.now) before u all v.name) c.args.variables.now c.variables.v-index c.v-item.result c.variables.found c.clash_of-own.result
    c.lesser-found.result (omega arith) c.v-item.is (c.variables.invariant before u all r h) own c.lesser-found.ensures

pub returns : goal.returns
returns c = λ before u all r h.
    all_ruled (λ v. column_rules (columns_stored c.args.from.tables.now) before u all v.name) c.args.variables.now c.variables.v-index c.variables.found (omega arith) (c.variables.invariant before u all r h)
