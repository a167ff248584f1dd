use Rattle.std.proofs.Common.{◌≡◌, map, drop}
use Rattle.ds2_meaning.specs.TypedStatement.{TypedWhens}
use Rattle.ds2_meaning.specs.View.{in_a_row, all_statements, typed_statement}
use Rattle.ds2_statement_emitter.specs.Arms.{arm_tree, when_tree}
use Rattle.ds2_locality.specs.Deeds.{body_deeds, when_deeds}
use Rattle.ds2_deeds.specs.ElseParts.{ElsePart, else_deeds}
use Rattle.ds2_deeds.specs.CodeTrees.{scope_of}
use Rattle.ds2_deeds.specs.NumberedDeeds.{numbers_of, with_deeds}
use Rattle.ds2_deeds.proofs.statement_deeds.+statement_deeds.Given as goal

abbrev pub invariant-add_arms_deeds-arms : goal.invariant-add_arms_deeds-arms
invariant-add_arms_deeds-arms l =
    (rest : ElsePart)
    → with_deeds (numbers_of l.numbers) (else_deeds (scope_of l.scope) (in_a_row (map arm_tree (drop l.arm-index l.arms)) rest)) l.deeds
    ≡ with_deeds (numbers_of l.numbers) (else_deeds (scope_of l.scope) (in_a_row (map arm_tree l.arms) rest)) l.fn.deeds

abbrev pub invariant-add_whens_deeds-whens : goal.invariant-add_whens_deeds-whens
invariant-add_whens_deeds-whens l =
    (rest : TypedWhens)
    → with_deeds (numbers_of l.numbers) (when_deeds (scope_of l.scope) (in_a_row (map when_tree (drop l.when-index l.whens)) rest)) l.deeds
    ≡ with_deeds (numbers_of l.numbers) (when_deeds (scope_of l.scope) (in_a_row (map when_tree l.whens) rest)) l.fn.deeds

abbrev pub invariant-add_body_deeds-body : goal.invariant-add_body_deeds-body
invariant-add_body_deeds-body l =
    with_deeds (numbers_of l.numbers) (body_deeds (scope_of l.scope) (all_statements (map typed_statement (drop l.s-index l.body)))) l.deeds
    ≡ with_deeds (numbers_of l.numbers) (body_deeds (scope_of l.scope) (all_statements (map typed_statement l.body))) l.fn.deeds
