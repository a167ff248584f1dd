use Rattle.std.proofs.Common.{◌≡◌, map, drop, Option}
use Rattle.ds2_meaning.specs.TypedStatement.{TypedStatement}
use Rattle.ds2_meaning.specs.View.{in_a_row, all_statements, otherwise_part, typed_statement}
use Rattle.ds2_program_code.specs.KeptTypes.{all_types_kept, whens_types_kept}
use Rattle.ds2_statement_emitter.specs.Arms.{when_tree, arm_of_chain}
use Rattle.ds2_body_survey.specs.Surveyed.{with_types, types_of_rest}
use Rattle.ds2_body_survey.proofs.types.+kept.Given as goal

abbrev pub invariant-add_arms-arms : goal.invariant-add_arms-arms
invariant-add_arms-arms l =
    (o : Option TypedStatement) → with_types (types_of_rest (map arm_of_chain (drop l.arm-index l.arms)) o) l.types ≡ with_types (types_of_rest (map arm_of_chain l.arms) o) l.fn.types

abbrev pub invariant-add_whens-whens : goal.invariant-add_whens-whens
invariant-add_whens-whens l =
    (o : Option TypedStatement) → with_types (whens_types_kept (in_a_row (map when_tree (drop l.when-index l.whens)) (otherwise_part o))) l.types ≡ with_types (whens_types_kept (in_a_row (map when_tree l.whens) (otherwise_part o))) l.fn.types

abbrev pub invariant-add_all_types-body : goal.invariant-add_all_types-body
invariant-add_all_types-body l =
    with_types (all_types_kept (all_statements (map typed_statement (drop l.s-index l.body)))) l.types ≡ with_types (all_types_kept (all_statements (map typed_statement l.body))) l.fn.types
