use Rattle.std.proofs.Common.{◌≡◌, map, drop, Option}
use Rattle.ds2_meaning.specs.TypedStatement.{TypedStatement}
use Rattle.ds2_meaning.specs.View.{in_a_row, all_statements, otherwise_part, typed_statement}
use Rattle.ds2_program_code.specs.UsedConstants.{constants_of_body, constants_of_whens}
use Rattle.ds2_statement_emitter.specs.Arms.{when_tree, arm_of_chain}
use Rattle.ds2_constants.specs.UsedOnce.{with_used, constants_of_rest}
use Rattle.ds2_constants.proofs.statements.+gather.Given as goal

abbrev pub invariant-collect_arms-arms : goal.invariant-collect_arms-arms
invariant-collect_arms-arms l =
    (o : Option TypedStatement) → with_used (constants_of_rest (map arm_of_chain (drop l.arm-index l.arms)) o) l.table ≡ with_used (constants_of_rest (map arm_of_chain l.arms) o) l.fn.table

abbrev pub invariant-collect_whens-whens : goal.invariant-collect_whens-whens
invariant-collect_whens-whens l =
    (o : Option TypedStatement) → with_used (constants_of_whens (in_a_row (map when_tree (drop l.when-index l.whens)) (otherwise_part o))) l.table ≡ with_used (constants_of_whens (in_a_row (map when_tree l.whens) (otherwise_part o))) l.fn.table

abbrev pub invariant-collect_statements-body : goal.invariant-collect_statements-body
invariant-collect_statements-body l =
    with_used (constants_of_body (all_statements (map typed_statement (drop l.s-index l.body)))) l.table ≡ with_used (constants_of_body (all_statements (map typed_statement l.body))) l.fn.table
