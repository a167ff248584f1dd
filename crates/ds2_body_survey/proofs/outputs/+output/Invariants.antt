use Rattle.std.proofs.Common.{◌≡◌, map, drop, Option}
use Rattle.ds2_meaning.specs.TypedStatement.{TypedStatement, have_output, whens_have_output}
use Rattle.ds2_meaning.specs.View.{in_a_row, all_statements, otherwise_part, typed_statement}
use Rattle.ds2_statement_emitter.specs.Arms.{when_tree, arm_of_chain}
use Rattle.ds2_body_survey.specs.Surveyed.{output_in_rest}
use Rattle.ds2_body_survey.proofs.outputs.+output.Given as goal

abbrev pub invariant-arms_have_output-arms : goal.invariant-arms_have_output-arms
invariant-arms_have_output-arms l = (o : Option TypedStatement) → output_in_rest (map arm_of_chain (drop l.arm-index l.arms)) o ≡ output_in_rest (map arm_of_chain l.arms) o

abbrev pub invariant-whens_have_output-whens : goal.invariant-whens_have_output-whens
invariant-whens_have_output-whens l =
    (o : Option TypedStatement) → whens_have_output (in_a_row (map when_tree (drop l.when-index l.whens)) (otherwise_part o)) ≡ whens_have_output (in_a_row (map when_tree l.whens) (otherwise_part o))

abbrev pub invariant-statements_have_output-body : goal.invariant-statements_have_output-body
invariant-statements_have_output-body l = have_output (all_statements (map typed_statement (drop l.s-index l.body))) ≡ have_output (all_statements (map typed_statement l.body))
