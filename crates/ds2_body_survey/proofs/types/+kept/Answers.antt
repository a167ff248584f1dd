use Rattle.std.proofs.lemmas.Grind.{common_steps}
use Rattle.std.proofs.Common.{◌+◌, [], ◌∷◌, List, map, drop, sym, ap, ◌∙◌, arith}
use Rattle.ds2_value.specs.declared.ty.Ty.{Ty}
use Rattle.ds2_meaning.specs.declared.statements.Arm as code_arm
use Rattle.ds2_meaning.specs.declared.statements.Statement as code_statement
use Rattle.ds2_meaning.specs.declared.statements.When as code_when
use Rattle.ds2_meaning.specs.View.{in_a_row, all_expressions, all_statements, otherwise_part, typed_expression, typed_statement}
use Rattle.ds2_program_code.specs.KeptTypes.{types_kept, all_types_kept, whens_types_kept}
use Rattle.ds2_emitter.proofs.Appended.{on_ok}
use Rattle.ds2_statement_emitter.specs.Arms.{when_tree, arm_of_chain, last_tree}
use Rattle.ds2_statement_emitter.proofs.StatementTrees.{empty_is, assign_is, invoke_is, evaluate_is, parameters_is, leave_is, continue_is, return_is, return_value_is, output_is, put_is, block_is, count_is, while_is, until_is, if_is, select_is, select_value_is, when_is}
use Rattle.ds2_body_survey.specs.Surveyed.{with_types, types_of_rest}
use Rattle.ds2_body_survey.proofs.SurveyLemmas.{none_added, two_grown, grown_equal, next_added, part_added, when_added, if_added}
use Rattle.ds2_body_survey.proofs.types.+kept.Goals as goal

pub add_types-returns-in-Empty : goal.add_types-returns-in-Empty
add_types-returns-in-Empty t c =
    let is = ap (λ x. with_types (types_kept x) c.args.types.now) (empty_is c.args.s.now _ c.in-Empty.is) in
    sym (is ∙ none_added c.args.types.now)

pub add_types-returns-in-Assign : goal.add_types-returns-in-Assign
add_types-returns-in-Assign t c =
    let is = ap (λ x. with_types (types_kept x) c.args.types.now) (assign_is c.args.s.now _ _ _ c.in-Assign.is) in
    sym (is ∙ none_added c.args.types.now)

pub add_types-returns-in-Invoke : goal.add_types-returns-in-Invoke
add_types-returns-in-Invoke t c =
    let is = ap (λ x. with_types (types_kept x) c.args.types.now) (invoke_is c.args.s.now _ _ c.in-Invoke.is) in
    sym (is ∙ none_added c.args.types.now)

pub add_types-returns-in-Evaluate : goal.add_types-returns-in-Evaluate
add_types-returns-in-Evaluate t c =
    let is = ap (λ x. with_types (types_kept x) c.args.types.now) (evaluate_is c.args.s.now _ _ c.in-Evaluate.is) in
    sym (is ∙ none_added c.args.types.now)

pub add_types-returns-in-SetParameters : goal.add_types-returns-in-SetParameters
add_types-returns-in-SetParameters t c =
    let is = ap (λ x. with_types (types_kept x) c.args.types.now) (parameters_is c.args.s.now _ _ _ c.in-SetParameters.is) in
    sym (is ∙ none_added c.args.types.now)

pub add_types-returns-in-Leave : goal.add_types-returns-in-Leave
add_types-returns-in-Leave t c =
    let is = ap (λ x. with_types (types_kept x) c.args.types.now) (leave_is c.args.s.now _ c.in-Leave.is) in
    sym (is ∙ none_added c.args.types.now)

pub add_types-returns-in-Continue : goal.add_types-returns-in-Continue
add_types-returns-in-Continue t c =
    let is = ap (λ x. with_types (types_kept x) c.args.types.now) (continue_is c.args.s.now _ c.in-Continue.is) in
    sym (is ∙ none_added c.args.types.now)

pub add_types-returns-in-Return : goal.add_types-returns-in-Return
add_types-returns-in-Return t c =
    let is = ap (λ x. with_types (types_kept x) c.args.types.now) (return_is c.args.s.now _ c.in-Return.is) in
    sym (is ∙ none_added c.args.types.now)

pub add_types-returns-in-ReturnValue : goal.add_types-returns-in-ReturnValue
add_types-returns-in-ReturnValue t c =
    let is = ap (λ x. with_types (types_kept x) c.args.types.now) (return_value_is c.args.s.now _ _ c.in-ReturnValue.is) in
    sym (is ∙ none_added c.args.types.now)

pub add_types-returns-in-Output : goal.add_types-returns-in-Output
add_types-returns-in-Output t c =
    let is = ap (λ x. with_types (types_kept x) c.args.types.now) (output_is c.args.s.now _ _ c.in-Output.is) in
    sym (is ∙ none_added c.args.types.now)

pub add_types-returns-in-Put : goal.add_types-returns-in-Put
add_types-returns-in-Put t c =
    let is = ap (λ x. with_types (types_kept x) c.args.types.now) (put_is c.args.s.now _ _ c.in-Put.is) in
    sym (is ∙ none_added c.args.types.now)

pub add_types-returns-in-Block : goal.add_types-returns-in-Block
add_types-returns-in-Block t c =
    let is = ap (λ x. with_types (types_kept x) c.args.types.now) (block_is c.args.s.now _ _ c.in-Block.is) in
    on_ok c.add_all_types.result c.add_all_types.ensures (λ e. grown_equal (λ (l : List code_statement.Statement). all_types_kept (all_statements (map typed_statement l))) _ _ _ _ c.as_slice-in-Block.ensures e ∙ sym is)

pub add_types-returns-in-While : goal.add_types-returns-in-While
add_types-returns-in-While t c =
    let is = ap (λ x. with_types (types_kept x) c.args.types.now) (while_is c.args.s.now _ _ _ c.in-While.is) in
    on_ok c.add_all_types-in-While.result c.add_all_types-in-While.ensures (λ e. grown_equal (λ (l : List code_statement.Statement). all_types_kept (all_statements (map typed_statement l))) _ _ _ _ c.as_slice-in-While.ensures e ∙ sym is)

pub add_types-returns-in-Until : goal.add_types-returns-in-Until
add_types-returns-in-Until t c =
    let is = ap (λ x. with_types (types_kept x) c.args.types.now) (until_is c.args.s.now _ _ _ c.in-Until.is) in
    on_ok c.add_all_types-in-Until.result c.add_all_types-in-Until.ensures (λ e. grown_equal (λ (l : List code_statement.Statement). all_types_kept (all_statements (map typed_statement l))) _ _ _ _ c.as_slice-in-Until.ensures e ∙ sym is)

pub add_types-returns-in_ok-add_count_types-in-Count : goal.add_types-returns-in_ok-add_count_types-in-Count
add_types-returns-in_ok-add_count_types-in-Count t c =
    let is = ap (λ x. with_types (types_kept x) c.args.types.now) (count_is c.args.s.now _ _ _ _ _ _ c.in-Count.is) in
    on_ok c.add_all_types-in-Count.result c.add_all_types-in-Count.ensures (λ e. two_grown _ _ _ _ _ c.in_ok-add_count_types-in-Count.ensures (grown_equal (λ (l : List code_statement.Statement). all_types_kept (all_statements (map typed_statement l))) _ _ _ _ c.as_slice-in-Count.ensures e) ∙ sym is)

pub add_types-returns-in_ok-add_arms-in-If : goal.add_types-returns-in_ok-add_arms-in-If
add_types-returns-in_ok-add_arms-in-If t c =
    let is = ap (λ x. with_types (types_kept x) c.args.types.now) (if_is c.args.s.now _ _ _ _ _ c.in-If.is) in
    let o = last_tree c.in-If.otherwise in
    let whole = is ∙ if_added _ (typed_expression c.in-If.condition) (typed_statement c.in-If.then.value) c.in-If.others o c.args.types.now in
    let on = grown_equal (λ (s : code_statement.Statement). types_kept (typed_statement s)) _ _ _ _ c.deref.ensures c.in_ok-add_types-in-If.ensures in
    let rest = grown_equal (λ (l : List code_arm.Arm). types_of_rest (map arm_of_chain l) o) _ _ _ _ c.as_slice.ensures (c.in_ok-add_arms-in-If.ensures o) in
    on_ok c.add_else.result c.add_else.ensures (λ e. e ∙ rest ∙ ap (λ x. with_types (types_of_rest (map arm_of_chain c.in-If.others) o) x) on ∙ sym whole)

pub add_types-returns-in_ok-add_whens-in-Select : goal.add_types-returns-in_ok-add_whens-in-Select
add_types-returns-in_ok-add_whens-in-Select t c =
    let is = ap (λ x. with_types (types_kept x) c.args.types.now) (select_is c.args.s.now _ _ _ c.in-Select.is) in
    let o = last_tree c.in-Select.otherwise in
    let whens = grown_equal (λ (l : List code_when.When). whens_types_kept (in_a_row (map when_tree l) (otherwise_part o))) _ _ _ _ c.as_slice-in-Select.ensures (c.in_ok-add_whens-in-Select.ensures o) in
    on_ok c.add_otherwise.result c.add_otherwise.ensures (λ e. e ∙ whens ∙ sym is)

pub add_types-returns-in_ok-add_whens-in-SelectValue : goal.add_types-returns-in_ok-add_whens-in-SelectValue
add_types-returns-in_ok-add_whens-in-SelectValue t c =
    let is = ap (λ x. with_types (types_kept x) c.args.types.now) (select_value_is c.args.s.now _ _ _ _ c.in-SelectValue.is) in
    let o = last_tree c.in-SelectValue.otherwise in
    let kept = grown_equal (λ (ty : Ty). ty ∷ []) _ _ _ _ c.expression_type.ensures c.in_ok-add_type-in-SelectValue.ensures in
    let whens = grown_equal (λ (l : List code_when.When). whens_types_kept (in_a_row (map when_tree l) (otherwise_part o))) _ _ _ _ c.as_slice-in-SelectValue.ensures (c.in_ok-add_whens-in-SelectValue.ensures o) in
    on_ok c.add_otherwise-in-SelectValue.result c.add_otherwise-in-SelectValue.ensures (λ e. two_grown _ _ _ _ _ kept (e ∙ whens) ∙ sym is)

pub add_when-returns : goal.add_when-returns
add_when-returns t c rest =
    let w = c.args.when.now in
    let is = ap (λ x. with_types (whens_types_kept x) c.args.types.now) (when_is w rest) in
    let whole = when_added (all_expressions (map typed_expression w.tests)) (typed_statement w.then) rest c.args.types.now in
    on_ok c.add_types.result c.add_types.ensures (λ e. ap (λ x. with_types (whens_types_kept rest) x) e ∙ sym (is ∙ whole))

pub add_arm-returns : goal.add_arm-returns
add_arm-returns t c ps o = on_ok c.add_types.result c.add_types.ensures (λ e. ap (λ x. with_types (types_of_rest ps o) x) e ∙ sym (part_added (arm_of_chain c.args.arm.now) ps o c.args.types.now))

pub add_arms-returns : goal.add_arms-returns
add_arms-returns t c o = grind (arith, common_steps, c.arms.invariant o)

pub add_whens-returns : goal.add_whens-returns
add_whens-returns t c o = grind (arith, common_steps, c.whens.invariant o)

pub add_all_types-returns : goal.add_all_types-returns
add_all_types-returns t c = grind (arith, common_steps, none_added c.body.types, c.body.invariant)

pub add_all_types-body-preserved : goal.add_all_types-body-preserved
add_all_types-body-preserved t c =
    let k = next_added (typed_statement c.s-item.result) (all_statements (map typed_statement (drop (c.body.s-index + 1) c.args.body.now))) c.body.types in
    grind (arith, common_steps, k, c.in_ok-add_types.ensures, c.body.invariant)
