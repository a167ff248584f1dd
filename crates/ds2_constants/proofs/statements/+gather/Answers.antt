use Rattle.std.proofs.lemmas.Grind.{common_steps}
use Rattle.std.proofs.Common.{◌≡◌, ◌+◌, ◌++◌, List, map, drop, sym, ap, ◌∙◌, arith}
use Rattle.std.specs.Option.{option_map}
use Rattle.ds2_meaning.specs.declared.expressions.Expression as code_expression
use Rattle.ds2_meaning.specs.declared.statements.Arm as code_arm
use Rattle.ds2_meaning.specs.declared.statements.ParameterSetting.{ParameterSetting}
use Rattle.ds2_meaning.specs.declared.statements.PutItem.{PutItem}
use Rattle.ds2_meaning.specs.declared.statements.Statement as code_statement
use Rattle.ds2_meaning.specs.declared.statements.When as code_when
use Rattle.ds2_meaning.specs.View.{in_a_row, all_expressions, all_statements, otherwise_part, typed_expression, typed_statement, parameter_tree, item_tree}
use Rattle.ds2_program_code.specs.UsedConstants.{constants_used, constants_of_all, constants_of_items, constants_of_parameters, constants_of_step, constants_of_statement, constants_of_body, constants_of_whens}
use Rattle.ds2_emitter.proofs.Appended.{on_ok}
use Rattle.ds2_statement_emitter.specs.Arms.{when_tree, arm_of_chain, last_tree}
use Rattle.ds2_statement_emitter.proofs.StatementTrees.{empty_is, assign_is, invoke_is, evaluate_is, parameters_is, leave_is, continue_is, return_is, return_value_is, output_is, put_is, block_is, count_is, while_is, until_is, if_is, select_is, select_value_is, when_is}
use Rattle.ds2_constants.specs.UsedOnce.{with_used, constants_of_rest}
use Rattle.ds2_constants.proofs.Collected.{none_used, two_parts, four_parts, by_equal}
use Rattle.ds2_constants.proofs.CollectedStatements.{next_collected, part_collected, when_collected, if_collected}
use Rattle.ds2_constants.proofs.statements.+gather.Goals as goal

pub collect_statement-returns-in-Empty : goal.collect_statement-returns-in-Empty
collect_statement-returns-in-Empty t c =
    let is = ap (λ x. with_used (constants_of_statement x) c.args.table.now) (empty_is c.args.s.now _ c.in-Empty.is) in
    sym (is ∙ none_used c.args.table.now)

pub collect_statement-returns-in-Leave : goal.collect_statement-returns-in-Leave
collect_statement-returns-in-Leave t c =
    let is = ap (λ x. with_used (constants_of_statement x) c.args.table.now) (leave_is c.args.s.now _ c.in-Leave.is) in
    sym (is ∙ none_used c.args.table.now)

pub collect_statement-returns-in-Continue : goal.collect_statement-returns-in-Continue
collect_statement-returns-in-Continue t c =
    let is = ap (λ x. with_used (constants_of_statement x) c.args.table.now) (continue_is c.args.s.now _ c.in-Continue.is) in
    sym (is ∙ none_used c.args.table.now)

pub collect_statement-returns-in-Return : goal.collect_statement-returns-in-Return
collect_statement-returns-in-Return t c =
    let is = ap (λ x. with_used (constants_of_statement x) c.args.table.now) (return_is c.args.s.now _ c.in-Return.is) in
    sym (is ∙ none_used c.args.table.now)

pub collect_statement-returns-in-Output : goal.collect_statement-returns-in-Output
collect_statement-returns-in-Output t c =
    let is = ap (λ x. with_used (constants_of_statement x) c.args.table.now) (output_is c.args.s.now _ _ c.in-Output.is) in
    sym (is ∙ none_used c.args.table.now)

pub collect_statement-returns-in-Assign : goal.collect_statement-returns-in-Assign
collect_statement-returns-in-Assign t c =
    let is = ap (λ x. with_used (constants_of_statement x) c.args.table.now) (assign_is c.args.s.now _ _ _ c.in-Assign.is) in
    on_ok c.collect_expression.result c.collect_expression.ensures (λ e. e ∙ sym is)

pub collect_statement-returns-in-Evaluate : goal.collect_statement-returns-in-Evaluate
collect_statement-returns-in-Evaluate t c =
    let is = ap (λ x. with_used (constants_of_statement x) c.args.table.now) (evaluate_is c.args.s.now _ _ c.in-Evaluate.is) in
    on_ok c.collect_expression-in-Evaluate.result c.collect_expression-in-Evaluate.ensures (λ e. e ∙ sym is)

pub collect_statement-returns-in-ReturnValue : goal.collect_statement-returns-in-ReturnValue
collect_statement-returns-in-ReturnValue t c =
    let is = ap (λ x. with_used (constants_of_statement x) c.args.table.now) (return_value_is c.args.s.now _ _ c.in-ReturnValue.is) in
    on_ok c.collect_expression-in-ReturnValue.result c.collect_expression-in-ReturnValue.ensures (λ e. e ∙ sym is)

pub collect_statement-returns-in-Invoke : goal.collect_statement-returns-in-Invoke
collect_statement-returns-in-Invoke t c =
    let is = ap (λ x. with_used (constants_of_statement x) c.args.table.now) (invoke_is c.args.s.now _ _ c.in-Invoke.is) in
    on_ok c.collect_call.result c.collect_call.ensures (λ e. e ∙ sym is)

pub collect_statement-returns-in-SetParameters : goal.collect_statement-returns-in-SetParameters
collect_statement-returns-in-SetParameters t c =
    let is = ap (λ x. with_used (constants_of_statement x) c.args.table.now) (parameters_is c.args.s.now _ _ _ c.in-SetParameters.is) in
    on_ok c.collect_parameters.result c.collect_parameters.ensures (λ e. by_equal (λ (l : List ParameterSetting). constants_of_parameters (map parameter_tree l)) _ _ _ _ c.as_slice.ensures e ∙ sym is)

pub collect_statement-returns-in-Put : goal.collect_statement-returns-in-Put
collect_statement-returns-in-Put t c =
    let is = ap (λ x. with_used (constants_of_statement x) c.args.table.now) (put_is c.args.s.now _ _ c.in-Put.is) in
    on_ok c.collect_items.result c.collect_items.ensures (λ e. by_equal (λ (l : List PutItem). constants_of_items (map item_tree l)) _ _ _ _ c.as_slice-in-Put.ensures e ∙ sym is)

pub collect_statement-returns-in-Block : goal.collect_statement-returns-in-Block
collect_statement-returns-in-Block t c =
    let is = ap (λ x. with_used (constants_of_statement x) c.args.table.now) (block_is c.args.s.now _ _ c.in-Block.is) in
    on_ok c.collect_statements.result c.collect_statements.ensures (λ e. by_equal (λ (l : List code_statement.Statement). constants_of_body (all_statements (map typed_statement l))) _ _ _ _ c.as_slice-in-Block.ensures e ∙ sym is)

pub collect_statement-returns-in_ok-collect_expression-in-While : goal.collect_statement-returns-in_ok-collect_expression-in-While
collect_statement-returns-in_ok-collect_expression-in-While t c =
    let is = ap (λ x. with_used (constants_of_statement x) c.args.table.now) (while_is c.args.s.now _ _ _ c.in-While.is) in
    on_ok c.collect_statements-in-While.result c.collect_statements-in-While.ensures
    (λ e. two_parts _ _ _ _ _ c.in_ok-collect_expression-in-While.ensures (by_equal (λ (l : List code_statement.Statement). constants_of_body (all_statements (map typed_statement l))) _ _ _ _ c.as_slice-in-While.ensures e) ∙ sym is)

pub collect_statement-returns-in_ok-collect_expression-in-Until : goal.collect_statement-returns-in_ok-collect_expression-in-Until
collect_statement-returns-in_ok-collect_expression-in-Until t c =
    let is = ap (λ x. with_used (constants_of_statement x) c.args.table.now) (until_is c.args.s.now _ _ _ c.in-Until.is) in
    on_ok c.collect_statements-in-Until.result c.collect_statements-in-Until.ensures
    (λ e. two_parts _ _ _ _ _ c.in_ok-collect_expression-in-Until.ensures (by_equal (λ (l : List code_statement.Statement). constants_of_body (all_statements (map typed_statement l))) _ _ _ _ c.as_slice-in-Until.ensures e) ∙ sym is)

pub collect_statement-returns-in_ok-collect_step-in-Count : goal.collect_statement-returns-in_ok-collect_step-in-Count
collect_statement-returns-in_ok-collect_step-in-Count t c =
    let is = ap (λ x. with_used (constants_of_statement x) c.args.table.now) (count_is c.args.s.now _ _ _ _ _ _ c.in-Count.is) in
    on_ok c.collect_statements-in-Count.result c.collect_statements-in-Count.ensures
    (λ e. four_parts _ _ _ _ _ _ _ _ _ c.in_ok-collect_expression-in-Count.ensures c.in_ok-collect_expression-in-Count-2.ensures c.in_ok-collect_step-in-Count.ensures (by_equal (λ (l : List code_statement.Statement). constants_of_body (all_statements (map typed_statement l))) _ _ _ _ c.as_slice-in-Count.ensures e) ∙ sym is)

pub collect_statement-returns-in_ok-collect_arms-in-If : goal.collect_statement-returns-in_ok-collect_arms-in-If
collect_statement-returns-in_ok-collect_arms-in-If t c =
    let is = ap (λ x. with_used (constants_of_statement x) c.args.table.now) (if_is c.args.s.now _ _ _ _ _ c.in-If.is) in
    let o = last_tree c.in-If.otherwise in
    let whole = is ∙ if_collected _ (typed_expression c.in-If.condition) (typed_statement c.in-If.then.value) c.in-If.others o c.args.table.now in
    let on = by_equal (λ (s : code_statement.Statement). constants_of_statement (typed_statement s)) _ _ _ _ c.deref.ensures c.in_ok-collect_statement-in-If.ensures in
    let rest = by_equal (λ (l : List code_arm.Arm). constants_of_rest (map arm_of_chain l) o) _ _ _ _ c.as_slice-in-If.ensures (c.in_ok-collect_arms-in-If.ensures o) in
    on_ok c.collect_else.result c.collect_else.ensures
    (λ e. e ∙ rest ∙ ap (λ t. with_used (constants_of_rest (map arm_of_chain c.in-If.others) o) t) (on ∙ ap (λ t. with_used (constants_of_statement (typed_statement c.in-If.then.value)) t) c.in_ok-collect_expression-in-If.ensures) ∙ sym whole)

pub collect_statement-returns-in_ok-collect_whens-in-Select : goal.collect_statement-returns-in_ok-collect_whens-in-Select
collect_statement-returns-in_ok-collect_whens-in-Select t c =
    let is = ap (λ x. with_used (constants_of_statement x) c.args.table.now) (select_is c.args.s.now _ _ _ c.in-Select.is) in
    let o = last_tree c.in-Select.otherwise in
    let whens = by_equal (λ (l : List code_when.When). constants_of_whens (in_a_row (map when_tree l) (otherwise_part o))) _ _ _ _ c.as_slice-in-Select.ensures (c.in_ok-collect_whens-in-Select.ensures o) in
    on_ok c.collect_otherwise.result c.collect_otherwise.ensures (λ e. e ∙ whens ∙ sym is)

pub collect_statement-returns-in_ok-collect_whens-in-SelectValue : goal.collect_statement-returns-in_ok-collect_whens-in-SelectValue
collect_statement-returns-in_ok-collect_whens-in-SelectValue t c =
    let is = ap (λ x. with_used (constants_of_statement x) c.args.table.now) (select_value_is c.args.s.now _ _ _ _ c.in-SelectValue.is) in
    let o = last_tree c.in-SelectValue.otherwise in
    let whens = by_equal (λ (l : List code_when.When). constants_of_whens (in_a_row (map when_tree l) (otherwise_part o))) _ _ _ _ c.as_slice-in-SelectValue.ensures (c.in_ok-collect_whens-in-SelectValue.ensures o) in
    on_ok c.collect_otherwise-in-SelectValue.result c.collect_otherwise-in-SelectValue.ensures
    (λ e. two_parts _ _ _ _ _ c.in_ok-collect_expression-in-SelectValue.ensures (e ∙ whens) ∙ sym is)

pub collect_when-returns : goal.collect_when-returns
collect_when-returns t c rest =
    let w = c.args.when.now in
    let is = ap (λ x. with_used (constants_of_whens x) c.args.table.now) (when_is w rest) in
    let tests = all_expressions (map typed_expression w.tests) in
    let whole = when_collected tests (typed_statement w.then) rest c.args.table.now in
    let tested = by_equal (λ (l : List code_expression.Expression). constants_of_all (all_expressions (map typed_expression l))) _ _ _ _ c.as_slice.ensures c.in_ok-collect_expressions.ensures in
    on_ok c.collect_statement.result c.collect_statement.ensures
    (λ e. ap (λ t. with_used (constants_of_whens rest) t) (e ∙ ap (λ t. with_used (constants_of_statement (typed_statement w.then)) t) tested) ∙ sym (is ∙ whole))

pub collect_arm-returns : goal.collect_arm-returns
collect_arm-returns t c ps o =
    let a = c.args.arm.now in
    on_ok c.collect_statement.result c.collect_statement.ensures
    (λ e. ap (λ x. with_used (constants_of_rest ps o) x) (e ∙ ap (λ x. with_used (constants_of_statement (typed_statement a.then)) x) c.in_ok-collect_expression.ensures)
    ∙ sym (part_collected (arm_of_chain a) ps o c.args.table.now))

pub collect_arms-returns : goal.collect_arms-returns
collect_arms-returns t c o = grind (arith, common_steps, c.arms.invariant o)

pub collect_whens-returns : goal.collect_whens-returns
collect_whens-returns t c o = grind (arith, common_steps, c.whens.invariant o)

pub collect_statements-returns : goal.collect_statements-returns
collect_statements-returns t c = grind (arith, common_steps, none_used c.body.table, c.body.invariant)

pub collect_statements-body-preserved : goal.collect_statements-body-preserved
collect_statements-body-preserved t c =
    let k = next_collected (typed_statement c.s-item.result) (all_statements (map typed_statement (drop (c.body.s-index + 1) c.args.body.now))) c.body.table in
    grind (arith, common_steps, k, c.in_ok-collect_statement.ensures, c.body.invariant)
