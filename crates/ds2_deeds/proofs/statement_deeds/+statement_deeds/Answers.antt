use Rattle.std.proofs.Common.{List, map, drop, ◌+◌, refl, sym, ap, ◌∙◌, arith}
use Rattle.std.proofs.lemmas.Grind.{common_steps}
use Rattle.std.proofs.lemmas.Result.{on_ok_weaker}
use Rattle.ds2_statement_emitter.specs.Arms.{arm_tree, when_tree, last_tree}
use Rattle.ds2_statement_emitter.proofs.StatementTrees.{empty_is, assign_is, leave_is, continue_is, return_is, output_is, put_is, count_is, while_is, until_is, if_is, select_is, select_value_is, arm_is, when_is}
use Rattle.ds2_meaning.specs.declared.expressions.Expression as code_expression
use Rattle.ds2_meaning.specs.declared.statements.Arm as code_arm
use Rattle.ds2_meaning.specs.declared.statements.PutItem.{PutItem}
use Rattle.ds2_meaning.specs.declared.statements.Statement as code_statement
use Rattle.ds2_meaning.specs.declared.statements.When as code_when
use Rattle.ds2_meaning.specs.View.{in_a_row, all_expressions, all_statements, otherwise_part, typed_expression, typed_statement, item_tree}
use Rattle.ds2_locality.specs.Deeds.{Mention, expressions_deeds, columns_written, item_deeds, statement_deeds, body_deeds, when_deeds}
use Rattle.ds2_deeds.specs.ElseParts.{else_deeds}
use Rattle.ds2_deeds.specs.CodeTrees.{scope_of}
use Rattle.ds2_deeds.specs.NumberedDeeds.{numbers_of, with_deeds}
use Rattle.ds2_deeds.proofs.DeedLemmas.{none_added, both_added, equal_added, two_added}
use Rattle.ds2_deeds.proofs.ElseLemmas.{chain_deeds, same_rest, otherwise_deeds}
use Rattle.ds2_deeds.proofs.statement_deeds.+statement_deeds.Goals as goal

pub add_statement_deeds-returns-in-Empty : goal.add_statement_deeds-returns-in-Empty
add_statement_deeds-returns-in-Empty t c =
    let n = numbers_of c.args.numbers in
    let s = scope_of c.args.scope.now in
    let is = ap (λ x. with_deeds n (statement_deeds s x) c.args.deeds.now) (empty_is c.args.s.now _ c.in-Empty.is) in
    sym (is ∙ none_added n c.args.deeds.now)

pub add_statement_deeds-returns-in-Leave : goal.add_statement_deeds-returns-in-Leave
add_statement_deeds-returns-in-Leave t c =
    let n = numbers_of c.args.numbers in
    let s = scope_of c.args.scope.now in
    let is = ap (λ x. with_deeds n (statement_deeds s x) c.args.deeds.now) (leave_is c.args.s.now _ c.in-Leave.is) in
    sym (is ∙ none_added n c.args.deeds.now)

pub add_statement_deeds-returns-in-Continue : goal.add_statement_deeds-returns-in-Continue
add_statement_deeds-returns-in-Continue t c =
    let n = numbers_of c.args.numbers in
    let s = scope_of c.args.scope.now in
    let is = ap (λ x. with_deeds n (statement_deeds s x) c.args.deeds.now) (continue_is c.args.s.now _ c.in-Continue.is) in
    sym (is ∙ none_added n c.args.deeds.now)

pub add_statement_deeds-returns-in-Return : goal.add_statement_deeds-returns-in-Return
add_statement_deeds-returns-in-Return t c =
    let n = numbers_of c.args.numbers in
    let s = scope_of c.args.scope.now in
    let is = ap (λ x. with_deeds n (statement_deeds s x) c.args.deeds.now) (return_is c.args.s.now _ c.in-Return.is) in
    sym (is ∙ none_added n c.args.deeds.now)

pub add_statement_deeds-returns-in_ok-add_expression_deeds-in-Assign : goal.add_statement_deeds-returns-in_ok-add_expression_deeds-in-Assign
add_statement_deeds-returns-in_ok-add_expression_deeds-in-Assign t c =
    let n = numbers_of c.args.numbers in
    let s = scope_of c.args.scope.now in
    let is = ap (λ x. with_deeds n (statement_deeds s x) c.args.deeds.now) (assign_is c.args.s.now _ _ _ c.in-Assign.is) in
    on_ok_weaker c.add_set.result (λ e. two_added n _ _ _ _ _ c.in_ok-add_expression_deeds-in-Assign.ensures e ∙ sym is) c.add_set.ensures

pub add_statement_deeds-returns-in_ok-add_write-in-Output : goal.add_statement_deeds-returns-in_ok-add_write-in-Output
add_statement_deeds-returns-in_ok-add_write-in-Output t c =
    let n = numbers_of c.args.numbers in
    let s = scope_of c.args.scope.now in
    let is = ap (λ x. with_deeds n (statement_deeds s x) c.args.deeds.now) (output_is c.args.s.now _ _ c.in-Output.is) in
    on_ok_weaker c.add_outputs.result (λ e. two_added n _ _ _ _ _ (c.in_ok-add_write-in-Output.ensures n) (equal_added n (λ numbers. map Mention (columns_written s numbers)) _ _ _ _ c.as_slice-in-Output.ensures e) ∙ sym is) c.add_outputs.ensures

pub add_statement_deeds-returns-in_ok-add_write-in-Put : goal.add_statement_deeds-returns-in_ok-add_write-in-Put
add_statement_deeds-returns-in_ok-add_write-in-Put t c =
    let n = numbers_of c.args.numbers in
    let s = scope_of c.args.scope.now in
    let is = ap (λ x. with_deeds n (statement_deeds s x) c.args.deeds.now) (put_is c.args.s.now _ _ c.in-Put.is) in
    on_ok_weaker c.add_items_deeds.result (λ e. two_added n _ _ _ _ _ (c.in_ok-add_write-in-Put.ensures n) (equal_added n (λ (l : List PutItem). item_deeds s (map item_tree l)) _ _ _ _ c.as_slice-in-Put.ensures e) ∙ sym is) c.add_items_deeds.ensures

pub add_statement_deeds-returns-in_ok-add_expression_deeds-in-While : goal.add_statement_deeds-returns-in_ok-add_expression_deeds-in-While
add_statement_deeds-returns-in_ok-add_expression_deeds-in-While t c =
    let n = numbers_of c.args.numbers in
    let s = scope_of c.args.scope.now in
    let is = ap (λ x. with_deeds n (statement_deeds s x) c.args.deeds.now) (while_is c.args.s.now _ _ _ c.in-While.is) in
    on_ok_weaker c.add_body_deeds-in-While.result (λ e. two_added n _ _ _ _ _ c.in_ok-add_expression_deeds-in-While.ensures (equal_added n (λ (l : List code_statement.Statement). body_deeds s (all_statements (map typed_statement l))) _ _ _ _ c.as_slice-in-While.ensures e) ∙ sym is) c.add_body_deeds-in-While.ensures

pub add_statement_deeds-returns-in_ok-add_expression_deeds-in-Until : goal.add_statement_deeds-returns-in_ok-add_expression_deeds-in-Until
add_statement_deeds-returns-in_ok-add_expression_deeds-in-Until t c =
    let n = numbers_of c.args.numbers in
    let s = scope_of c.args.scope.now in
    let is = ap (λ x. with_deeds n (statement_deeds s x) c.args.deeds.now) (until_is c.args.s.now _ _ _ c.in-Until.is) in
    on_ok_weaker c.add_body_deeds-in-Until.result (λ e. two_added n _ _ _ _ _ c.in_ok-add_expression_deeds-in-Until.ensures (equal_added n (λ (l : List code_statement.Statement). body_deeds s (all_statements (map typed_statement l))) _ _ _ _ c.as_slice-in-Until.ensures e) ∙ sym is) c.add_body_deeds-in-Until.ensures

pub add_statement_deeds-returns-in_ok-add_set-in-Count : goal.add_statement_deeds-returns-in_ok-add_set-in-Count
add_statement_deeds-returns-in_ok-add_set-in-Count t c =
    let n = numbers_of c.args.numbers in
    let s = scope_of c.args.scope.now in
    let is = ap (λ x. with_deeds n (statement_deeds s x) c.args.deeds.now) (count_is c.args.s.now _ _ _ _ _ _ c.in-Count.is) in
    let body = on_ok_weaker c.add_body_deeds-in-Count.result (λ e. equal_added n (λ (l : List code_statement.Statement). body_deeds s (all_statements (map typed_statement l))) _ _ _ _ c.as_slice-in-Count.ensures e) c.add_body_deeds-in-Count.ensures in
    let bounds = two_added n _ _ _ _ _ c.in_ok-add_expression_deeds-in-Count.ensures c.in_ok-add_expression_deeds-in-Count-2.ensures in
    let head = two_added n _ _ _ _ _ (two_added n _ _ _ _ _ bounds c.in_ok-add_step_deeds-in-Count.ensures) c.in_ok-add_set-in-Count.ensures in
    on_ok_weaker c.add_body_deeds-in-Count.result (λ e. two_added n _ _ _ _ _ head e ∙ sym is) body

pub add_statement_deeds-returns-in_ok-add_arms_deeds-in-If : goal.add_statement_deeds-returns-in_ok-add_arms_deeds-in-If
add_statement_deeds-returns-in_ok-add_arms_deeds-in-If t c =
    let n = numbers_of c.args.numbers in
    let s = scope_of c.args.scope.now in
    let is = ap (λ x. with_deeds n (statement_deeds s x) c.args.deeds.now) (if_is c.args.s.now _ _ _ _ _ c.in-If.is) in
    let o = last_tree c.in-If.otherwise in
    let on = equal_added n (λ (x : code_statement.Statement). statement_deeds s (typed_statement x)) _ _ _ _ c.deref.ensures c.in_ok-add_statement_deeds-in-If.ensures in
    let rest = same_rest n s (λ (l : List code_arm.Arm). in_a_row (map arm_tree l) o) _ _ _ c.as_slice-in-If.ensures in
    on_ok_weaker c.add_last_deeds.result
    (λ e. e ∙ c.in_ok-add_arms_deeds-in-If.ensures o ∙ rest ∙ sym (is ∙ chain_deeds n s c.in-If.place (typed_expression c.in-If.condition) (typed_statement c.in-If.then.value) (in_a_row (map arm_tree c.in-If.others) o) _ _ _ c.in_ok-add_expression_deeds-in-If.ensures on)) c.add_last_deeds.ensures

pub add_arm_deeds-returns : goal.add_arm_deeds-returns
add_arm_deeds-returns t c rest =
    let n = numbers_of c.args.numbers in
    let s = scope_of c.args.scope.now in
    let a = c.args.arm.now in
    let whole = ap (λ x. with_deeds n (else_deeds s x) c.args.deeds.now) (arm_is a rest) in
    on_ok_weaker c.add_statement_deeds.result
    (λ e. ap (λ d. with_deeds n (else_deeds s rest) d) e ∙ sym (whole ∙ chain_deeds n s a.place (typed_expression a.condition) (typed_statement a.then) rest _ _ _ c.in_ok-add_expression_deeds.ensures refl)) c.add_statement_deeds.ensures

pub add_when_deeds-returns : goal.add_when_deeds-returns
add_when_deeds-returns t c rest =
    let n = numbers_of c.args.numbers in
    let s = scope_of c.args.scope.now in
    let w = c.args.when.now in
    let tests = equal_added n (λ (l : List code_expression.Expression). expressions_deeds s (all_expressions (map typed_expression l))) _ _ _ _ c.as_slice.ensures c.in_ok-add_expressions_deeds.ensures in
    let whole = ap (λ x. with_deeds n (when_deeds s x) c.args.deeds.now) (when_is w rest) in
    on_ok_weaker c.add_statement_deeds.result
    (λ e. two_added n _ _ _ _ _ (two_added n _ _ _ _ _ tests e) refl ∙ sym whole) c.add_statement_deeds.ensures

pub add_arms_deeds-returns : goal.add_arms_deeds-returns
add_arms_deeds-returns t c rest = grind (arith, common_steps, c.arms.invariant rest)

pub add_body_deeds-returns : goal.add_body_deeds-returns
add_body_deeds-returns t c = grind (arith, common_steps, none_added (numbers_of c.args.numbers) c.body.deeds, c.body.invariant)

pub add_body_deeds-body-preserved : goal.add_body_deeds-body-preserved
add_body_deeds-body-preserved t c =
    let n = numbers_of c.args.numbers in
    let s = scope_of c.args.scope.now in
    let k = both_added n (statement_deeds s (typed_statement c.s-item.result)) (body_deeds s (all_statements (map typed_statement (drop (c.body.s-index + 1) c.args.body.now)))) c.body.deeds in
    grind (arith, common_steps, k, c.in_ok-add_statement_deeds.ensures, c.body.invariant)

pub add_last_deeds-returns-in-None : goal.add_last_deeds-returns-in-None
add_last_deeds-returns-in-None t c =
    sym (ap (λ o. with_deeds (numbers_of c.args.numbers) (else_deeds (scope_of c.args.scope.now) (last_tree o)) c.args.deeds.now) c.in-None.is ∙ none_added (numbers_of c.args.numbers) c.args.deeds.now)

pub add_whens_deeds-returns : goal.add_whens_deeds-returns
add_whens_deeds-returns t c rest = grind (arith, common_steps, c.whens.invariant rest)

pub add_statement_deeds-returns-in_ok-add_whens_deeds-in-Select : goal.add_statement_deeds-returns-in_ok-add_whens_deeds-in-Select
add_statement_deeds-returns-in_ok-add_whens_deeds-in-Select t c =
    let n = numbers_of c.args.numbers in
    let s = scope_of c.args.scope.now in
    let is = ap (λ x. with_deeds n (statement_deeds s x) c.args.deeds.now) (select_is c.args.s.now _ _ _ c.in-Select.is) in
    let o = last_tree c.in-Select.otherwise in
    let whens = equal_added n (λ (l : List code_when.When). when_deeds s (in_a_row (map when_tree l) (otherwise_part o))) _ _ _ _ c.as_slice-in-Select.ensures
    (c.in_ok-add_whens_deeds-in-Select.ensures (otherwise_part o)) in
    on_ok_weaker c.add_last_deeds-in-Select.result (λ e. e ∙ otherwise_deeds n s o _ ∙ whens ∙ sym is) c.add_last_deeds-in-Select.ensures

pub add_statement_deeds-returns-in_ok-add_whens_deeds-in-SelectValue : goal.add_statement_deeds-returns-in_ok-add_whens_deeds-in-SelectValue
add_statement_deeds-returns-in_ok-add_whens_deeds-in-SelectValue t c =
    let n = numbers_of c.args.numbers in
    let s = scope_of c.args.scope.now in
    let is = ap (λ x. with_deeds n (statement_deeds s x) c.args.deeds.now) (select_value_is c.args.s.now _ _ _ _ c.in-SelectValue.is) in
    let o = last_tree c.in-SelectValue.otherwise in
    let whens = equal_added n (λ (l : List code_when.When). when_deeds s (in_a_row (map when_tree l) (otherwise_part o))) _ _ _ _ c.as_slice-in-SelectValue.ensures
    (c.in_ok-add_whens_deeds-in-SelectValue.ensures (otherwise_part o)) in
    on_ok_weaker c.add_last_deeds-in-SelectValue.result
    (λ e. two_added n _ _ _ _ _ c.in_ok-add_expression_deeds-in-SelectValue.ensures (e ∙ otherwise_deeds n s o _ ∙ whens) ∙ sym is) c.add_last_deeds-in-SelectValue.ensures
