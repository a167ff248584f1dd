use Rattle.std.proofs.Common.{List, [], map, refl, sym, ap, ◌∙◌}
use Rattle.std.proofs.lemmas.List.{drop_all}
use Rattle.std.specs.Option.{option_map}
use Rattle.ds2_emitter.proofs.Appended.{on_ok}
use Rattle.ds2_statement_emitter.specs.Arms.{arm_tree, when_tree, last_tree}
use Rattle.ds2_statement_emitter.proofs.StatementTrees.{empty_is, assign_is, invoke_is, evaluate_is, parameters_is, leave_is, continue_is, return_is, return_value_is, output_is, put_is, if_is, select_is, select_value_is, block_is, count_is, while_is, until_is, arm_is, when_is}
use Rattle.ds2_meaning.specs.declared.expressions.Expression as code_expression
use Rattle.ds2_meaning.specs.declared.statements.Arm as code_arm
use Rattle.ds2_meaning.specs.declared.statements.ParameterSetting.{ParameterSetting}
use Rattle.ds2_meaning.specs.declared.statements.PutItem.{PutItem}
use Rattle.ds2_meaning.specs.declared.statements.Statement as code_statement
use Rattle.ds2_meaning.specs.declared.statements.When as code_when
use Rattle.ds2_meaning.specs.TypedExpression.{TypedExpressions}
use Rattle.ds2_meaning.specs.TypedStatement.{TypedStatements, When, Count, While, Until}
use Rattle.ds2_meaning.specs.View.{in_a_row, if_tree, all_expressions, all_statements, otherwise_part, typed_expression, typed_statement, item_tree, parameter_tree}
use Rattle.ds2_locality.specs.Deeds.{columns_written}
use Rattle.ds2_locality.specs.Walk.{WalkScope, read_locations, walk_values, walk_items, walk, walk_all, walk_whens}
use Rattle.ds2_deeds.specs.ElseParts.{ElsePart}
use Rattle.ds2_deeds.proofs.DeedLemmas.{drop_next}
use Rattle.ds2_recorded_walk.specs.ElseWalks.{else_walk}
use Rattle.ds2_recorded_walk.specs.KnownFlags.{first_flags}
use Rattle.ds2_recorded_walk.specs.RecordedStatements.{walk_scope}
use Rattle.ds2_recorded_walk.proofs.GoesLemmas.{gone_by, goes_past, goes_past_nothing, goes_then_past, passes_here, passed_by, statement_as, passes_whole, passes_others, statement_gone, none_to_pass}
use Rattle.ds2_recorded_walk.proofs.PartLemmas.{no_flags, leaves_loop, goes_to_next_round, returns_from, goes_no_way, branch_taken, branch_left, branch_open, arms_decided, arm_walked, arms_whole, arm_gone, no_arm_left, rest_decided, rest_walked, if_walked, when_walked, whens_whole, when_gone, no_when_left, select_walked, loop_walked, count_walked, while_walked, until_body_walked, until_walked}
use Rattle.ds2_recorded_walk.proofs.statement_walk.+statement_walk.Goals as goal

pub walk_statement-returns-in-Empty : goal.walk_statement-returns-in-Empty
walk_statement-returns-in-Empty t c =
    let s = c.args.scope.now in
    let a = c.args.walk.now in
    statement_as s (empty_is c.args.s.now _ c.in-Empty.is) (goes_past_nothing s a)

pub walk_statement-returns-in_ok-walk_expression-in-Assign : goal.walk_statement-returns-in_ok-walk_expression-in-Assign
walk_statement-returns-in_ok-walk_expression-in-Assign t c =
    let s = c.args.scope.now in
    let a = c.args.walk.now in
    on_ok c.clean_variable.result c.clean_variable.ensures (λ p. statement_as s (assign_is c.args.s.now _ _ _ c.in-Assign.is) (goes_then_past s c.in_ok-walk_expression-in-Assign.ensures (goes_past s p)))

pub walk_statement-returns-in-Invoke : goal.walk_statement-returns-in-Invoke
walk_statement-returns-in-Invoke t c =
    let s = c.args.scope.now in
    let a = c.args.walk.now in
    on_ok c.walk_call.result c.walk_call.ensures (λ p. statement_as s (invoke_is c.args.s.now _ _ c.in-Invoke.is) (goes_past s p))

pub walk_statement-returns-in-Evaluate : goal.walk_statement-returns-in-Evaluate
walk_statement-returns-in-Evaluate t c =
    let s = c.args.scope.now in
    let a = c.args.walk.now in
    on_ok c.walk_expression-in-Evaluate.result c.walk_expression-in-Evaluate.ensures (λ p. statement_as s (evaluate_is c.args.s.now _ _ c.in-Evaluate.is) (goes_past s p))

pub walk_statement-returns-in-SetParameters : goal.walk_statement-returns-in-SetParameters
walk_statement-returns-in-SetParameters t c =
    let s = c.args.scope.now in
    let a = c.args.walk.now in
    on_ok c.walk_values.result c.walk_values.ensures
    (λ p. statement_as s (parameters_is c.args.s.now _ _ _ c.in-SetParameters.is) (goes_past s (gone_by s (λ (l : List ParameterSetting) (w : WalkScope). walk_values w (map parameter_tree l) c.in-SetParameters.place) _ _ c.as_slice.ensures p)))

pub walk_statement-returns-in-Leave : goal.walk_statement-returns-in-Leave
walk_statement-returns-in-Leave t c =
    let s = c.args.scope.now in
    let a = c.args.walk.now in
    on_ok c.leave.result c.leave.ensures (λ e. statement_as s (leave_is c.args.s.now _ c.in-Leave.is) (leaves_loop s a _ e))

pub walk_statement-returns-in-Continue : goal.walk_statement-returns-in-Continue
walk_statement-returns-in-Continue t c =
    let s = c.args.scope.now in
    let a = c.args.walk.now in
    on_ok c.go_to_next_round.result c.go_to_next_round.ensures (λ e. statement_as s (continue_is c.args.s.now _ c.in-Continue.is) (goes_to_next_round s a _ e))

pub walk_statement-returns-in-Return : goal.walk_statement-returns-in-Return
walk_statement-returns-in-Return t c =
    let s = c.args.scope.now in
    let a = c.args.walk.now in
    on_ok c.return_from.result c.return_from.ensures (λ e. statement_as s (return_is c.args.s.now _ c.in-Return.is) (returns_from s a _ e))

pub walk_statement-returns-in_ok-walk_expression-in-ReturnValue : goal.walk_statement-returns-in_ok-walk_expression-in-ReturnValue
walk_statement-returns-in_ok-walk_expression-in-ReturnValue t c =
    let s = c.args.scope.now in
    let a = c.args.walk.now in
    on_ok c.return_from-in-ReturnValue.result c.return_from-in-ReturnValue.ensures
    (λ e. statement_as s (return_value_is c.args.s.now _ _ c.in-ReturnValue.is) (goes_then_past s c.in_ok-walk_expression-in-ReturnValue.ensures (returns_from s _ _ e)))

pub walk_statement-returns-in-Output : goal.walk_statement-returns-in-Output
walk_statement-returns-in-Output t c =
    let s = c.args.scope.now in
    let a = c.args.walk.now in
    on_ok c.read_outputs.result c.read_outputs.ensures
    (λ p. statement_as s (output_is c.args.s.now _ _ c.in-Output.is) (goes_past s (gone_by s (λ numbers (w : WalkScope). read_locations c.in-Output.place (columns_written w.code numbers)) _ _ c.as_slice-in-Output.ensures p)))

pub walk_statement-returns-in-Put : goal.walk_statement-returns-in-Put
walk_statement-returns-in-Put t c =
    let s = c.args.scope.now in
    let a = c.args.walk.now in
    on_ok c.walk_items.result c.walk_items.ensures
    (λ p. statement_as s (put_is c.args.s.now _ _ c.in-Put.is) (goes_past s (gone_by s (λ (l : List PutItem) (w : WalkScope). walk_items w (map item_tree l) c.in-Put.place) _ _ c.as_slice-in-Put.ensures p)))

pub walk_statement-returns-in_ok-walk_else-in-If : goal.walk_statement-returns-in_ok-walk_else-in-If
walk_statement-returns-in_ok-walk_else-in-If t c =
    let s = c.args.scope.now in
    let place = c.in-If.place in
    let condition = typed_expression c.in-If.condition in
    let last = last_tree c.in-If.otherwise in
    let chain : List code_arm.Arm → ElsePart = λ l. in_a_row (map arm_tree l) last in
    let on = typed_statement c.deref.result.now in
    let is = if_is c.args.s.now _ _ _ _ _ c.in-If.is ∙ ap (λ (x : code_statement.Statement). if_tree place condition (typed_statement x) (chain c.in-If.others)) (sym c.deref.ensures)
    ∙ ap (λ (l : List code_arm.Arm). if_tree place condition on (chain l)) (sym c.as_slice-in-If.ensures) in
    on_ok c.meet.result c.meet.ensures
    (λ e. statement_as s is
    (if_walked s _ place condition _ on (chain c.as_slice-in-If.result.now) last c.in_ok-walk_expression-in-If.ensures c.decided-truth.ensures c.new.ensures refl c.in_ok-walk_branch-in-If.ensures
    (c.in_ok-walk_arms-in-If.ensures last) c.in_ok-walk_else-in-If.ensures e))

pub walk_statement-returns-in_ok-walk_otherwise-in-Select : goal.walk_statement-returns-in_ok-walk_otherwise-in-Select
walk_statement-returns-in_ok-walk_otherwise-in-Select t c =
    let s = c.args.scope.now in
    let last = otherwise_part (last_tree c.in-Select.otherwise) in
    on_ok c.meet-in-Select.result c.meet-in-Select.ensures
    (λ e. statement_as s (select_is c.args.s.now _ _ _ c.in-Select.is) (passes_here s (λ calls. refl)
    (passed_by s (λ (l : List code_when.When) (w : WalkScope). walk_whens w (first_flags s.known.now) (in_a_row (map when_tree l) last) c.in-Select.place) _ _ c.as_slice-in-Select.ensures
    (select_walked s _ _ last c.new-ends.ensures (c.in_ok-walk_whens-in-Select.ensures last) c.in_ok-walk_otherwise-in-Select.ensures e))))

pub walk_statement-returns-in_ok-walk_otherwise-in-SelectValue : goal.walk_statement-returns-in_ok-walk_otherwise-in-SelectValue
walk_statement-returns-in_ok-walk_otherwise-in-SelectValue t c =
    let s = c.args.scope.now in
    let last = otherwise_part (last_tree c.in-SelectValue.otherwise) in
    on_ok c.meet-in-SelectValue.result c.meet-in-SelectValue.ensures
    (λ e. statement_as s (select_value_is c.args.s.now _ _ _ _ c.in-SelectValue.is) (goes_then_past s c.in_ok-walk_expression-in-SelectValue.ensures
    (passes_here s (λ calls. ap (λ known. walk_whens (walk_scope s calls) known (in_a_row (map when_tree c.in-SelectValue.whens) last) c.in-SelectValue.place) no_flags)
    (passed_by s (λ (l : List code_when.When) (w : WalkScope). walk_whens w (first_flags []) (in_a_row (map when_tree l) last) c.in-SelectValue.place) _ _ c.as_slice-in-SelectValue.ensures
    (select_walked s _ _ last c.new-ends-in-SelectValue.ensures (c.in_ok-walk_whens-in-SelectValue.ensures last) c.in_ok-walk_otherwise-in-SelectValue.ensures e)))))

pub walk_statement-returns-in-Block : goal.walk_statement-returns-in-Block
walk_statement-returns-in-Block t c =
    let s = c.args.scope.now in
    let a = c.args.walk.now in
    on_ok c.walk_body.result c.walk_body.ensures
    (λ p. statement_as s (block_is c.args.s.now _ _ c.in-Block.is) (passed_by s (λ (l : List code_statement.Statement) (w : WalkScope). walk_all w (all_statements (map typed_statement l))) _ _ c.as_slice-in-Block.ensures p))

pub walk_statement-returns-in_ok-head-in-Count : goal.walk_statement-returns-in_ok-head-in-Count
walk_statement-returns-in_ok-head-in-Count t c =
    let s = c.args.scope.now in
    let body : List code_statement.Statement → TypedStatements = λ l. all_statements (map typed_statement l) in
    on_ok c.walk_loop.result c.walk_loop.ensures
    (λ p. statement_as s (count_is c.args.s.now _ _ _ _ _ _ c.in-Count.is)
    (passed_by s (λ (l : List code_statement.Statement) (w : WalkScope). walk w (Count c.in-Count.place c.in-Count.variable (typed_expression c.in-Count.start) (typed_expression c.in-Count.end) (option_map typed_expression c.in-Count.step) (body l)))
    _ _ c.as_slice-in-Count.ensures (count_walked s c.in-Count.place c.in-Count.variable (typed_expression c.in-Count.start) (typed_expression c.in-Count.end) (option_map typed_expression c.in-Count.step)
    c.in_ok-head-in-Count.ensures.walked c.in_ok-head-in-Count.ensures.head p)))

pub walk_statement-returns-in_ok-head-in-While : goal.walk_statement-returns-in_ok-head-in-While
walk_statement-returns-in_ok-head-in-While t c =
    let s = c.args.scope.now in
    let body : List code_statement.Statement → TypedStatements = λ l. all_statements (map typed_statement l) in
    on_ok c.walk_loop-in-While.result c.walk_loop-in-While.ensures
    (λ p. statement_as s (while_is c.args.s.now _ _ _ c.in-While.is)
    (passed_by s (λ (l : List code_statement.Statement) (w : WalkScope). walk w (While c.in-While.place (typed_expression c.in-While.condition) (body l))) _ _ c.as_slice-in-While.ensures
    (while_walked s c.in-While.place (typed_expression c.in-While.condition) c.in_ok-head-in-While.ensures.head c.in_ok-head-in-While.ensures.walked p)))

pub walk_statement-returns-in_ok-walk_expression-in-Until : goal.walk_statement-returns-in_ok-walk_expression-in-Until
walk_statement-returns-in_ok-walk_expression-in-Until t c =
    let s = c.args.scope.now in
    let body : List code_statement.Statement → TypedStatements = λ l. all_statements (map typed_statement l) in
    on_ok c.meet-in-Until.result c.meet-in-Until.ensures
    (λ e. statement_as s (until_is c.args.s.now _ _ _ c.in-Until.is)
    (passed_by s (λ (l : List code_statement.Statement) (w : WalkScope). walk w (Until c.in-Until.place (typed_expression c.in-Until.condition) (body l))) _ _ c.as_slice-in-Until.ensures
    (until_walked s _ c.in-Until.place (typed_expression c.in-Until.condition) c.in_ok-left-in-Until.ensures c.in_ok-walk_expression-in-Until.ensures e)))

-- ---- chains

pub walk_branch-returns-in_ok-walk_statement-in-Yes : goal.walk_branch-returns-in_ok-walk_statement-in-Yes
walk_branch-returns-in_ok-walk_statement-in-Yes t c =
    branch_taken c.args.scope.now c.args.branches.now c.args.truth (typed_statement c.args.then.now) c.in-Yes.is c.in_ok-walk_statement-in-Yes.ensures

pub walk_branch-returns-in-No : goal.walk_branch-returns-in-No
walk_branch-returns-in-No t c = branch_left c.args.scope.now c.args.walk.now c.args.branches.now c.args.truth (typed_statement c.args.then.now) c.in-No.is

pub walk_branch-returns-in_ok-branches-in-Unknown : goal.walk_branch-returns-in_ok-branches-in-Unknown
walk_branch-returns-in_ok-branches-in-Unknown t c =
    let s = c.args.scope.now in
    branch_open s _ c.args.branches.now _ _ _ c.args.truth (typed_statement c.args.then.now) c.in-Unknown.is c.in_ok-walk_statement-in-Unknown.ensures
    c.in_ok-before-in-Unknown.ensures c.go_on_from-end.ensures.before c.go_on_from-end.ensures.now c.in_ok-branches-in-Unknown.ensures

pub walk_arm-returns-then-branches : goal.walk_arm-returns-then-branches
walk_arm-returns-then-branches t c rest = arms_decided c.args.scope.now c.args.walk.now c.args.branches.now rest _ c.if-branches.true

pub walk_arm-returns : goal.walk_arm-returns
walk_arm-returns t c rest =
    let s = c.args.scope.now in
    let arm = c.args.arm.now in
    on_ok c.walk_branch.result c.walk_branch.ensures
    (λ q. arm_walked s arm.place (typed_expression arm.condition) _ (typed_statement arm.then) rest _ (arm_is arm rest) c.if-branches.false c.in_ok-walk_expression.ensures c.decided-truth.ensures q)

pub walk_arms-arms-init : goal.walk_arms-arms-init
walk_arms-arms-init t c = λ rest. arms_whole c.args.scope.now c.args.walk.now c.args.branches.now _

pub walk_arms-arms-preserved : goal.walk_arms-arms-preserved
walk_arms-arms-preserved t c = λ rest.
    arm_gone c.args.scope.now (λ (l : List code_arm.Arm). in_a_row (map arm_tree l) rest) _ _ c.arm-item.result (drop_next c.args.arms.now c.arms.arm-index c.arm-item.result c.arms-test.true c.arm-item.is)
    (c.arms.invariant rest) (c.in_ok-walk_arm.ensures _)

pub walk_arms-returns : goal.walk_arms-returns
walk_arms-returns t c rest = no_arm_left c.args.scope.now (λ (l : List code_arm.Arm). in_a_row (map arm_tree l) rest) _ (drop_all c.arms.arm-index c.args.arms.now c.arms-test.false) (c.arms.invariant rest)

pub walk_else-returns-then-is_decided : goal.walk_else-returns-then-is_decided
walk_else-returns-then-is_decided t c = rest_decided c.args.scope.now c.args.walk.now c.args.is_decided _ c.if-is_decided.true

pub walk_else-returns-in-None : goal.walk_else-returns-in-None
walk_else-returns-in-None t c =
    let s = c.args.scope.now in
    rest_walked s c.args.is_decided (last_tree c.args.otherwise.now) c.if-is_decided.false
    (passed_by s (λ (o : ElsePart) (w : WalkScope). else_walk w o) _ _ (sym (ap last_tree c.in-None.is)) (goes_past_nothing s c.args.walk.now))

pub walk_else-returns-in-Some : goal.walk_else-returns-in-Some
walk_else-returns-in-Some t c =
    let s = c.args.scope.now in
    on_ok c.walk_statement.result c.walk_statement.ensures
    (λ p. rest_walked s c.args.is_decided (last_tree c.args.otherwise.now) c.if-is_decided.false
    (passed_by s (λ (o : ElsePart) (w : WalkScope). else_walk w o) _ _ (sym (ap last_tree c.in-Some.is))
    (passed_by s (λ (x : code_statement.Statement) (w : WalkScope). walk w (typed_statement x)) _ _ c.deref.ensures p)))

-- ---- the parts of a `select`

pub walk_when-returns : goal.walk_when-returns
walk_when-returns t c rest =
    let s = c.args.scope.now in
    let w = c.args.when.now in
    let on = typed_statement w.then in
    let tests : List code_expression.Expression → TypedExpressions = λ l. all_expressions (map typed_expression l) in
    let is = when_is w rest ∙ ap (λ (l : List code_expression.Expression). When (tests l) on rest) (sym c.as_slice.ensures) in
    when_walked s _ _ _ _ c.args.ends.now _ c.args.known.now c.args.place (tests c.as_slice.result.now) on rest _
    c.in_ok-holding.ensures c.go_on_from-failing.ensures.before c.go_on_from-failing.ensures.now c.in_ok-walk_statement.ensures c.go_on_from-end.ensures.before c.go_on_from-end.ensures.now c.in_ok-ends.ensures is

pub walk_otherwise-returns-in-None : goal.walk_otherwise-returns-in-None
walk_otherwise-returns-in-None t c =
    let s = c.args.scope.now in
    passed_by s (λ (o : ElsePart) (w : WalkScope). walk_whens w (first_flags c.args.known.now) (otherwise_part o) c.args.place) _ _ (sym (ap last_tree c.in-None.is))
    (goes_no_way s c.args.walk.now _ (ap (λ x. record c.args.walk.now { onward = x }) c.new.ensures))

pub walk_otherwise-returns-in-Some : goal.walk_otherwise-returns-in-Some
walk_otherwise-returns-in-Some t c =
    let s = c.args.scope.now in
    on_ok c.walk_statement.result c.walk_statement.ensures
    (λ p. passed_by s (λ (o : ElsePart) (w : WalkScope). walk_whens w (first_flags c.args.known.now) (otherwise_part o) c.args.place) _ _ (sym (ap last_tree c.in-Some.is))
    (passed_by s (λ (x : code_statement.Statement) (w : WalkScope). walk w (typed_statement x)) _ _ c.deref.ensures p))

pub walk_whens-whens-init : goal.walk_whens-whens-init
walk_whens-whens-init t c = λ rest. whens_whole c.args.scope.now c.args.walk.now c.args.ends.now c.args.known.now c.args.place _

pub walk_whens-whens-preserved : goal.walk_whens-whens-preserved
walk_whens-whens-preserved t c = λ rest.
    when_gone c.args.scope.now (λ (l : List code_when.When). in_a_row (map when_tree l) rest) _ _ c.when-item.result (drop_next c.args.whens.now c.whens.when-index c.when-item.result c.whens-test.true c.when-item.is)
    (c.whens.invariant rest) (c.in_ok-walk_when.ensures _)

pub walk_whens-returns : goal.walk_whens-returns
walk_whens-returns t c rest = no_when_left c.args.scope.now (λ (l : List code_when.When). in_a_row (map when_tree l) rest) _ (drop_all c.whens.when-index c.args.whens.now c.whens-test.false) (c.whens.invariant rest)

-- ---- loops

pub walk_loop-returns : goal.walk_loop-returns
walk_loop-returns t c =
    loop_walked c.args.scope.now c.args.walk.now _ _ _ _ c.args.head (all_statements (map typed_statement c.args.body.now)) c.new.ensures c.change_loop-around.ensures.before c.change_loop-around.ensures.now
    c.in_ok-walk_body.ensures c.change_loop-inner.ensures.now

pub walk_until_body-returns : goal.walk_until_body-returns
walk_until_body-returns t c =
    until_body_walked c.args.scope.now c.args.walk.now _ _ _ _ _ _ (all_statements (map typed_statement c.args.body.now)) c.new.ensures c.change_loop-around.ensures.before c.change_loop-around.ensures.now
    c.in_ok-walk_body.ensures c.change_loop-leaves.ensures.before c.change_loop-leaves.ensures.now c.in_ok-meet.ensures

-- ---- statements in order

pub walk_body-body-init : goal.walk_body-body-init
walk_body-body-init t c = passes_whole c.args.scope.now c.args.walk.now _

pub walk_body-body-preserved : goal.walk_body-body-preserved
walk_body-body-preserved t c =
    let s = c.args.scope.now in
    statement_gone s (λ (l : List code_statement.Statement) (w : WalkScope). walk_all w (all_statements (map typed_statement l))) _ _ c.s-item.result
    (drop_next c.args.body.now c.body.s-index c.s-item.result c.body-test.true c.s-item.is) c.body.invariant (passes_others s _ c.in_ok-walk_statement.ensures)

pub walk_body-returns : goal.walk_body-returns
walk_body-returns t c =
    none_to_pass c.args.scope.now (λ (l : List code_statement.Statement) (w : WalkScope). walk_all w (all_statements (map typed_statement l))) _ (drop_all c.body.s-index c.args.body.now c.body-test.false) refl c.body.invariant
