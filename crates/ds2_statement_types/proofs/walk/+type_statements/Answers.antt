use Rattle.std.proofs.Common.{◌≡◌, List, ◌++◌, [], Option, Ok, None, map, refl, sym, ap, ◌∙◌, subst, arith}
use Rattle.std.specs.Option.{option_map}
use Rattle.ds2_meaning.specs.TypedStatement as typed
use Rattle.ds2_meaning.specs.View.{typed_expression, typed_statement}
use Rattle.ds2_names.specs.NameRules.{from_each}
use Rattle.ds2_names.specs.Uses.{callee_place, first_place}
use Rattle.ds2_token.specs.declared.token.Token.{Token}
use Rattle.ds2_tree.specs.ExpressionViews.{expression_tree, arguments_of}
use Rattle.ds2_tree.specs.StatementViews.{selector_tree, control_tree, statement_tree, whens_of, otherwise_tree}
use Rattle.ds2_tree.specs.Statements as s
use Rattle.ds2_tree.specs.declared.expressions.Argument.{Argument}
use Rattle.ds2_tree.specs.declared.statements.ElseIf.{ElseIf}
use Rattle.ds2_tree.specs.declared.statements.PutItem.{PutItem}
use Rattle.ds2_tree.specs.declared.statements.Statement as code
use Rattle.ds2_tree.specs.declared.statements.When.{When}
use Rattle.ds2_elaboration.specs.ExpressionTypes.{elaborated, elaborated_arguments}
use Rattle.ds2_elaboration.specs.StatementTypes.{argument_nodes, output_numbers, call_refusals, call_node, item_refusals, item_node, written_refusals, selected_node, selector_refusals, control_refusals, otherwise_refusals}
use Rattle.ds2_elaboration.specs.Typings.{truth_refusals}
use Rattle.ds2_simple_statement_types.specs.StatementOutcomes.{IsStatementAs, AreTypedAs, StandsAs}
use Rattle.ds2_statement_types.specs.StatementParts.{own_refusals, own_node, arm_refusals, arm_form, arm_of, last_node, part_refusals, when_form, when_of}
use Rattle.ds2_statement_types.specs.TestRules.{test_rule, selector_node, IsTestRule}
use Rattle.ds2_simple_statement_types.proofs.SimpleViews.{empty_typed, leave_typed, continue_typed}
use Rattle.ds2_simple_statement_types.proofs.PartLists.{no_part, one_part, all_parts}
use Rattle.ds2_statement_types.proofs.StatementForms.{told_statement, if_whole, formed_when, select_whole, told_last, do_whole}
use Rattle.ds2_statement_types.proofs.walk.+type_statements.Goals as goal

-- ---- statements

pub statement-returns-in-Empty : goal.statement-returns-in-Empty
statement-returns-in-Empty t c = λ types m. told_statement types c.args.s.now _ c.standing.result (ap statement_tree c.in-Empty.is) (c.standing.ensures _ (empty_typed c.in-Empty.end))

pub statement-returns-in-Assignment : goal.statement-returns-in-Assignment
statement-returns-in-Assignment t c = λ types m. told_statement types c.args.s.now _ c.assignment.result (ap statement_tree c.in-Assignment.is) (c.assignment.ensures types m)

pub statement-returns-in-Call : goal.statement-returns-in-Call
statement-returns-in-Call t c = λ types m.
    told_statement types c.args.s.now _ c.call.result (ap statement_tree c.in-Call.is)
    (subst (λ (as' : List Argument). StandsAs (call_refusals types c.in-Call.callee (elaborated_arguments types (arguments_of as')))
    (call_node types (callee_place c.in-Call.callee) c.in-Call.callee (elaborated_arguments types (arguments_of as'))) c.call.result) c.as_slice.ensures (c.call.ensures types m))

pub statement-returns-in-Leave : goal.statement-returns-in-Leave
statement-returns-in-Leave t c = λ types m. told_statement types c.args.s.now _ c.standing-in-Leave.result (ap statement_tree c.in-Leave.is) (c.standing-in-Leave.ensures _ (leave_typed c.in-Leave.keyword.place))

pub statement-returns-in-Continue : goal.statement-returns-in-Continue
statement-returns-in-Continue t c = λ types m. told_statement types c.args.s.now _ c.standing-in-Continue.result (ap statement_tree c.in-Continue.is) (c.standing-in-Continue.ensures _ (continue_typed c.in-Continue.keyword.place))

pub statement-returns-in-Return : goal.statement-returns-in-Return
statement-returns-in-Return t c = λ types m. told_statement types c.args.s.now _ c.return_statement.result (ap statement_tree c.in-Return.is) (c.return_statement.ensures types m)

pub statement-returns-in-Output : goal.statement-returns-in-Output
statement-returns-in-Output t c = λ types m.
    told_statement types c.args.s.now _ c.output.result (ap statement_tree c.in-Output.is)
    (subst (λ (l : List Token). StandsAs (from_each (written_refusals types) l) (typed.Output c.in-Output.keyword.place (output_numbers types.outputs l)) c.output.result) c.as_slice-in-Output.ensures
    (c.output.ensures types m))

pub statement-returns-in-Put : goal.statement-returns-in-Put
statement-returns-in-Put t c = λ types m.
    told_statement types c.args.s.now _ c.put.result (ap statement_tree c.in-Put.is)
    (subst (λ (l : List PutItem). StandsAs (from_each (item_refusals types) l) (typed.Put c.in-Put.keyword.place (map (item_node types) l)) c.put.result) c.as_slice-in-Put.ensures
    (c.put.ensures types m.names))

pub statement-returns-in_ok-test-in-If : goal.statement-returns-in_ok-test-in-If
statement-returns-in_ok-test-in-If t c = λ types m.
    let e = expression_tree c.in-If.e in
    let on = c.in-If.then.value in
    let others = c.in-If.others in
    let last = otherwise_tree c.in-If.otherwise in
    let test = truth_refusals (first_place e) (elaborated types e) in
    let first = subst (λ (x : code.Statement). IsStatementAs (own_refusals types x) (own_node types x) c.in_ok-first-in-If.first) c.deref.ensures (c.in_ok-first-in-If.ensures types m) in
    let further =
    subst (λ (xs : List ElseIf). AreTypedAs arm_of (from_each (arm_refusals types) xs) (map (arm_form types) xs) c.in_ok-further-in-If.further) c.as_slice-in-If.ensures
    (c.in_ok-further-in-If.ensures types m) in
    if_whole types c.args.s.now _ _ _ _ _ _ c.chained_if.result c.in-If.is
    (c.chained_if.ensures (test ++ own_refusals types on) (from_each (arm_refusals types) others) (otherwise_refusals types last) (elaborated types e).node (own_node types on)
    (map (arm_form types) others) (last_node types last)
    (c.head.ensures test (own_refusals types on) (elaborated types e).node (own_node types on) (c.in_ok-test-in-If.ensures types m.names) first) further (c.in_ok-ending-in-If.ensures types m))

pub statement-returns-in_ok-selected-in-Select : goal.statement-returns-in_ok-selected-in-Select
statement-returns-in_ok-selected-in-Select t c = λ types m.
    let rule = c.in_ok-rule-in-Select.rule in
    let parts = c.in-Select.parts in
    let selector = option_map selector_tree c.in-Select.value in
    let last = otherwise_tree c.in-Select.otherwise in
    let forms =
    subst (λ (ws : List When). AreTypedAs when_of (from_each (part_refusals types (test_rule rule.beside)) ws) (map (when_form types rule.decimals) ws) c.in_ok-forms-in-Select.forms)
    c.as_slice-in-Select-2.ensures (c.in_ok-forms-in-Select.ensures types m) in
    let ruled = subst (λ (ws : List When). IsTestRule types selector (whens_of ws) rule) c.as_slice-in-Select.ensures (c.in_ok-rule-in-Select.ensures types m.names) in
    select_whole types c.args.s.now _ _ _ _ _ _ _ rule c.selection.result c.in-Select.is ruled
    (c.selection.ensures (selector_refusals types selector) (from_each (part_refusals types (test_rule rule.beside)) parts) (otherwise_refusals types last) (selector_node types rule.decimals selector)
    (map (when_form types rule.decimals) parts) (last_node types last) (c.in_ok-selected-in-Select.ensures types m.names) forms (c.in_ok-ending-in-Select.ensures types m))

pub statement-returns-in_ok-looped-in-Do : goal.statement-returns-in_ok-looped-in-Do
statement-returns-in_ok-looped-in-Do t c = λ types m.
    let k = control_tree c.in-Do.kind in
    let body = c.in-Do.body in
    let inner =
    subst (λ (ss : List code.Statement). AreTypedAs typed_statement (from_each (own_refusals types) ss) (map (own_node types) ss) c.in_ok-inner-in-Do.inner) c.as_slice-in-Do.ensures
    (c.in_ok-inner-in-Do.ensures types m) in
    do_whole types c.args.s.now _ _ _ _ _ _ c.do_statement.result c.in-Do.is
    (c.do_statement.ensures types k (control_refusals types k) (from_each (own_refusals types) body) (map (own_node types) body) (c.in_ok-looped-in-Do.ensures types m.names) inner)

-- ---- parts

pub else_if-returns : goal.else_if-returns
else_if-returns t c = λ types m.
    let x = c.args.x.now in
    let e = expression_tree x.condition in
    c.arm.ensures (truth_refusals (first_place e) (elaborated types e)) (own_refusals types x.then) (elaborated types e).node (own_node types x.then) (c.in_ok-test.ensures types m.names)
    (c.in_ok-first.ensures types m)

pub arms-others-init : goal.arms-others-init
arms-others-init t c = λ types m. no_part arm_of (arm_refusals types) (arm_form types) c.args.others.now c.new.result c.new.ensures

pub arms-others-preserved : goal.arms-others-preserved
arms-others-preserved t c = λ types m.
    one_part arm_of (arm_refusals types) (arm_form types) c.args.others.now c.others.x-index c.x-item.result c.others.all c.in_ok-all.all c.in_ok-one.one (omega arith) c.x-item.is
    (c.others.invariant types m) (c.in_ok-one.ensures types m) c.in_ok-all.ensures

pub arms-returns : goal.arms-returns
arms-returns t c = λ types m.
    all_parts arm_of (arm_refusals types) (arm_form types) c.args.others.now c.others.x-index c.others.all (omega arith) (c.others.invariant types m)

pub when-returns : goal.when-returns
when-returns t c = λ types m.
    let w = c.args.w.now in
    let rule = c.args.rule in
    let xs = elaborated_arguments types (arguments_of w.values) in
    let nodes = map (selected_node types rule.decimals) (argument_nodes xs) in
    let tests =
    subst (λ (as' : List Argument). AreTypedAs typed_expression (from_each (test_rule rule.beside) (elaborated_arguments types (arguments_of as')))
    (map (selected_node types rule.decimals) (argument_nodes (elaborated_arguments types (arguments_of as')))) c.in_ok-values.values) c.as_slice.ensures (c.in_ok-values.ensures types m.names) in
    formed_when types rule w c.when_part.result
    (c.when_part.ensures (from_each (test_rule rule.beside) xs) (own_refusals types w.statement) nodes (own_node types w.statement) tests (c.in_ok-body.ensures types m))

pub whens-parts-init : goal.whens-parts-init
whens-parts-init t c = λ types m.
    no_part when_of (part_refusals types (test_rule c.args.rule.beside)) (when_form types c.args.rule.decimals) c.args.parts.now c.new.result c.new.ensures

pub whens-parts-preserved : goal.whens-parts-preserved
whens-parts-preserved t c = λ types m.
    one_part when_of (part_refusals types (test_rule c.args.rule.beside)) (when_form types c.args.rule.decimals) c.args.parts.now c.parts.w-index c.w-item.result c.parts.all c.in_ok-all.all
    c.in_ok-one.one (omega arith) c.w-item.is (c.parts.invariant types m) (c.in_ok-one.ensures types m) c.in_ok-all.ensures

pub whens-returns : goal.whens-returns
whens-returns t c = λ types m.
    all_parts when_of (part_refusals types (test_rule c.args.rule.beside)) (when_form types c.args.rule.decimals) c.args.parts.now c.parts.w-index c.parts.all (omega arith)
    (c.parts.invariant types m)

pub last-returns-in-None : goal.last-returns-in-None
last-returns-in-None t c = λ types m. told_last types c.args.otherwise.now s.NoOtherwise (Ok None) (ap otherwise_tree c.in-None.is) (refl, refl)

pub last-returns-in_ok-body-in-Some : goal.last-returns-in_ok-body-in-Some
last-returns-in_ok-body-in-Some t c = λ types m.
    let x = c.in-Some.part.statement.value in
    let body = subst (λ (y : code.Statement). IsStatementAs (own_refusals types y) (own_node types y) c.in_ok-body-in-Some.body) c.deref.ensures (c.in_ok-body-in-Some.ensures types m) in
    told_last types c.args.otherwise.now (s.Otherwise' c.in-Some.part.keyword (statement_tree x)) c.last_part.result (ap otherwise_tree c.in-Some.is)
    (c.last_part.ensures (own_refusals types x) (own_node types x) body)

pub statements-body-init : goal.statements-body-init
statements-body-init t c = λ types m. no_part typed_statement (own_refusals types) (own_node types) c.args.body.now c.new.result c.new.ensures

pub statements-body-preserved : goal.statements-body-preserved
statements-body-preserved t c = λ types m.
    let x = c.s-item.result in
    one_part typed_statement (own_refusals types) (own_node types) c.args.body.now c.body.s-index x c.body.all c.in_ok-all.all c.unboxed.result (omega arith) c.s-item.is
    (c.body.invariant types m) (c.unboxed.ensures (own_refusals types x) (own_node types x) (c.in_ok-one.ensures types m)) c.in_ok-all.ensures

pub statements-returns : goal.statements-returns
statements-returns t c = λ types m.
    all_parts typed_statement (own_refusals types) (own_node types) c.args.body.now c.body.s-index c.body.all (omega arith) (c.body.invariant types m)
