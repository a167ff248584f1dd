-- What becomes of the statements of a method: the rules of types that they break, and their typed statements.
use Rattle.std.specs.Prelude.{ℕ, Bool, true, false, ◌&&◌, ◌||◌, bytes_eq, codes, if◌then◌else◌, List, [], ◌∷◌, ◌++◌, length, map, position, unwrap_or, Option, Some, None}
use Rattle.std.specs.List.{list_any, range_with_len}
use Rattle.ds2_base.specs.declared.place.Place.{Place}
use Rattle.ds2_token.specs.Limits.{text_content}
use Rattle.ds2_token.specs.Words.{is_word}
use Rattle.ds2_token.specs.declared.token.Token.{Token}
use Rattle.ds2_tree.specs.Expressions.{Expression}
use Rattle.ds2_tree.specs.Globals.{Method}
use Rattle.ds2_tree.specs.Statements as s
use Rattle.ds2_tree.specs.declared.expressions.Callee.{Callee}
use Rattle.ds2_tree.specs.declared.expressions.Callee.TheVariants as callee
use Rattle.ds2_tree.specs.declared.statements.PutItem.{PutItem}
use Rattle.ds2_tree.specs.declared.statements.PutItem.TheVariants as item
use Rattle.ds2_value.specs.declared.ty.Ty.{Ty}
use Rattle.ds2_names.specs.SourceUnit.{spelled_name}
use Rattle.ds2_meaning.specs.declared.location.Reference.{Reference}
use Rattle.ds2_meaning.specs.declared.refusals.TypeKind.TheVariants.{TypeClash}
use Rattle.ds2_names.specs.NameRules.{from_each}
use Rattle.ds2_meaning.specs.ProgramTree.{is_listed}
use Rattle.ds2_meaning.specs.TypedExpression.{TypedExpression}
use Rattle.ds2_meaning.specs.TypedStatement as t
use Rattle.ds2_names.specs.Uses.{callee_place, first_place, method_named}
use Rattle.ds2_elaboration.specs.ExpressionTypes.{TypeScope, ObjectCalls, InstanceCalls, ParameterCalls, KnownVariable, variable_typing, known_variable, elaborated_variable, elaborated_member, object_in_scope, is_settable_reference, reference_or_none, number_of_method, arguments_for, values_for, elaborated_instance_call, elaborated_object_call, elaborated_call, elaborated, elaborated_arguments}
use Rattle.ds2_elaboration.specs.FunctionTypes.{ElaboratedArgument, nodes_in_order}
use Rattle.ds2_elaboration.specs.OperatorTypes.{is_known_decimal}
use Rattle.ds2_elaboration.specs.SourceTypes.{elaborated_parameters}
use Rattle.ds2_elaboration.specs.Typings.{TypeRefusals, type_refusal_at, clash_unless, Typing, Known, ElaboratedExpression, is_integer_type, are_comparable, where_known, where_both_known, null_clash, operand_clash, truth_refusals, assigned_refusals, widened_node, assigned_node}

-- ---- parts of statements

-- arguments in a list, as typed expressions
abbrev pub argument_nodes : List ElaboratedArgument → List TypedExpression
argument_nodes xs = map (λ (x : ElaboratedArgument). x.value.node) xs

-- start, end and step of a counted loop are BIGINT, else TypeClash at their own first token
abbrev pub bound_refusals : Place → ElaboratedExpression → TypeRefusals
bound_refusals first_token x = x.refusals ++ operand_clash is_integer_type first_token x.typing

-- a test of a `select;` is a condition
abbrev pub condition_test_refusals : ElaboratedArgument → TypeRefusals
condition_test_refusals x = truth_refusals x.place x.value

-- a test of a `select (e)` is a number where e is one and a text where e is one, else TypeClash at its first token; null may not
-- stand there
abbrev pub value_test_refusals : Typing → ElaboratedArgument → TypeRefusals
value_test_refusals selected x =
    x.value.refusals ++ null_clash x.value.typing ++ where_both_known selected x.value.typing (λ a b. clash_unless (are_comparable a b) x.place)

-- the numbers of the outputs that `output` writes to, from 0: all of them where it names none
abbrev pub output_numbers : List (List ℕ) → List Token → List ℕ
output_numbers outputs [] = range_with_len 0 (length outputs)
output_numbers outputs (table ∷ tables) =
    map (λ (t : Token). unwrap_or (position (λ name. bytes_eq name (spelled_name t)) outputs) 0) (table ∷ tables)

-- a variable, where it may be set
abbrev pub settable_variable : Option KnownVariable → Option KnownVariable
settable_variable None = None
settable_variable (Some v) = if is_settable_reference v.reference then Some v else None

-- what the assignment of a value breaks: the rule of the target's type, where it is known, else those of the target and of the value
abbrev pub target_refusals : Place → TypeRefusals → ElaboratedExpression → Typing → TypeRefusals
target_refusals place own x (Known ty) = assigned_refusals ty place x
target_refusals place own x _ = own ++ x.refusals

module _ (scope : TypeScope) where
  -- the variable that a token stands for, where it may be set
  abbrev pub target_of : Token → Option KnownVariable
  target_of name = settable_variable (known_variable scope (spelled_name name))

  -- a value is assigned to a target of its type, where that is known, else TypeClash at the target; what may not be set is refused by
  -- the rules of names
  abbrev pub assignment_refusals : Place → Option KnownVariable → ElaboratedExpression → TypeRefusals
  assignment_refusals place None x = type_refusal_at TypeClash place
  assignment_refusals place (Some v) x = target_refusals place v.refusals x (variable_typing v)

  -- target = value;
  abbrev pub assignment_node : Place → Option KnownVariable → ElaboratedExpression → t.TypedStatement
  assignment_node place None x = t.Empty place
  assignment_node place (Some v) x = t.Assign place v.reference (assigned_node v.ty x)

  -- ---- calls as statements

  -- what a call of a method of an instance as a statement breaks; the method need not return a value
  abbrev pub instance_call_refusals : Token → Token → List Method → List ElaboratedArgument → Option Method → TypeRefusals
  instance_call_refusals object name methods xs (Some method) = (arguments_for name.place (elaborated_parameters method) xs).refusals
  instance_call_refusals object name methods xs None = (elaborated_instance_call object name methods xs None).refusals

  -- what a call on an object as a statement breaks
  abbrev pub object_call_refusals : Token → Token → List ElaboratedArgument → Option ObjectCalls → TypeRefusals
  object_call_refusals object name xs (Some (InstanceCalls methods)) = instance_call_refusals object name methods xs (method_named methods (spelled_name name))
  object_call_refusals object name xs (Some (ParameterCalls parameters)) = (values_for name.place parameters xs).refusals
  object_call_refusals object name xs calls = (elaborated_object_call object name xs calls).refusals

  -- a call of a method of an instance as a statement
  abbrev pub instance_call_node : Place → Token → Token → List Method → List ElaboratedArgument → Option Method → t.TypedStatement
  instance_call_node place object name methods xs (Some method) =
      t.Invoke place (Some (spelled_name object)) (number_of_method methods (spelled_name name)) (arguments_for name.place (elaborated_parameters method) xs).arguments
  instance_call_node place object name methods xs None = t.Evaluate place (elaborated_instance_call object name methods xs None).node

  -- a call on an object as a statement
  abbrev pub object_call_node : Place → Token → Token → List ElaboratedArgument → Option ObjectCalls → t.TypedStatement
  object_call_node place object name xs (Some (InstanceCalls methods)) = instance_call_node place object name methods xs (method_named methods (spelled_name name))
  object_call_node place object name xs (Some (ParameterCalls parameters)) = t.SetParameters place (spelled_name object) (values_for name.place parameters xs).values
  object_call_node place object name xs calls = t.Evaluate place (elaborated_object_call object name xs calls).node

  -- what a call of a name as a statement breaks, where it calls this method or none; the method need not return a value
  abbrev pub named_call_refusals : Token → List ElaboratedArgument → Option Method → TypeRefusals
  named_call_refusals name xs (Some method) = (arguments_for name.place (elaborated_parameters method) xs).refusals
  named_call_refusals name xs None = (elaborated_call scope (callee.Function name) xs).refusals

  -- what a call as a statement breaks
  abbrev pub call_refusals : Callee → List ElaboratedArgument → TypeRefusals
  call_refusals (callee.Function name) xs = named_call_refusals name xs (method_named scope.methods (spelled_name name))
  call_refusals (callee.Null keyword) xs = (elaborated_call scope (callee.Null keyword) xs).refusals
  call_refusals (callee.Method object dot method) xs = object_call_refusals object method xs (object_in_scope scope (spelled_name object))

  -- a call of a name as a statement: of a method, or of a function, whose value is dropped
  abbrev pub named_call_node : Place → Token → List ElaboratedArgument → Option Method → t.TypedStatement
  named_call_node place name xs (Some method) =
      t.Invoke place None (number_of_method scope.methods (spelled_name name)) (arguments_for name.place (elaborated_parameters method) xs).arguments
  named_call_node place name xs None = t.Evaluate place (elaborated_call scope (callee.Function name) xs).node

  -- a call as a statement
  abbrev pub call_node : Place → Callee → List ElaboratedArgument → t.TypedStatement
  call_node place (callee.Function name) xs = named_call_node place name xs (method_named scope.methods (spelled_name name))
  call_node place (callee.Null keyword) xs = t.Evaluate place (elaborated_call scope (callee.Null keyword) xs).node
  call_node place (callee.Method object dot method) xs = object_call_node place object method xs (object_in_scope scope (spelled_name object))

  -- ---- return and put

  -- a returned value is assigned to the type that the method returns
  abbrev pub return_refusals : Place → Option Ty → Option Expression → TypeRefusals
  return_refusals place returns None = []
  return_refusals place None (Some e) = (elaborated scope e).refusals
  return_refusals place (Some ty) (Some e) = assigned_refusals ty place (elaborated scope e)

  -- return, with a value or without
  abbrev pub return_node : Place → Option Ty → Option Expression → t.TypedStatement
  return_node place returns None = t.Return place
  return_node place None (Some e) = t.ReturnValue place (elaborated scope e).node
  return_node place (Some ty) (Some e) = t.ReturnValue place (assigned_node ty (elaborated scope e))

  -- what an item of `put` breaks: a variable of any type is shown
  abbrev pub item_refusals : PutItem → TypeRefusals
  item_refusals (item.Text text) = []
  item_refusals (item.Variable name equals) = (elaborated_variable scope name).refusals
  item_refusals (item.Member object dot member) = (elaborated_member scope object member).refusals

  -- an item of `put`
  abbrev pub item_node : PutItem → t.Item
  item_node (item.Text text) = t.Text (text_content text.spelling)
  item_node (item.Variable name None) = t.Shown (elaborated_variable scope name).node
  item_node (item.Variable name (Some equals)) = t.Labelled (spelled_name name) (elaborated_variable scope name).node
  item_node (item.Member object dot member) = t.Shown (elaborated_member scope object member).node

  -- a table of `output` that is no output is refused by the rules of names
  abbrev pub written_refusals : Token → TypeRefusals
  written_refusals table = clash_unless (is_listed scope.outputs (spelled_name table)) table.place

  -- ---- select

  -- what a `select` breaks in its value: null may not stand there
  abbrev pub selector_refusals : Option s.Selector → TypeRefusals
  selector_refusals None = []
  selector_refusals (Some selector) = let x = elaborated scope selector.value in x.refusals ++ null_clash x.typing

  -- what a test of a `select` with this value, or without one, breaks
  abbrev pub test_refusals : Option s.Selector → ElaboratedArgument → TypeRefusals
  test_refusals None x = condition_test_refusals x
  test_refusals (Some selector) x = value_test_refusals (elaborated scope selector.value).typing x

  -- a test of one of the `when` parts is a DECIMAL
  abbrev pub has_decimal_test : s.Whens → Bool
  has_decimal_test s.NoWhen = false
  has_decimal_test (s.When keyword opening values closing statement rest) =
      list_any (λ (x : ElaboratedArgument). is_known_decimal x.value.typing) (elaborated_arguments scope values) || has_decimal_test rest

  -- a `select (e)` compares DECIMAL values where e or a test is one; then each BIGINT among them is widened
  abbrev pub selects_decimals : Option s.Selector → s.Whens → Bool
  selects_decimals None whens = false
  selects_decimals (Some selector) whens = is_known_decimal (elaborated scope selector.value).typing || has_decimal_test whens

  -- a value or a test of a `select`, widened where decimals are compared
  abbrev pub selected_node : Bool → TypedExpression → TypedExpression
  selected_node decimals e = if decimals then widened_node e else e

  -- a `select` with its parts
  abbrev pub select_node : Place → Bool → Option s.Selector → t.TypedWhens → t.TypedStatement
  select_node place decimals None whens = t.Select place whens
  select_node place decimals (Some selector) whens = t.SelectValue place (selected_node decimals (elaborated scope selector.value).node) whens

  -- ---- loops

  -- what the step of a counted loop breaks
  abbrev pub step_refusals : Option s.Step → TypeRefusals
  step_refusals None = []
  step_refusals (Some step) = bound_refusals (first_place step.value) (elaborated scope step.value)

  -- the step of a counted loop, where there is one
  abbrev pub step_node : Option s.Step → Option TypedExpression
  step_node None = None
  step_node (Some step) = Some (elaborated scope step.value).node

  -- the variable of a counted loop is a BIGINT, where its type is known, else TypeClash at it
  abbrev pub counted_refusals : Place → Option KnownVariable → TypeRefusals
  counted_refusals place None = type_refusal_at TypeClash place
  counted_refusals place (Some v) = v.refusals ++ where_known (variable_typing v) (λ ty. clash_unless (is_integer_type ty) place)

  -- the variable of a counted loop, or one that is never met
  abbrev pub counted_reference : Option KnownVariable → Reference
  counted_reference None = reference_or_none None
  counted_reference (Some v) = v.reference

  -- what stands between `do` and its `;` breaks
  abbrev pub control_refusals : s.DoControl → TypeRefusals
  control_refusals s.Block = []
  control_refusals (s.Counted variable equals start to stop step) =
      counted_refusals variable.place (target_of variable)
      ++ bound_refusals (first_place start) (elaborated scope start)
      ++ bound_refusals (first_place stop) (elaborated scope stop)
      ++ step_refusals step
  control_refusals (s.Tested keyword opening condition closing) = truth_refusals (first_place condition) (elaborated scope condition)

  -- a block or a loop with its body
  abbrev pub do_node : Place → s.DoControl → t.TypedStatements → t.TypedStatement
  do_node place s.Block body = t.Block place body
  do_node place (s.Counted variable equals start to stop step) body =
      t.Count place (counted_reference (target_of variable)) (elaborated scope start).node (elaborated scope stop).node (step_node step) body
  do_node place (s.Tested keyword opening condition closing) body =
      if is_word (codes "while") keyword then t.While place (elaborated scope condition).node body else t.Until place (elaborated scope condition).node body

  -- ---- statements

  abbrev mutual
    -- the rules of types that a statement breaks
    pub statement_refusals : s.Statement → TypeRefusals
    statement_refusals (s.Empty end) = []
    statement_refusals (s.Assignment target equals value end) = assignment_refusals target.place (target_of target) (elaborated scope value)
    statement_refusals (s.Call f opening arguments closing end) = call_refusals f (elaborated_arguments scope arguments)
    statement_refusals (s.Leave keyword end) = []
    statement_refusals (s.Continue keyword end) = []
    statement_refusals (s.Return keyword value end) = return_refusals keyword.place scope.returns value
    statement_refusals (s.Output keyword tables end) = from_each written_refusals tables
    statement_refusals (s.Put keyword items end) = from_each item_refusals items
    statement_refusals (s.If keyword condition then_keyword then_part) =
        truth_refusals (first_place condition) (elaborated scope condition) ++ statement_refusals then_part
    statement_refusals (s.IfElse keyword condition then_keyword then_part else_keyword else_part) =
        truth_refusals (first_place condition) (elaborated scope condition) ++ statement_refusals then_part ++ statement_refusals else_part
    statement_refusals (s.Select keyword selector semicolon whens otherwise end_keyword end) =
        selector_refusals selector ++ when_refusals (test_refusals selector) whens ++ otherwise_refusals otherwise
    statement_refusals (s.Do keyword control semicolon body end_keyword end) = control_refusals control ++ statements_refusals body

    -- those that statements break
    pub statements_refusals : s.Statements → TypeRefusals
    statements_refusals s.NoStatement = []
    statements_refusals (s.Then first rest) = statement_refusals first ++ statements_refusals rest

    -- those that `when` parts break, whose tests have this rule
    pub when_refusals : (ElaboratedArgument → TypeRefusals) → s.Whens → TypeRefusals
    when_refusals rule s.NoWhen = []
    when_refusals rule (s.When keyword opening values closing statement rest) =
        from_each rule (elaborated_arguments scope values) ++ statement_refusals statement ++ when_refusals rule rest

    -- those that the last part of a `select` breaks
    pub otherwise_refusals : s.Otherwise → TypeRefusals
    otherwise_refusals s.NoOtherwise = []
    otherwise_refusals (s.Otherwise' keyword statement) = statement_refusals statement

  abbrev mutual
    -- what a statement becomes; its place is that of its first token
    pub statement_node : s.Statement → t.TypedStatement
    statement_node (s.Empty end) = t.Empty end
    statement_node (s.Assignment target equals value end) = assignment_node target.place (target_of target) (elaborated scope value)
    statement_node (s.Call f opening arguments closing end) = call_node (callee_place f) f (elaborated_arguments scope arguments)
    statement_node (s.Leave keyword end) = t.Leave keyword.place
    statement_node (s.Continue keyword end) = t.Continue keyword.place
    statement_node (s.Return keyword value end) = return_node keyword.place scope.returns value
    statement_node (s.Output keyword tables end) = t.Output keyword.place (output_numbers scope.outputs tables)
    statement_node (s.Put keyword items end) = t.Put keyword.place (map item_node items)
    statement_node (s.If keyword condition then_keyword then_part) = t.If keyword.place (elaborated scope condition).node (statement_node then_part)
    statement_node (s.IfElse keyword condition then_keyword then_part else_keyword else_part) =
        t.IfElse keyword.place (elaborated scope condition).node (statement_node then_part) (statement_node else_part)
    statement_node (s.Select keyword selector semicolon whens otherwise end_keyword end) =
        let decimals = selects_decimals selector whens in
        select_node keyword.place decimals selector (whens_node decimals whens (otherwise_node otherwise))
    statement_node (s.Do keyword control semicolon body end_keyword end) = do_node keyword.place control (statements_node body)

    -- what statements become
    pub statements_node : s.Statements → t.TypedStatements
    statements_node s.NoStatement = t.Finish
    statements_node (s.Then first rest) = t.Next (statement_node first) (statements_node rest)

    -- what the parts of a `select` become, before its last part
    pub whens_node : Bool → s.Whens → t.TypedWhens → t.TypedWhens
    whens_node decimals s.NoWhen last = last
    whens_node decimals (s.When keyword opening values closing statement rest) last =
        t.When (nodes_in_order (map (selected_node decimals) (argument_nodes (elaborated_arguments scope values)))) (statement_node statement) (whens_node decimals rest last)

    -- what the last part of a `select` becomes
    pub otherwise_node : s.Otherwise → t.TypedWhens
    otherwise_node s.NoOtherwise = t.NoOtherwise
    otherwise_node (s.Otherwise' keyword statement) = t.Otherwise (statement_node statement)

-- ---- surely returning

abbrev mutual
  -- a statement surely returns: `return`; a block without loop that does; an `if` both of whose parts do; a `select` that has
  -- `otherwise` and all of whose parts do
  pub surely_returns : s.Statement → Bool
  surely_returns (s.Return keyword value end) = true
  surely_returns (s.Do keyword s.Block semicolon body end_keyword end) = list_surely_returns body
  surely_returns (s.IfElse keyword condition then_keyword then_part else_keyword else_part) = surely_returns then_part && surely_returns else_part
  surely_returns (s.Select keyword selector semicolon whens otherwise end_keyword end) = whens_surely_return whens && otherwise_surely_returns otherwise
  surely_returns _ = false

  -- a list of statements does where its last statement does
  pub list_surely_returns : s.Statements → Bool
  list_surely_returns s.NoStatement = false
  list_surely_returns (s.Then first s.NoStatement) = surely_returns first
  list_surely_returns (s.Then first (s.Then second rest)) = list_surely_returns (s.Then second rest)

  -- each `when` part does
  pub whens_surely_return : s.Whens → Bool
  whens_surely_return s.NoWhen = true
  whens_surely_return (s.When keyword opening values closing statement rest) = surely_returns statement && whens_surely_return rest

  -- there is a last part, and it does
  pub otherwise_surely_returns : s.Otherwise → Bool
  otherwise_surely_returns s.NoOtherwise = false
  otherwise_surely_returns (s.Otherwise' keyword statement) = surely_returns statement
