-- Statements that break no rule become typed statements.
use Rattle.std.proofs.Common.{◌≡◌, ℕ, zero, suc, ◌+◌, ◌<◌, ◌≤◌, nat_lt, bytes_eq, codes, cond, is_some, Bool, true, false, ◌||◌, List, [], ◌∷◌, ◌++◌, length, map, position, unwrap_or, if◌then◌else◌, Option, Some, None, refl, sym, ap, ◌∙◌, subst, true≢false, arith}
use Rattle.std.specs.List.{list_any, range_with_len, position_or_len, AllByRecursion}
use Rattle.std.proofs.lemmas.Bool.{or_parts, ltb-true}
use Rattle.ds2_base.specs.declared.place.Place.{Place}
use Rattle.ds2_token.specs.Words.{is_word}
use Rattle.ds2_token.specs.declared.token.Token.{Token}
use Rattle.ds2_tree.specs.Expressions.{Expression, IsExpression}
use Rattle.ds2_tree.specs.Globals.{Method}
use Rattle.ds2_tree.specs.Lists.{IfAny}
use Rattle.ds2_tree.specs.Statements as s
use Rattle.ds2_tree.specs.declared.expressions.Callee.{Callee}
use Rattle.ds2_tree.specs.declared.expressions.Callee.TheVariants as callee
use Rattle.ds2_tree.specs.declared.statements.PutItem.{PutItem}
use Rattle.ds2_tree.specs.declared.statements.PutItem.TheVariants as item
use Rattle.ds2_value.specs.declared.ty.Ty.{Ty}
use Rattle.ds2_value.specs.declared.ty.Ty.TheVariants.{BigInt, Decimal as DecimalOf, Char, Varchar}
use Rattle.ds2_meaning.specs.declared.globals.Variable as typed
use Rattle.ds2_meaning.specs.IsTyped.{NamesInScope, reference_type, IsTarget, TypeClass, Integers, Decimals, Texts, class_of, expression_type, IsTypedExpression, IsTypedCondition, AreTypedConditions, AreTypedValues, IsTypedInteger, IsTypedStep, AreTypedItems, AreOutputs, AreValuesFor, IsTypedStatement, AreTypedStatements, AreTypedWhens, AreTypedValueWhens}
use Rattle.ds2_meaning.specs.ProgramTree.{is_listed}
use Rattle.ds2_meaning.specs.TypedExpression.{TypedExpression, Widen}
use Rattle.ds2_meaning.specs.TypedStatement as t
use Rattle.ds2_names.specs.NameRules.{from_each}
use Rattle.ds2_names.specs.SourceUnit.{spelled_name}
use Rattle.ds2_names.specs.UnitRules.{misplaced_return, misplaced_in, misplaced_in_all, misplaced_in_whens, misplaced_in_otherwise}
use Rattle.ds2_names.specs.Uses.{callee_place, first_place, method_named}
use Rattle.ds2_elaboration.specs.ExpressionTypes.{TypeScope, ObjectCalls, InstanceCalls, HashCalls, IteratorCalls, ParameterCalls, KnownVariable, known_variable, elaborated_variable, elaborated_member, object_in_scope, number_of_method, is_settable_reference, values_for, elaborated_object_call, elaborated_call, elaborated, elaborated_arguments}
use Rattle.ds2_elaboration.specs.FunctionTypes.{ElaboratedArgument, nodes_in_order}
use Rattle.ds2_elaboration.specs.OperatorTypes.{is_known_decimal}
use Rattle.ds2_elaboration.specs.StatementTypes.{argument_nodes, bound_refusals, condition_test_refusals, value_test_refusals, output_numbers, settable_variable, target_refusals, target_of, assignment_refusals, assignment_node, instance_call_refusals, object_call_refusals, instance_call_node, object_call_node, named_call_refusals, call_refusals, named_call_node, call_node, return_refusals, return_node, item_refusals, item_node, written_refusals, selector_refusals, test_refusals, has_decimal_test, selected_node, step_refusals, step_node, counted_refusals, counted_reference, statement_refusals, statements_refusals, when_refusals, otherwise_refusals, statement_node, statements_node, whens_node, otherwise_node}
use Rattle.ds2_elaboration.specs.TypedForms.{IsOfTyping, IsSoundlyElaborated, IsSoundArgument}
use Rattle.ds2_elaboration.specs.TypedScopes.{IsBoundedIfAny, ObjectStands, ScopeStands, StatementsAreTyped}
use Rattle.ds2_elaboration.specs.Typings.{TypeRefusals, clash_unless, Typing, Known, NullAt, Unknown, ElaboratedExpression, typing_behind, is_numeric_type, is_integer_type, are_comparable, where_known, where_both_known, null_clash, truth_refusals, assigned_refusals}
use Rattle.ds2_elaboration.proofs.Arguments.{is_target, method_arguments, values_fit}
use Rattle.ds2_elaboration.proofs.Choices.{any_of_typing}
use Rattle.ds2_elaboration.proofs.Expressions.{KnownStands, StandsIfKnown, known_stands, variable_typed, member_typed, object_call, call_typed, expression_typed, arguments_typed}
use Rattle.ds2_elaboration.proofs.Operands.{unclashed, numeric, integer, operand, truth_operand, wide, assigned_typed}
use Rattle.ds2_elaboration.proofs.Outcome.{both_empty, unplaced}

-- ---- numbers of outputs

within_if : (b : Bool) (i n : ℕ) → nat_lt i n ≡ b → 1 ≤ n → unwrap_or (cond b (Some i) None) 0 < n
within_if true i n e l = ltb-true i n e
within_if false i n e l = omega (arith, l)

some_item : {A : Type 0} (test : A → Bool) (xs : List A) → list_any test xs ≡ true → 1 ≤ length xs
some_item test [] h = cc
some_item test (x ∷ xs) h = omega arith

pub position_within : {A : Type 0} (test : A → Bool) (xs : List A) → list_any test xs ≡ true → unwrap_or (position test xs) 0 < length xs
position_within test xs h =
    within_if (nat_lt (position_or_len test xs) (length xs)) (position_or_len test xs) (length xs) refl (some_item test xs h)

-- ---- the kinds of values that a `select` compares

abbrev kind_of : Bool → Ty → TypeClass
kind_of decimals BigInt = if decimals then Decimals else Integers
kind_of decimals (DecimalOf p s) = Decimals
kind_of decimals (Char n) = Texts
kind_of decimals (Varchar n) = Texts

same_kind : (decimals : Bool) (a b : Ty) → are_comparable a b ≡ true → (decimals ≡ false → is_known_decimal (Known a) ≡ false)
    → (decimals ≡ false → is_known_decimal (Known b) ≡ false) → kind_of decimals b ≡ kind_of decimals a
same_kind decimals BigInt BigInt h f g = refl
same_kind true BigInt (DecimalOf q u) h f g = refl
same_kind false BigInt (DecimalOf q u) h f g = absurd (true≢false (g refl))
same_kind decimals BigInt (Char m) h f g = cc
same_kind decimals BigInt (Varchar m) h f g = cc
same_kind true (DecimalOf p s) BigInt h f g = refl
same_kind false (DecimalOf p s) BigInt h f g = absurd (true≢false (f refl))
same_kind decimals (DecimalOf p s) (DecimalOf q u) h f g = refl
same_kind decimals (DecimalOf p s) (Char m) h f g = cc
same_kind decimals (DecimalOf p s) (Varchar m) h f g = cc
same_kind decimals (Char n) BigInt h f g = cc
same_kind decimals (Char n) (DecimalOf q u) h f g = cc
same_kind decimals (Char n) (Char m) h f g = refl
same_kind decimals (Char n) (Varchar m) h f g = refl
same_kind decimals (Varchar n) BigInt h f g = cc
same_kind decimals (Varchar n) (DecimalOf q u) h f g = cc
same_kind decimals (Varchar n) (Char m) h f g = refl
same_kind decimals (Varchar n) (Varchar m) h f g = refl

assigned_to : (own : TypeRefusals) (ty : Ty) (place : Place) (x : ElaboratedExpression) → target_refusals place own x (typing_behind own ty) ≡ []
    → assigned_refusals ty place x ≡ []
assigned_to [] ty place x h = h
assigned_to (r ∷ rs) ty place x h = cc

counted_integer : (own : TypeRefusals) (ty : Ty) (place : Place)
    → own ++ where_known (typing_behind own ty) (λ from. clash_unless (is_integer_type from) place) ≡ [] → is_integer_type ty ≡ true
counted_integer [] ty place h = unclashed (is_integer_type ty) place h
counted_integer (r ∷ rs) ty place h = cc

module _ (scope : TypeScope) (names : NamesInScope) (stands : ScopeStands scope names) where
  -- ---- targets

  -- a variable in scope that may be set
  record TargetStands (v : KnownVariable) : Type 0 where
    known : KnownStands names v
    target : IsTarget v.reference

  abbrev TargetIfAny : Option KnownVariable → Type 0
  TargetIfAny None = Unit {0}
  TargetIfAny (Some v) = TargetStands v

  settable_if : (v : KnownVariable) (b : Bool) → is_settable_reference v.reference ≡ b → KnownStands names v → TargetIfAny (if b then Some v else None)
  settable_if v true e k = record { known = k; target = is_target v.reference e }
  settable_if v false e k = tt

  settable : (found : Option KnownVariable) → StandsIfKnown names found → TargetIfAny (settable_variable found)
  settable None k = tt
  settable (Some v) k = settable_if v (is_settable_reference v.reference) refl k

  target_stands : (name : Token) → TargetIfAny (target_of scope name)
  target_stands name = settable (known_variable scope (spelled_name name)) (known_stands scope names stands (spelled_name name))

  assignment_typed : (loop : Bool) (place : Place) (found : Option KnownVariable) (x : ElaboratedExpression) → TargetIfAny found → IsSoundlyElaborated names x
      → assignment_refusals scope place found x ≡ [] → IsTypedStatement names loop (assignment_node scope place found x)
  assignment_typed loop place None x k f h = cc
  assignment_typed loop place (Some v) x k f h =
      let i = assigned_typed names v.ty place x f k.known.bounds (assigned_to v.refusals v.ty place x h) in
      (k.target, i.typed, k.known.there ∙ ap (λ ty. Some ty) (sym i.exact))

  -- ---- calls

  named_call_typed : (loop : Bool) (place : Place) (name : Token) (xs : List ElaboratedArgument) (found : Option Method)
      → method_named scope.methods (spelled_name name) ≡ found → AllByRecursion (IsSoundArgument names) xs → named_call_refusals scope name xs found ≡ []
      → IsTypedStatement names loop (named_call_node scope place name xs found)
  named_call_typed loop place name xs (Some m) e f h =
      let k = stands.methods (spelled_name name) m e in
      (k.method, k.there, method_arguments names (names.methods None) name.place (number_of_method scope.methods (spelled_name name)) m xs k f h)
  named_call_typed loop place name xs None e f h =
      let x = elaborated_call scope (callee.Function name) xs in any_of_typing names x.typing x.node (call_typed scope names stands (callee.Function name) xs f h)

  instance_call_typed : (loop : Bool) (place : Place) (object name : Token) (methods : List Method) (xs : List ElaboratedArgument)
      → ObjectStands names (spelled_name object) (InstanceCalls methods) → AllByRecursion (IsSoundArgument names) xs → (found : Option Method)
      → method_named methods (spelled_name name) ≡ found → instance_call_refusals scope object name methods xs found ≡ []
      → IsTypedStatement names loop (instance_call_node scope place object name methods xs found)
  instance_call_typed loop place object name methods xs o f None e h = cc
  instance_call_typed loop place object name methods xs o f (Some m) e h =
      let k = o (spelled_name name) m e in
      (k.method, k.there, method_arguments names (names.methods (Some (spelled_name object))) name.place (number_of_method methods (spelled_name name)) m xs k f h)

  object_call_typed : (loop : Bool) (place : Place) (object name : Token) (xs : List ElaboratedArgument) → AllByRecursion (IsSoundArgument names) xs
      → (found : Option ObjectCalls) → object_in_scope scope (spelled_name object) ≡ found → object_call_refusals scope object name xs found ≡ []
      → IsTypedStatement names loop (object_call_node scope place object name xs found)
  object_call_typed loop place object name xs f None e h = cc
  object_call_typed loop place object name xs f (Some (InstanceCalls methods)) e h =
      instance_call_typed loop place object name methods xs (stands.objects (spelled_name object) (InstanceCalls methods) e) f
      (method_named methods (spelled_name name)) refl h
  object_call_typed loop place object name xs f (Some HashCalls) e h =
      let x = elaborated_object_call object name xs (Some HashCalls) in any_of_typing names x.typing x.node (object_call scope names stands object name xs f (Some HashCalls) e h)
  object_call_typed loop place object name xs f (Some IteratorCalls) e h =
      let x = elaborated_object_call object name xs (Some IteratorCalls) in
      any_of_typing names x.typing x.node (object_call scope names stands object name xs f (Some IteratorCalls) e h)
  object_call_typed loop place object name xs f (Some (ParameterCalls parameters)) e h =
      let o = stands.objects (spelled_name object) (ParameterCalls parameters) e in
      subst (λ (found : Option (List typed.Variable)). AreValuesFor names found (values_for name.place parameters xs).values) (sym o.0)
      (values_fit names name.place parameters xs o.1 f h)

  call_stands : (loop : Bool) (place : Place) (f : Callee) (xs : List ElaboratedArgument) → AllByRecursion (IsSoundArgument names) xs → call_refusals scope f xs ≡ []
      → IsTypedStatement names loop (call_node scope place f xs)
  call_stands loop place (callee.Function name) xs f h = named_call_typed loop place name xs (method_named scope.methods (spelled_name name)) refl f h
  call_stands loop place (callee.Null keyword) xs f h =
      let x = elaborated_call scope (callee.Null keyword) xs in any_of_typing names x.typing x.node (call_typed scope names stands (callee.Null keyword) xs f h)
  call_stands loop place (callee.Method object dot method) xs f h =
      object_call_typed loop place object method xs f (object_in_scope scope (spelled_name object)) refl h

  -- ---- return, output and put

  return_typed : (loop : Bool) (keyword : Token) (returns : Option Ty) → scope.returns ≡ returns → (value : Option Expression) → IfAny IsExpression value
      → misplaced_return (is_some returns) keyword value ≡ [] → return_refusals scope keyword.place returns value ≡ []
      → IsTypedStatement names loop (return_node scope keyword.place returns value)
  return_typed loop keyword None e None g m h = stands.returns ∙ e
  return_typed loop keyword None e (Some x) g m h = cc
  return_typed loop keyword (Some ty) e None g m h = cc
  return_typed loop keyword (Some ty) e (Some x) g m h =
      let i = assigned_typed names ty keyword.place (elaborated scope x) (expression_typed scope names stands x g) (subst IsBoundedIfAny e stands.return_bounds) h in
      (i.typed, stands.returns ∙ (e ∙ ap (λ u. Some u) (sym i.exact)))

  outputs_from : (n a : ℕ) → a + n ≤ names.outputs → AreOutputs names (range_with_len a n)
  outputs_from zero a h = tt
  outputs_from (suc n) a h = (omega (arith, h), outputs_from n (a + 1) (omega (arith, h)))

  outputs_named : names.is_system ≡ true → (tables : List Token) → from_each (written_refusals scope) tables ≡ []
      → AreOutputs names (map (λ (t : Token). unwrap_or (position (λ (name : List ℕ). bytes_eq name (spelled_name t)) scope.outputs) 0) tables)
  outputs_named system [] h = tt
  outputs_named system (table ∷ tables) h =
      let p = both_empty (written_refusals scope table) (from_each (written_refusals scope) tables) h in
      let test = λ (name : List ℕ). bytes_eq name (spelled_name table) in
      let there = unclashed (is_listed scope.outputs (spelled_name table)) table.place p.0 in
      (subst (λ n. unwrap_or (position test scope.outputs) 0 < n) (stands.outputs system) (position_within test scope.outputs there), outputs_named system tables p.1)

  outputs_there : names.is_system ≡ true → (tables : List Token) → from_each (written_refusals scope) tables ≡ [] → AreOutputs names (output_numbers scope.outputs tables)
  outputs_there system [] h = outputs_from (length scope.outputs) 0 (let e = stands.outputs system in omega (arith, e))
  outputs_there system (table ∷ tables) h = outputs_named system (table ∷ tables) h

  items_typed : (items : List PutItem) → from_each (item_refusals scope) items ≡ [] → AreTypedItems names (map (item_node scope) items)
  items_typed [] h = tt
  items_typed (item.Text text ∷ items) h = items_typed items h
  items_typed (item.Variable name None ∷ items) h =
      let x = elaborated_variable scope name in
      let p = both_empty x.refusals (from_each (item_refusals scope) items) h in
      (any_of_typing names x.typing x.node (variable_typed scope names stands name p.0), items_typed items p.1)
  items_typed (item.Variable name (Some equals) ∷ items) h =
      let x = elaborated_variable scope name in
      let p = both_empty x.refusals (from_each (item_refusals scope) items) h in
      (any_of_typing names x.typing x.node (variable_typed scope names stands name p.0), items_typed items p.1)
  items_typed (item.Member object dot member ∷ items) h =
      let x = elaborated_member scope object member in
      let p = both_empty x.refusals (from_each (item_refusals scope) items) h in
      (any_of_typing names x.typing x.node (member_typed scope names stands object member p.0), items_typed items p.1)

  -- ---- tests of a `select`

  condition_tests : (xs : List ElaboratedArgument) → AllByRecursion (IsSoundArgument names) xs → from_each condition_test_refusals xs ≡ []
      → AreTypedConditions names (nodes_in_order (map (selected_node scope false) (argument_nodes xs)))
  condition_tests [] f h = tt
  condition_tests (x ∷ xs) f h =
      let p = both_empty (condition_test_refusals x) (from_each condition_test_refusals xs) h in
      let o = truth_operand names x.place x.value f.0 p.0 in
      ((o.typed, numeric (expression_type x.value.node) o.passes), condition_tests xs f.1 p.1)

  -- a typed expression of a kind
  abbrev IsOfKind : TypeClass → TypedExpression → Type 0
  IsOfKind kind node = IsTypedExpression names node × (class_of (expression_type node) ≡ kind)

  unwidened : (b : Bool) (kind : TypeClass) (node : TypedExpression) → is_integer_type (expression_type node) ≡ b → b ≡ false → IsOfKind kind node
      → IsOfKind kind (if b then Widen node else node)
  unwidened true kind node e f h = cc
  unwidened false kind node e f h = h

  selected_kind : (decimals : Bool) (ty : Ty) (node : TypedExpression) → IsOfTyping names (Known ty) node → IsOfKind (kind_of decimals ty) (selected_node scope decimals node)
  selected_kind false BigInt node h = (h.0, ap class_of h.1)
  selected_kind true BigInt node h = let w = wide names node (record { typed = h.0; bounds = h.2; passes = ap is_numeric_type h.1 }) in (w.typed, w.decimal)
  selected_kind false (DecimalOf p s) node h = (h.0, ap class_of h.1)
  selected_kind true (DecimalOf p s) node h = let w = wide names node (record { typed = h.0; bounds = h.2; passes = ap is_numeric_type h.1 }) in (w.typed, w.decimal)
  selected_kind false (Char n) node h = (h.0, ap class_of h.1)
  selected_kind true (Char n) node h = unwidened (is_integer_type (expression_type node)) Texts node refl (ap is_integer_type h.1) (h.0, ap class_of h.1)
  selected_kind false (Varchar n) node h = (h.0, ap class_of h.1)
  selected_kind true (Varchar n) node h = unwidened (is_integer_type (expression_type node)) Texts node refl (ap is_integer_type h.1) (h.0, ap class_of h.1)

  test_fits : (decimals : Bool) (a : Ty) (place : Place) (typing : Typing) (node : TypedExpression) → IsOfTyping names typing node → null_clash typing ≡ []
      → where_both_known (Known a) typing (λ x y. clash_unless (are_comparable x y) place) ≡ [] → (decimals ≡ false → is_known_decimal (Known a) ≡ false)
      → (decimals ≡ false → is_known_decimal typing ≡ false) → IsOfKind (kind_of decimals a) (selected_node scope decimals node)
  test_fits decimals a place (Known b) node k n h f g =
      let o = selected_kind decimals b node k in (o.0, o.1 ∙ same_kind decimals a b (unclashed (are_comparable a b) place h) f g)
  test_fits decimals a place (NullAt word) node k n h f g = cc
  test_fits decimals a place Unknown node k n h f g = absurd k

  -- a test is a DECIMAL
  abbrev is_decimal_test : ElaboratedArgument → Bool
  is_decimal_test x = is_known_decimal x.value.typing

  value_tests : (decimals : Bool) (a : Ty) (xs : List ElaboratedArgument) → AllByRecursion (IsSoundArgument names) xs
      → from_each (value_test_refusals (Known a)) xs ≡ [] → (decimals ≡ false → is_known_decimal (Known a) ≡ false) → (decimals ≡ false → list_any is_decimal_test xs ≡ false)
      → AreTypedValues names (kind_of decimals a) (nodes_in_order (map (selected_node scope decimals) (argument_nodes xs)))
  value_tests decimals a [] f h k g = tt
  value_tests decimals a (x ∷ xs) f h k g =
      let p = both_empty (value_test_refusals (Known a) x) (from_each (value_test_refusals (Known a)) xs) h in
      let rule = where_both_known (Known a) x.value.typing (λ y z. clash_unless (are_comparable y z) x.place) in
      let q = both_empty (x.value.refusals ++ null_clash x.value.typing) rule p.0 in
      let r = both_empty x.value.refusals (null_clash x.value.typing) q.0 in
      let o = test_fits decimals a x.place x.value.typing x.value.node (f.0 r.0) r.1 q.1 k (λ e. (or_parts (is_decimal_test x) (list_any is_decimal_test xs) (g e)).0) in
      (o.0, o.1, value_tests decimals a xs f.1 p.1 k (λ e. (or_parts (is_decimal_test x) (list_any is_decimal_test xs) (g e)).1))

  -- the value of a `select`: its type is known
  record SelectorStands (x : ElaboratedExpression) : Type 0 where
    ty : Ty
    known : x.typing ≡ Known ty
    typed : IsOfTyping names (Known ty) x.node

  selector_from : (x : ElaboratedExpression) (typing : Typing) → x.typing ≡ typing → IsOfTyping names typing x.node → null_clash typing ≡ [] → SelectorStands x
  selector_from x (Known ty) e k n = record { ty = ty; known = e; typed = k }
  selector_from x (NullAt word) e k n = cc
  selector_from x Unknown e k n = absurd k

  selector_stands : (x : ElaboratedExpression) → IsSoundlyElaborated names x → x.refusals ++ null_clash x.typing ≡ [] → SelectorStands x
  selector_stands x f h = let p = both_empty x.refusals (null_clash x.typing) h in selector_from x x.typing refl (f p.0) p.1

  -- ---- loops

  bound_typed : (place : Place) (x : ElaboratedExpression) → IsSoundlyElaborated names x → bound_refusals place x ≡ [] → IsTypedInteger names x.node
  bound_typed place x f h = let o = operand names is_integer_type place x f h in (o.typed, integer (expression_type x.node) o.passes)

  step_typed : (step : Option s.Step) → IfAny s.IsStep step → step_refusals scope step ≡ [] → IsTypedStep names (step_node scope step)
  step_typed None g h = tt
  step_typed (Some step) g h = bound_typed (first_place step.value) (elaborated scope step.value) (expression_typed scope names stands step.value g.1) h

  counted_typed : (place : Place) (found : Option KnownVariable) → TargetIfAny found → counted_refusals scope place found ≡ []
      → IsTarget (counted_reference scope found) × (reference_type names (counted_reference scope found) ≡ Some BigInt)
  counted_typed place None k h = cc
  counted_typed place (Some v) k h = (k.target, k.known.there ∙ ap (λ ty. Some ty) (integer v.ty (counted_integer v.refusals v.ty place h)))

  tested_if : (b : Bool) (loop : Bool) (place : Place) (condition : TypedExpression) (body : t.TypedStatements) → IsTypedCondition names condition
      → AreTypedStatements names true body → IsTypedStatement names loop (if b then t.While place condition body else t.Until place condition body)
  tested_if true loop place condition body c k = (c, k)
  tested_if false loop place condition body c k = (c, k)

  condition_typed : (e : Expression) → IsExpression e → truth_refusals (first_place e) (elaborated scope e) ≡ [] → IsTypedCondition names (elaborated scope e).node
  condition_typed e g h =
      let o = truth_operand names (first_place e) (elaborated scope e) (expression_typed scope names stands e g) h in
      (o.typed, numeric (expression_type (elaborated scope e).node) o.passes)

  -- ---- statements

  module _ (may_output : List Token → Bool) (may : (tables : List Token) → may_output tables ≡ true → names.is_system ≡ true) where
    -- what stands where it may not stand
    abbrev misplaced_here : Bool → s.Statement → List Place
    misplaced_here = misplaced_in may_output (is_some scope.returns)

    mutual
      statement_typed : (loop : Bool) (x : s.Statement) → s.IsStatement x → misplaced_in may_output (is_some scope.returns) loop x ≡ [] → statement_refusals scope x ≡ []
          → IsTypedStatement names loop (statement_node scope x)
      statement_typed loop (s.Empty end) g m h = tt
      statement_typed loop (s.Assignment target equals value end) g m h =
          assignment_typed loop target.place (target_of scope target) (elaborated scope value) (target_stands target) (expression_typed scope names stands value g.1) h
      statement_typed loop (s.Call f opening arguments closing end) g m h =
          call_stands loop (callee_place f) f (elaborated_arguments scope arguments) (arguments_typed scope names stands arguments g.1) h
      statement_typed loop (s.Leave keyword end) g m h = unplaced loop keyword.place m
      statement_typed loop (s.Continue keyword end) g m h = unplaced loop keyword.place m
      statement_typed loop (s.Return keyword value end) g m h = return_typed loop keyword scope.returns refl value g.1 m h
      statement_typed loop (s.Output keyword tables end) g m h = let system = may tables (unplaced (may_output tables) keyword.place m) in (system, outputs_there system tables h)
      statement_typed loop (s.Put keyword items end) g m h = items_typed items h
      statement_typed loop (s.If keyword condition then_keyword then_part) g m h =
          let p = both_empty (truth_refusals (first_place condition) (elaborated scope condition)) (statement_refusals scope then_part) h in
          (condition_typed condition g.1 p.0, statement_typed loop then_part g.3 m p.1)
      statement_typed loop (s.IfElse keyword condition then_keyword then_part else_keyword else_part) g m h =
          let own = truth_refusals (first_place condition) (elaborated scope condition) in
          let n = both_empty (misplaced_here loop then_part) (misplaced_here loop else_part) m in
          let p = both_empty (own ++ statement_refusals scope then_part) (statement_refusals scope else_part) h in
          let q = both_empty own (statement_refusals scope then_part) p.0 in
          (condition_typed condition g.1 q.0, statement_typed loop then_part g.3 n.0 q.1, statement_typed loop else_part g.6 n.1 p.1)
      statement_typed loop (s.Select keyword None semicolon whens otherwise end_keyword end) g m h =
          let n = both_empty (misplaced_in_whens may_output (is_some scope.returns) loop whens) (misplaced_in_otherwise may_output (is_some scope.returns) loop otherwise) m in
          let p = both_empty (when_refusals scope (test_refusals scope None) whens) (otherwise_refusals scope otherwise) h in
          condition_whens loop whens (otherwise_node scope otherwise) g.2 n.0 p.0 (otherwise_typed loop otherwise g.3 n.1 p.1).0
      statement_typed loop (s.Select keyword (Some selector) semicolon whens otherwise end_keyword end) g m h =
          let x = elaborated scope selector.value in
          let own = selector_refusals scope (Some selector) in
          let n = both_empty (misplaced_in_whens may_output (is_some scope.returns) loop whens) (misplaced_in_otherwise may_output (is_some scope.returns) loop otherwise) m in
          let p = both_empty (own ++ when_refusals scope (test_refusals scope (Some selector)) whens) (otherwise_refusals scope otherwise) h in
          let q = both_empty own (when_refusals scope (test_refusals scope (Some selector)) whens) p.0 in
          let k = selector_stands x (expression_typed scope names stands selector.value g.1) q.0 in
          let decimals = is_known_decimal x.typing || has_decimal_test scope whens in
          let parts : decimals ≡ false → (is_known_decimal x.typing ≡ false) × (has_decimal_test scope whens ≡ false) =
          λ e. or_parts (is_known_decimal x.typing) (has_decimal_test scope whens) e in
          let tests = subst (λ (typing : Typing). when_refusals scope (value_test_refusals typing) whens ≡ []) k.known q.1 in
          let o = selected_kind decimals k.ty x.node k.typed in
          let made = value_whens loop decimals k.ty (λ e. ap is_known_decimal (sym k.known) ∙ (parts e).0) whens (otherwise_node scope otherwise) (λ e. (parts e).1) g.2 n.0 tests
          ((otherwise_typed loop otherwise g.3 n.1 p.1).1 (kind_of decimals k.ty)) in
          (o.0, subst (λ kind. AreTypedValueWhens names loop kind (whens_node scope decimals whens (otherwise_node scope otherwise))) (sym o.1) made)
      statement_typed loop (s.Do keyword s.Block semicolon body end_keyword end) g m h = statements_typed loop body g.2 m h
      statement_typed loop (s.Do keyword (s.Counted variable equals start to stop step) semicolon body end_keyword end) g m h =
          let a = counted_refusals scope variable.place (target_of scope variable) in
          let b = bound_refusals (first_place start) (elaborated scope start) in
          let c = bound_refusals (first_place stop) (elaborated scope stop) in
          let p = both_empty (a ++ b ++ c ++ step_refusals scope step) (statements_refusals scope body) h in
          let q = both_empty (a ++ b ++ c) (step_refusals scope step) p.0 in
          let r = both_empty (a ++ b) c q.0 in
          let u = both_empty a b r.0 in
          let v = counted_typed variable.place (target_of scope variable) (target_stands variable) u.0 in (
            v.0,
            v.1,
            bound_typed (first_place start) (elaborated scope start) (expression_typed scope names stands start g.1.1) u.1,
            bound_typed (first_place stop) (elaborated scope stop) (expression_typed scope names stands stop g.1.3) r.1,
            step_typed step g.1.4 q.1,
            statements_typed true body g.2 m p.1,
          )
      statement_typed loop (s.Do keyword (s.Tested word opening condition closing) semicolon body end_keyword end) g m h =
          let p = both_empty (truth_refusals (first_place condition) (elaborated scope condition)) (statements_refusals scope body) h in
          tested_if (is_word (codes "while") word) loop keyword.place (elaborated scope condition).node (statements_node scope body)
          (condition_typed condition g.1.1 p.0) (statements_typed true body g.2 m p.1)

      pub statements_typed : (loop : Bool) (body : s.Statements) → s.AreStatements body → misplaced_in_all may_output (is_some scope.returns) loop body ≡ []
          → statements_refusals scope body ≡ [] → AreTypedStatements names loop (statements_node scope body)
      statements_typed loop s.NoStatement g m h = tt
      statements_typed loop (s.Then first rest) g m h =
          let n = both_empty (misplaced_here loop first) (misplaced_in_all may_output (is_some scope.returns) loop rest) m in
          let p = both_empty (statement_refusals scope first) (statements_refusals scope rest) h in
          (statement_typed loop first g.0 n.0 p.0, statements_typed loop rest g.1 n.1 p.1)

      condition_whens : (loop : Bool) (whens : s.Whens) (last : t.TypedWhens) → s.AreWhens whens → misplaced_in_whens may_output (is_some scope.returns) loop whens ≡ []
          → when_refusals scope condition_test_refusals whens ≡ [] → AreTypedWhens names loop last → AreTypedWhens names loop (whens_node scope false whens last)
      condition_whens loop s.NoWhen last g m h l = l
      condition_whens loop (s.When keyword opening values closing statement rest) last g m h l =
          let n = both_empty (misplaced_here loop statement) (misplaced_in_whens may_output (is_some scope.returns) loop rest) m in
          let xs = elaborated_arguments scope values in
          let p = both_empty (from_each condition_test_refusals xs ++ statement_refusals scope statement) (when_refusals scope condition_test_refusals rest) h in
          let q = both_empty (from_each condition_test_refusals xs) (statement_refusals scope statement) p.0 in (
            condition_tests xs (arguments_typed scope names stands values g.1.0) q.0,
            statement_typed loop statement g.2 n.0 q.1,
            condition_whens loop rest last g.3 n.1 p.1 l,
          )

      value_whens : (loop decimals : Bool) (a : Ty) → (decimals ≡ false → is_known_decimal (Known a) ≡ false) → (whens : s.Whens) (last : t.TypedWhens)
          → (decimals ≡ false → has_decimal_test scope whens ≡ false) → s.AreWhens whens → misplaced_in_whens may_output (is_some scope.returns) loop whens ≡ []
          → when_refusals scope (value_test_refusals (Known a)) whens ≡ [] → AreTypedValueWhens names loop (kind_of decimals a) last
          → AreTypedValueWhens names loop (kind_of decimals a) (whens_node scope decimals whens last)
      value_whens loop decimals a k s.NoWhen last d g m h l = l
      value_whens loop decimals a k (s.When keyword opening values closing statement rest) last d g m h l =
          let n = both_empty (misplaced_here loop statement) (misplaced_in_whens may_output (is_some scope.returns) loop rest) m in
          let xs = elaborated_arguments scope values in
          let rule = value_test_refusals (Known a) in
          let p = both_empty (from_each rule xs ++ statement_refusals scope statement) (when_refusals scope rule rest) h in
          let q = both_empty (from_each rule xs) (statement_refusals scope statement) p.0 in (
            value_tests decimals a xs (arguments_typed scope names stands values g.1.0) q.0 k (λ e. (or_parts (list_any is_decimal_test xs) (has_decimal_test scope rest) (d e)).0),
            statement_typed loop statement g.2 n.0 q.1,
            value_whens loop decimals a k rest last (λ e. (or_parts (list_any is_decimal_test xs) (has_decimal_test scope rest) (d e)).1) g.3 n.1 p.1 l,
          )

      otherwise_typed : (loop : Bool) (otherwise : s.Otherwise) → s.IsOtherwise otherwise → misplaced_in_otherwise may_output (is_some scope.returns) loop otherwise ≡ []
          → otherwise_refusals scope otherwise ≡ []
          → AreTypedWhens names loop (otherwise_node scope otherwise) × ((kind : TypeClass) → AreTypedValueWhens names loop kind (otherwise_node scope otherwise))
      otherwise_typed loop s.NoOtherwise g m h = (tt, λ kind. tt)
      otherwise_typed loop (s.Otherwise' keyword statement) g m h =
          (statement_typed loop statement g.1 m h, λ kind. statement_typed loop statement g.1 m h)

pub statements_are_typed : StatementsAreTyped
statements_are_typed = statements_typed
