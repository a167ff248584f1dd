-- Expressions that break no rule become typed nodes.
use Rattle.std.proofs.Common.{◌≡◌, ℕ, bytes_eq, codes, Bool, true, false, not, List, [], ◌∷◌, ◌++◌, if◌then◌else◌, Option, Some, None, refl, sym, ap, ◌∙◌, subst, true≢false}
use Rattle.std.specs.List.{AllByRecursion}
use Rattle.ds2_base.specs.declared.place.Place.{Place}
use Rattle.ds2_token.specs.Words.{is_word}
use Rattle.ds2_token.specs.declared.token.Token.{Token}
use Rattle.ds2_tree.specs.Expressions.{Expression, Constant, Null, Variable, Member, Call, Parenthesis, Sign, Chain, Comparison, Not, Operands, NoOperand, Operand, Arguments, NoArgument, Argument, IsExpression, AreOperands, HasOperand, AreArguments, AreFurther}
use Rattle.ds2_tree.specs.Globals.{Method}
use Rattle.ds2_tree.specs.declared.expressions.Callee.{Callee}
use Rattle.ds2_tree.specs.declared.expressions.Callee.TheVariants as callee
use Rattle.ds2_tree.specs.declared.expressions.ChainKind.{ChainKind}
use Rattle.ds2_tree.specs.declared.expressions.ChainKind.TheVariants as chain
use Rattle.ds2_value.specs.Types.{in_bounds}
use Rattle.ds2_value.specs.declared.ty.Ty.{Ty}
use Rattle.ds2_value.specs.declared.ty.Ty.TheVariants.{BigInt}
use Rattle.ds2_value.specs.declared.hash_function.HashFunction.{HashFunction}
use Rattle.ds2_value.specs.declared.hash_function.HashFunction.TheVariants.{NumItems}
use Rattle.ds2_value.specs.declared.hash_function.IteratorFunction.{IteratorFunction}
use Rattle.ds2_value.specs.declared.value.Value.TheVariants.{Null as NullValue}
use Rattle.ds2_meaning.specs.declared.location.Global.TheVariants.{First, Last, Present}
use Rattle.ds2_meaning.specs.declared.location.Reference.TheVariants.{At}
use Rattle.ds2_meaning.specs.IsTyped.{NamesInScope, type_in, reference_type, IsNumeric, chain_type, expression_type, AreTypedLinks, AreTypedArguments}
use Rattle.ds2_meaning.specs.ProgramTree.{is_listed}
use Rattle.ds2_meaning.specs.TypedExpression as tree
use Rattle.ds2_names.specs.NameRules.{is_flag_word}
use Rattle.ds2_names.specs.SourceUnit.{spelled_name}
use Rattle.ds2_names.specs.Uses.{first_place, method_named}
use Rattle.ds2_elaboration.specs.ExpressionTypes.{TypeScope, ObjectCalls, InstanceCalls, HashCalls, IteratorCalls, ParameterCalls, KnownVariable, hash_function_named, iterator_function_named, known_parameter, known_global, global_variable, known_before_globals, known_variable, variable_node, value_of_variable, elaborated_variable, flag_node, elaborated_flag, object_in_scope, member_of_object, elaborated_member, number_of_method, ElaboratedArguments, arguments_for, result_of_method, elaborated_method_call, method_or_function_call, values_for, elaborated_hash_call, elaborated_iterator_call, elaborated_instance_call, elaborated_object_call, elaborated_call, ElaboratedLinks, truth_links, ChainSoFar, chain_of_first, chain_up_to, link_refusals, value_links, is_truth_chain, elaborated, elaborated_operands, elaborated_arguments}
use Rattle.ds2_elaboration.specs.FunctionTypes.{ElaboratedArgument}
use Rattle.ds2_elaboration.specs.OperatorTypes.{elaborated_link}
use Rattle.ds2_elaboration.specs.SourceTypes.{elaborated_parameters, returned_type}
use Rattle.ds2_elaboration.specs.TypedForms.{IsOfTyping, IsSoundlyElaborated, IsSoundArgument, IsLeft, LinkFits}
use Rattle.ds2_elaboration.specs.TypedScopes.{IsBoundedIfAny, MethodStands, ObjectStands, ScopeStands, ExpressionsAreTyped}
use Rattle.ds2_elaboration.specs.Typings.{TypeRefusals, clash_unless, Typing, Known, NullAt, Unknown, ElaboratedExpression, form_of_type, typing_behind, form_of_operands, elaborated_nameless, truth_refusals}
use Rattle.ds2_elaboration.proofs.Arguments.{method_arguments}
use Rattle.ds2_elaboration.proofs.Choices.{nameless_typed, any_of_typing, null_call_typed, either, function_typed}
use Rattle.ds2_elaboration.proofs.Comparisons.{comparison_typed}
use Rattle.ds2_elaboration.proofs.Constants.{constant_typed}
use Rattle.ds2_elaboration.proofs.Links.{sign_typed, not_typed, next_link}
use Rattle.ds2_elaboration.proofs.Operands.{unclashed, numeric, truth_operand, form_typed}
use Rattle.ds2_elaboration.proofs.Outcome.{both_empty}

-- a variable that a name stands for is in scope, of a type in bounds
pub record KnownStands (names : NamesInScope) (v : KnownVariable) : Type 0 where
  pub there : reference_type names v.reference ≡ Some v.ty
  pub bounds : in_bounds v.ty ≡ true

abbrev pub StandsIfKnown : NamesInScope → Option KnownVariable → Type 0
StandsIfKnown names None = Unit {0}
StandsIfKnown names (Some v) = KnownStands names v

module _ (scope : TypeScope) (names : NamesInScope) (stands : ScopeStands scope names) where
  -- ---- names

  flag_stands : (name : List ℕ) (b : Bool) → is_listed scope.flags name ≡ b
      → StandsIfKnown names (if b then Some (record { reference = At (Present name); ty = BigInt; refusals = [] }) else None)
  flag_stands name true e = record { there = stands.flags name e; bounds = refl }
  flag_stands name false e = tt

  parameter_stands : (name : List ℕ) (found : Option Ty) → type_in scope.parameters name ≡ found → StandsIfKnown names (known_parameter scope name found)
  parameter_stands name (Some ty) e = let p = stands.parameters name ty e in record { there = p.0; bounds = p.1 }
  parameter_stands name None e = flag_stands name (is_listed scope.flags name) refl

  global_stands : (name : List ℕ) (found : Option Ty) → type_in scope.variables name ≡ found → StandsIfKnown names (known_global scope name found)
  global_stands name (Some ty) e = let p = stands.variables name ty e in record { there = p.0; bounds = p.1 }
  global_stands name None e = parameter_stands name (type_in scope.parameters name) refl

  -- a global of a method's unit
  pub global_found : (name : List ℕ) → StandsIfKnown names (global_variable scope name)
  global_found name = global_stands name (type_in scope.variables name) refl

  local_stands : (name : List ℕ) (found : Option Ty) → type_in scope.locals name ≡ found → StandsIfKnown names (known_before_globals scope name found)
  local_stands name (Some ty) e = let p = stands.locals name ty e in record { there = p.0; bounds = p.1 }
  local_stands name None e = global_found name

  pub known_stands : (name : List ℕ) → StandsIfKnown names (known_variable scope name)
  known_stands name = local_stands name (type_in scope.locals name) refl

  variable_value : (place : Place) (found : Option KnownVariable) → StandsIfKnown names found → IsSoundlyElaborated names (value_of_variable place found)
  variable_value place None h = nameless_typed names place
  variable_value place (Some v) h = form_typed names v.refusals (variable_node v) (λ e. (h.there, h.bounds))

  pub variable_typed : (name : Token) → IsSoundlyElaborated names (elaborated_variable scope name)
  variable_typed name = variable_value name.place (known_variable scope (spelled_name name)) (known_stands (spelled_name name))

  flag_if : (place : Place) (name : List ℕ) (listed first last : Bool) → is_listed scope.bys name ≡ listed
      → IsSoundlyElaborated names (if not listed then elaborated_nameless place
      else if first then form_of_operands [] (flag_node (First name))
      else if last then form_of_operands [] (flag_node (Last name))
      else elaborated_nameless place)
  flag_if place name true first last e =
      either names first (form_of_operands [] (flag_node (First name))) (if last then form_of_operands [] (flag_node (Last name)) else elaborated_nameless place)
      (form_typed names [] (flag_node (First name)) (λ h. (stands.firsts name e, refl)))
      (either names last (form_of_operands [] (flag_node (Last name))) (elaborated_nameless place)
      (form_typed names [] (flag_node (Last name)) (λ h. (stands.lasts name e, refl))) (nameless_typed names place))
  flag_if place name false first last e = nameless_typed names place

  pub flag_typed : (object member : Token) → IsSoundlyElaborated names (elaborated_flag scope object member)
  flag_typed object member =
      flag_if object.place (spelled_name member) (is_listed scope.bys (spelled_name member)) (is_word (codes "first") object) (is_word (codes "last") object) refl

  -- ---- members of objects

  -- a call of a hash object that is there
  hash_called : (object : Token) (f : HashFunction) → ObjectStands names (spelled_name object) HashCalls
      → IsSoundlyElaborated names (form_of_type BigInt [] (tree.HashCalled (spelled_name object) f))
  hash_called object f o = λ h. (o, refl, refl)

  member_stands : (object member : Token) (found : Option ObjectCalls) → object_in_scope scope (spelled_name object) ≡ found
      → IsSoundlyElaborated names (member_of_object object member found)
  member_stands object member None e = nameless_typed names object.place
  member_stands object member (Some (InstanceCalls methods)) e = nameless_typed names object.place
  member_stands object member (Some HashCalls) e =
      either names (bytes_eq (spelled_name member) (codes "num_items")) (form_of_type BigInt [] (tree.HashCalled (spelled_name object) NumItems))
      (elaborated_nameless object.place) (hash_called object NumItems (stands.objects (spelled_name object) HashCalls e)) (nameless_typed names object.place)
  member_stands object member (Some IteratorCalls) e = nameless_typed names object.place
  member_stands object member (Some (ParameterCalls parameters)) e = nameless_typed names object.place

  pub member_typed : (object member : Token) → IsSoundlyElaborated names (elaborated_member scope object member)
  member_typed object member =
      let found = object_in_scope scope (spelled_name object) in
      either names (is_flag_word object) (elaborated_flag scope object member) (member_of_object object member found)
      (flag_typed object member) (member_stands object member found refl)

  -- ---- calls

  result_typed : (place : Place) (instance : Option (List ℕ)) (number : ℕ) (m : Method) (arguments : ElaboratedArguments) (returned : Option Ty)
      → returned_type m.returns ≡ returned → (s : MethodStands (names.methods instance) number m)
      → (arguments.refusals ≡ [] → AreTypedArguments names s.method.parameters arguments.arguments)
      → IsSoundlyElaborated names (result_of_method place instance number arguments returned)
  result_typed place instance number m arguments (Some ty) e s f =
      λ h. ((s.method, s.there, s.returns ∙ e, f h), refl, subst IsBoundedIfAny e s.result_bounds)
  result_typed place instance number m arguments None e s f =
      form_typed names (arguments.refusals ++ clash_unless false place) (tree.Called instance number arguments.arguments BigInt) (λ h.
      let p = both_empty arguments.refusals (clash_unless false place) h in absurd (true≢false (sym (unclashed false place p.1))))

  -- a call of a method, of the unit or of an instance
  method_call : (instance : Option (List ℕ)) (methods : List Method) (name : Token) (m : Method) (xs : List ElaboratedArgument)
      → MethodStands (names.methods instance) (number_of_method methods (spelled_name name)) m → AllByRecursion (IsSoundArgument names) xs
      → IsSoundlyElaborated names (elaborated_method_call instance methods name m xs)
  method_call instance methods name m xs s f =
      let number = number_of_method methods (spelled_name name) in
      result_typed name.place instance number m (arguments_for name.place (elaborated_parameters m) xs) (returned_type m.returns) refl s
      (method_arguments names (names.methods instance) name.place number m xs s f)

  named_call : (name : Token) (xs : List ElaboratedArgument) (found : Option Method) → method_named scope.methods (spelled_name name) ≡ found
      → AllByRecursion (IsSoundArgument names) xs → IsSoundlyElaborated names (method_or_function_call scope name xs found)
  named_call name xs (Some m) e f = method_call None scope.methods name m xs (stands.methods (spelled_name name) m e) f
  named_call name xs None e f = function_typed names name xs f

  instance_call : (object name : Token) (methods : List Method) (xs : List ElaboratedArgument) → ObjectStands names (spelled_name object) (InstanceCalls methods)
      → AllByRecursion (IsSoundArgument names) xs → (found : Option Method) → method_named methods (spelled_name name) ≡ found
      → IsSoundlyElaborated names (elaborated_instance_call object name methods xs found)
  instance_call object name methods xs o f None e = nameless_typed names object.place
  instance_call object name methods xs o f (Some m) e = method_call (Some (spelled_name object)) methods name m xs (o (spelled_name name) m e) f

  hash_call : (object method : Token) (f : Option HashFunction) → ObjectStands names (spelled_name object) HashCalls
      → IsSoundlyElaborated names (elaborated_hash_call object method f)
  hash_call object method None o = nameless_typed names object.place
  hash_call object method (Some f) o = hash_called object f o

  iterator_call : (object method : Token) (f : Option IteratorFunction) → ObjectStands names (spelled_name object) IteratorCalls
      → IsSoundlyElaborated names (elaborated_iterator_call object method f)
  iterator_call object method None o = nameless_typed names object.place
  iterator_call object method (Some f) o = λ h. (o, refl, refl)

  -- a call on an object
  pub object_call : (object method : Token) (xs : List ElaboratedArgument) → AllByRecursion (IsSoundArgument names) xs → (found : Option ObjectCalls)
      → object_in_scope scope (spelled_name object) ≡ found → IsSoundlyElaborated names (elaborated_object_call object method xs found)
  object_call object method xs f None e = nameless_typed names object.place
  object_call object method xs f (Some (InstanceCalls methods)) e =
      instance_call object method methods xs (stands.objects (spelled_name object) (InstanceCalls methods) e) f (method_named methods (spelled_name method)) refl
  object_call object method xs f (Some HashCalls) e =
      hash_call object method (hash_function_named (spelled_name method)) (stands.objects (spelled_name object) HashCalls e)
  object_call object method xs f (Some IteratorCalls) e =
      iterator_call object method (iterator_function_named (spelled_name method)) (stands.objects (spelled_name object) IteratorCalls e)
  object_call object method xs f (Some (ParameterCalls parameters)) e =
      let own = (values_for method.place parameters xs).refusals in
      form_typed names (own ++ clash_unless false method.place) (tree.Constant NullValue BigInt) (λ h.
      let p = both_empty own (clash_unless false method.place) h in absurd (true≢false (sym (unclashed false method.place p.1))))

  pub call_typed : (f : Callee) (xs : List ElaboratedArgument) → AllByRecursion (IsSoundArgument names) xs → IsSoundlyElaborated names (elaborated_call scope f xs)
  call_typed (callee.Function name) xs f = named_call name xs (method_named scope.methods (spelled_name name)) refl f
  call_typed (callee.Null keyword) xs f = null_call_typed names keyword.place xs f
  call_typed (callee.Method object dot method) xs f = object_call object method xs f (object_in_scope scope (spelled_name object)) refl

  -- ---- chains

  -- a chain of `and` or `or` with an operand behind its first ends as a BIGINT
  truth_end : (kind : ChainKind) → is_truth_chain kind ≡ true → (before : TypeRefusals) (ty : Ty) (rest : Operands) → HasOperand rest
      → chain_type ty (truth_links kind before (elaborated_operands scope rest)).links ≡ BigInt
  truth_end kind k before ty NoOperand o = absurd o
  truth_end chain.And k before ty (Operand operator value NoOperand) o = refl
  truth_end chain.And k before ty (Operand operator value (Operand next second rest)) o =
      truth_end chain.And k (before ++ truth_refusals (first_place value) (elaborated scope value)) BigInt (Operand next second rest) tt
  truth_end chain.Or k before ty (Operand operator value NoOperand) o = refl
  truth_end chain.Or k before ty (Operand operator value (Operand next second rest)) o =
      truth_end chain.Or k (before ++ truth_refusals (first_place value) (elaborated scope value)) BigInt (Operand next second rest) tt
  truth_end chain.Sum k before ty (Operand operator value rest) o = cc
  truth_end chain.Product k before ty (Operand operator value rest) o = cc
  truth_end chain.Concatenation k before ty (Operand operator value rest) o = cc

  truth_chain_from : (place : Place) (x : ElaboratedExpression) (links : ElaboratedLinks) → IsSoundlyElaborated names x
      → ((truth_refusals place x ≡ [] → IsNumeric (expression_type x.node)) → links.refusals ≡ []
      → (truth_refusals place x ≡ []) × AreTypedLinks names (expression_type x.node) links.links)
      → chain_type (expression_type x.node) links.links ≡ BigInt
      → IsSoundlyElaborated names (form_of_type BigInt links.refusals (tree.Chain x.node links.links))
  truth_chain_from place x links f rest end h =
      let p = rest (λ e. numeric (expression_type x.node) (truth_operand names place x f e).passes) h in
      let o = truth_operand names place x f p.0 in
      ((o.typed, p.1), end, ap in_bounds end)

  left_of : (typing : Typing) (node : tree.TypedExpression) → IsOfTyping names typing node → IsLeft typing (expression_type node)
  left_of (Known ty) node h = (h.1, h.2)
  left_of (NullAt word) node h = ap (λ n. in_bounds (expression_type n)) h
  left_of Unknown node h = absurd h

  left_in_bounds : (left : Typing) (ty : Ty) → IsLeft left ty → in_bounds ty ≡ true
  left_in_bounds (Known t) ty l = l.1
  left_in_bounds (NullAt word) ty l = l
  left_in_bounds Unknown ty l = absurd l

  value_chain_from : (x : ElaboratedExpression) (links : ElaboratedLinks) → IsSoundlyElaborated names x
      → ((x.refusals ≡ [] → IsLeft x.typing (expression_type x.node)) → links.refusals ≡ []
      → (x.refusals ≡ []) × AreTypedLinks names (expression_type x.node) links.links × (in_bounds (chain_type (expression_type x.node) links.links) ≡ true))
      → IsSoundlyElaborated names (form_of_operands links.refusals (tree.Chain x.node links.links))
  value_chain_from x links f rest =
      form_typed names links.refusals (tree.Chain x.node links.links) (λ h.
      let p = rest (λ e. left_of x.typing x.node (f e)) h in
      ((any_of_typing names x.typing x.node (f p.0), p.1), p.2))

  -- what stands before the next operator
  left_behind : (broken : TypeRefusals) (ty : Ty) → in_bounds ty ≡ true → broken ≡ [] → IsLeft (typing_behind broken ty) ty
  left_behind [] ty bounds e = (refl, bounds)
  left_behind (r ∷ rs) ty bounds e = cc

  -- ---- expressions

  mutual
    -- an expression
    pub expression_typed : (e : Expression) → IsExpression e → IsSoundlyElaborated names (elaborated scope e)
    expression_typed (Constant t) g = constant_typed names t
    expression_typed (Null keyword) g = λ h. refl
    expression_typed (Variable name) g = variable_typed name
    expression_typed (Member object dot member) g = member_typed object member
    expression_typed (Call f opening xs closing) g = call_typed f (elaborated_arguments scope xs) (arguments_typed xs g.1)
    expression_typed (Parenthesis opening inner closing) g = expression_typed inner g
    expression_typed (Sign operator operand) g = sign_typed names operator (elaborated scope operand) (expression_typed operand g.1.0)
    expression_typed (Chain chain.And first rest) g =
        truth_chain_from (first_place first) (elaborated scope first) (truth_links chain.And (truth_refusals (first_place first) (elaborated scope first)) (elaborated_operands scope rest))
        (expression_typed first g.0.0)
        (λ n h. truth_typed chain.And refl (truth_refusals (first_place first) (elaborated scope first)) (expression_type (elaborated scope first).node) rest g.1.0 n h)
        (truth_end chain.And refl (truth_refusals (first_place first) (elaborated scope first)) (expression_type (elaborated scope first).node) rest g.1.1)
    expression_typed (Chain chain.Or first rest) g =
        truth_chain_from (first_place first) (elaborated scope first) (truth_links chain.Or (truth_refusals (first_place first) (elaborated scope first)) (elaborated_operands scope rest))
        (expression_typed first g.0.0)
        (λ n h. truth_typed chain.Or refl (truth_refusals (first_place first) (elaborated scope first)) (expression_type (elaborated scope first).node) rest g.1.0 n h)
        (truth_end chain.Or refl (truth_refusals (first_place first) (elaborated scope first)) (expression_type (elaborated scope first).node) rest g.1.1)
    expression_typed (Chain chain.Sum first rest) g =
        let x = elaborated scope first in
        value_chain_from x (value_links chain.Sum (chain_of_first x) (elaborated_operands scope rest)) (expression_typed first g.0.0)
        (λ l h. value_typed chain.Sum refl (chain_of_first x) rest g.1.0 l h)
    expression_typed (Chain chain.Product first rest) g =
        let x = elaborated scope first in
        value_chain_from x (value_links chain.Product (chain_of_first x) (elaborated_operands scope rest)) (expression_typed first g.0.0)
        (λ l h. value_typed chain.Product refl (chain_of_first x) rest g.1.0 l h)
    expression_typed (Chain chain.Concatenation first rest) g =
        let x = elaborated scope first in
        value_chain_from x (value_links chain.Concatenation (chain_of_first x) (elaborated_operands scope rest)) (expression_typed first g.0.0)
        (λ l h. value_typed chain.Concatenation refl (chain_of_first x) rest g.1.0 l h)
    expression_typed (Comparison left operator right) g =
        comparison_typed names operator (elaborated scope left) (elaborated scope right) (expression_typed left g.0.0) (expression_typed right g.2.0)
    expression_typed (Not operator operand) g = not_typed names (first_place operand) (elaborated scope operand) (expression_typed operand g.1.0)

    -- the further operands of a chain of `and` or `or`
    truth_typed : (kind : ChainKind) → is_truth_chain kind ≡ true → (before : TypeRefusals) (ty : Ty) (rest : Operands) → AreOperands kind rest
        → (before ≡ [] → IsNumeric ty) → (truth_links kind before (elaborated_operands scope rest)).refusals ≡ []
        → (before ≡ []) × AreTypedLinks names ty (truth_links kind before (elaborated_operands scope rest)).links
    truth_typed kind k before ty NoOperand g n h = (h, tt)
    truth_typed chain.And k before ty (Operand operator value rest) g n h =
        let x = elaborated scope value in
        let own = truth_refusals (first_place value) x in
        let p = truth_typed chain.And k (before ++ own) BigInt rest g.2 (λ e. tt) h in
        let q = both_empty before own p.0 in
        let o = truth_operand names (first_place value) x (expression_typed value g.1.0) q.1 in
        (q.0, (o.typed, (ty, refl, (n q.0, numeric (expression_type x.node) o.passes, refl)), p.1))
    truth_typed chain.Or k before ty (Operand operator value rest) g n h =
        let x = elaborated scope value in
        let own = truth_refusals (first_place value) x in
        let p = truth_typed chain.Or k (before ++ own) BigInt rest g.2 (λ e. tt) h in
        let q = both_empty before own p.0 in
        let o = truth_operand names (first_place value) x (expression_typed value g.1.0) q.1 in
        (q.0, (o.typed, (ty, refl, (n q.0, numeric (expression_type x.node) o.passes, refl)), p.1))
    truth_typed chain.Sum k before ty (Operand operator value rest) g n h = cc
    truth_typed chain.Product k before ty (Operand operator value rest) g n h = cc
    truth_typed chain.Concatenation k before ty (Operand operator value rest) g n h = cc

    -- those of another chain
    value_typed : (kind : ChainKind) → is_truth_chain kind ≡ false → (left : ChainSoFar) (rest : Operands) → AreOperands kind rest
        → (left.refusals ≡ [] → IsLeft left.typing left.ty) → (value_links kind left (elaborated_operands scope rest)).refusals ≡ []
        → (left.refusals ≡ []) × AreTypedLinks names left.ty (value_links kind left (elaborated_operands scope rest)).links
        × (in_bounds (chain_type left.ty (value_links kind left (elaborated_operands scope rest)).links) ≡ true)
    value_typed kind k left NoOperand g l h = (h, tt, left_in_bounds left.typing left.ty (l h))
    value_typed kind k left (Operand operator value rest) g l h =
        let x = elaborated scope value in
        let own = link_refusals kind operator left.typing x in
        let broken = left.refusals ++ own in
        let link = elaborated_link kind operator left.ty x.node in
        let fits : broken ≡ [] → LinkFits names left.ty link =
        λ e. let q = both_empty left.refusals own e in next_link names kind k operator left.typing left.ty x (l q.0) (expression_typed value g.1.0) q.1 in
        let p = value_typed kind k (chain_up_to link broken) rest g.2 (λ e. left_behind broken link.ty (fits e).bounds e) h in
        let f = fits p.0 in
        ((both_empty left.refusals own p.0).0, (f.operand, f.left, p.1), p.2)

    -- arguments in order
    pub arguments_typed : (xs : Arguments) → AreArguments xs → AllByRecursion (IsSoundArgument names) (elaborated_arguments scope xs)
    arguments_typed NoArgument g = tt
    arguments_typed (Argument comma value rest) g = (expression_typed value g.1, further_typed rest g.2)

    further_typed : (xs : Arguments) → AreFurther xs → AllByRecursion (IsSoundArgument names) (elaborated_arguments scope xs)
    further_typed NoArgument g = tt
    further_typed (Argument comma value rest) g = (expression_typed value g.1, further_typed rest g.2)

pub expressions_are_typed : ExpressionsAreTyped
expressions_are_typed = expression_typed
