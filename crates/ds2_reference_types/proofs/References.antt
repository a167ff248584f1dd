-- Which expressions are variables that may be set.
use Rattle.std.proofs.Common.{◌≡◌, ℕ, Bool, true, false, not, if◌then◌else◌, List, [], ◌∷◌, Option, Some, None, refl, sym, ap, ◌∙◌}
use Rattle.std.specs.Prelude.{ℤ, max, ◌&&◌, bytes_eq, codes, length, option_and_then}
use Rattle.ds2_value.specs.declared.ty.Ty.TheVariants.{BigInt}
use Rattle.ds2_meaning.specs.IsTyped.{expression_type, type_scale, decimal_result}
use Rattle.ds2_meaning.specs.declared.expressions.Function.{Function}
use Rattle.ds2_base.specs.declared.place.Place.{Place}
use Rattle.ds2_token.specs.declared.token.Token.{Token}
use Rattle.ds2_token.specs.Values.{token_integer, token_decimal, token_text}
use Rattle.ds2_token.specs.Words.{is_integer, is_decimal, is_word}
use Rattle.ds2_decimal.specs.Decimal.{Decimal}
use Rattle.ds2_value.specs.declared.ty.Ty.{Ty}
use Rattle.ds2_value.specs.declared.hash_function.HashFunction.{HashFunction}
use Rattle.ds2_value.specs.declared.hash_function.HashFunction.TheVariants.{NumItems}
use Rattle.ds2_value.specs.declared.hash_function.IteratorFunction.{IteratorFunction}
use Rattle.ds2_tree.specs.Expressions.{Expression, Constant, Null, Variable, Member, Call, Parenthesis, Sign, Chain, Comparison, Not}
use Rattle.ds2_tree.specs.Globals.{Method}
use Rattle.ds2_tree.specs.declared.expressions.Callee.{Callee}
use Rattle.ds2_tree.specs.declared.expressions.Callee.TheVariants as callee
use Rattle.ds2_tree.specs.declared.expressions.ChainKind.TheVariants as chain
use Rattle.ds2_meaning.specs.TypedExpression as tree
use Rattle.ds2_meaning.specs.ProgramTree.{is_listed}
use Rattle.ds2_value.specs.declared.value_function.ValueFunction.TheVariants as of_values
use Rattle.ds2_meaning.specs.declared.expressions.Function.TheVariants as function
use Rattle.ds2_meaning.specs.declared.location.Global.TheVariants.{First, Last}
use Rattle.ds2_meaning.specs.declared.location.Reference.{Reference}
use Rattle.ds2_names.specs.Functions.{null_test, function_named, takes_so_many}
use Rattle.ds2_names.specs.declared.functions.FunctionOfMany.{FunctionOfMany}
use Rattle.ds2_names.specs.declared.functions.FunctionOfMany.TheVariants as many
use Rattle.ds2_names.specs.declared.functions.FunctionRow.{FunctionRow}
use Rattle.ds2_names.specs.declared.functions.NamedFunction.{NamedFunction}
use Rattle.ds2_names.specs.declared.functions.NamedFunction.TheVariants as named
use Rattle.ds2_names.specs.NameRules.{is_flag_word}
use Rattle.ds2_names.specs.SourceUnit.{spelled_name}
use Rattle.ds2_names.specs.Uses.{method_named}
use Rattle.ds2_elaboration.specs.SourceTypes.{elaborated_parameters, returned_type}
use Rattle.ds2_elaboration.specs.FunctionTypes.{ElaboratedArgument, nodes_in_order, remainder_node, form_of_many, form_of_function, form_of_row, elaborated_function}
use Rattle.ds2_elaboration.specs.Typings.{ElaboratedExpression, elaborated_nameless, form_of_operands, form_of_type, is_integer_type, widened_node}
use Rattle.ds2_elaboration.specs.ExpressionTypes.{TypeScope, KnownVariable, ElaboratedArguments, known_variable, value_of_variable, elaborated_variable, flag_node, elaborated_flag, is_settable_reference, reference_in, constant_node, integer_node, decimal_node, text_node, elaborated_call, method_or_function_call, result_of_method, elaborated, elaborated_arguments, arguments_for, number_of_method, text_within, ObjectCalls, InstanceCalls, HashCalls, IteratorCalls, ParameterCalls, object_in_scope, member_of_object, elaborated_member, hash_function_named, iterator_function_named, elaborated_hash_call, elaborated_iterator_call, elaborated_instance_call, elaborated_object_call}
use Rattle.ds2_reference_types.specs.Scopes.{reference_of, known_in, IsKnownAs, IsScopeOf}
use Rattle.ds2_reference_types.specs.declared.scopes.KnownName.{KnownName}
use Rattle.ds2_reference_types.specs.declared.scopes.Scope.{Scope}
use Rattle.ds2_reference_types.proofs.KnownNames.{none_not_some, some_not_none, inside}

-- a typed tree that is no variable which may be set
abbrev HasNone : tree.TypedExpression → Type 0
HasNone node = reference_in node ≡ None

-- an expression that is none
abbrev IsNone : ElaboratedExpression → Type 0
IsNone e = HasNone e.node

none_either : (b : Bool) (x y : ElaboratedExpression) → IsNone x → IsNone y → IsNone (if b then x else y)
none_either true x y h k = h
none_either false x y h k = k

node_either : (b : Bool) (x y : tree.TypedExpression) → HasNone x → HasNone y → HasNone (if b then x else y)
node_either true x y h k = h
node_either false x y h k = k

-- ---- constants

no_integer : (i : Option ℤ) → HasNone (integer_node i)
no_integer None = refl
no_integer (Some i) = refl

no_decimal : (d : Option Decimal) → HasNone (decimal_node d)
no_decimal None = refl
no_decimal (Some d) = refl

no_text : (t : Option (List ℕ)) → HasNone (text_node t)
no_text None = refl
no_text (Some t) = refl

no_constant : (t : Token) → HasNone (constant_node t)
no_constant t =
    node_either (is_integer t) (integer_node (token_integer t)) (if is_decimal t then decimal_node (token_decimal t) else text_node (option_and_then text_within (token_text t)))
    (no_integer (token_integer t))
    (node_either (is_decimal t) (decimal_node (token_decimal t)) (text_node (option_and_then text_within (token_text t))) (no_decimal (token_decimal t))
    (no_text (option_and_then text_within (token_text t))))

-- ---- flags

no_flag_variable : (types : TypeScope) (object member : Token) → IsNone (elaborated_flag types object member)
no_flag_variable types object member =
    by (is_listed types.bys (spelled_name member)) (is_word (codes "first") object) (is_word (codes "last") object)
  where
    by : (a b c : Bool)
        → IsNone (if not a then elaborated_nameless object.place else if b then form_of_operands [] (flag_node (First (spelled_name member)))
        else if c then form_of_operands [] (flag_node (Last (spelled_name member))) else elaborated_nameless object.place)
    by false b c = refl
    by true true c = refl
    by true false true = refl
    by true false false = refl

-- ---- calls

no_remainder : (a b : tree.TypedExpression) → HasNone (remainder_node a b)
no_remainder a b = by (is_integer_type left && is_integer_type right)
  where
    left : Ty
    left = expression_type a

    right : Ty
    right = expression_type b

    by : (c : Bool)
        → HasNone (if c then tree.Applied (function.Value of_values.IntegerModulo) (nodes_in_order (a ∷ b ∷ [])) BigInt
        else tree.Applied (function.Value of_values.DecimalModulo) (nodes_in_order (widened_node a ∷ widened_node b ∷ [])) (decimal_result (max (type_scale left) (type_scale right))))
    by true = refl
    by false = refl

no_many : (f : FunctionOfMany) (name : Place) (xs : List ElaboratedArgument) → IsNone (form_of_many f name xs)
no_many many.Coalesce name xs = refl
no_many many.Greatest name xs = refl
no_many many.Least name xs = refl

no_form : (f : NamedFunction) (name : Place) (xs : List ElaboratedArgument) → IsNone (form_of_function f name xs)
no_form (named.OfOne f) name [] = refl
no_form (named.OfOne f) name (x ∷ []) = refl
no_form (named.OfOne f) name (x ∷ y ∷ more) = refl
no_form (named.OfMany f) name xs = no_many f name xs
no_form named.Remainder name [] = refl
no_form named.Remainder name (x ∷ []) = refl
no_form named.Remainder name (x ∷ y ∷ []) = no_remainder x.value.node y.value.node
no_form named.Remainder name (x ∷ y ∷ z ∷ more) = refl
no_form named.Substring name [] = refl
no_form named.Substring name (x ∷ numbers) = refl

no_row : (f : Option FunctionRow) (name : Place) (xs : List ElaboratedArgument) → IsNone (form_of_row f name xs)
no_row None name xs = refl
no_row (Some f) name xs = none_either (takes_so_many f.counts (length xs)) (form_of_function f.function name xs) (elaborated_nameless name) (no_form f.function name xs) refl

no_function : (t : Token) (xs : List ElaboratedArgument) → IsNone (elaborated_function t xs)
no_function t xs = no_row (function_named (spelled_name t)) t.place xs

no_result : (place : Place) (instance : Option (List ℕ)) (number : ℕ) (arguments : ElaboratedArguments) (ty : Option Ty)
    → IsNone (result_of_method place instance number arguments ty)
no_result place instance number arguments None = refl
no_result place instance number arguments (Some ty) = refl

no_named : (types : TypeScope) (name : Token) (xs : List ElaboratedArgument) (m : Option Method) → IsNone (method_or_function_call types name xs m)
no_named types name xs None = no_function name xs
no_named types name xs (Some m) =
    no_result name.place None (number_of_method types.methods (spelled_name name)) (arguments_for name.place (elaborated_parameters m) xs) (returned_type m.returns)

no_instance_call : (object name : Token) (methods : List Method) (xs : List ElaboratedArgument) (m : Option Method) → IsNone (elaborated_instance_call object name methods xs m)
no_instance_call object name methods xs None = refl
no_instance_call object name methods xs (Some m) =
    no_result name.place (Some (spelled_name object)) (number_of_method methods (spelled_name name)) (arguments_for name.place (elaborated_parameters m) xs) (returned_type m.returns)

no_hash_call : (object name : Token) (f : Option HashFunction) → IsNone (elaborated_hash_call object name f)
no_hash_call object name None = refl
no_hash_call object name (Some f) = refl

no_iterator_call : (object name : Token) (f : Option IteratorFunction) → IsNone (elaborated_iterator_call object name f)
no_iterator_call object name None = refl
no_iterator_call object name (Some f) = refl

no_object_value : (object name : Token) (xs : List ElaboratedArgument) (calls : Option ObjectCalls) → IsNone (elaborated_object_call object name xs calls)
no_object_value object name xs None = refl
no_object_value object name xs (Some (InstanceCalls methods)) = no_instance_call object name methods xs (method_named methods (spelled_name name))
no_object_value object name xs (Some HashCalls) = no_hash_call object name (hash_function_named (spelled_name name))
no_object_value object name xs (Some IteratorCalls) = no_iterator_call object name (iterator_function_named (spelled_name name))
no_object_value object name xs (Some (ParameterCalls parameters)) = refl

-- ---- members

no_object_member : (object member : Token) (calls : Option ObjectCalls) → IsNone (member_of_object object member calls)
no_object_member object member None = refl
no_object_member object member (Some (InstanceCalls methods)) = refl
no_object_member object member (Some HashCalls) =
    none_either (bytes_eq (spelled_name member) (codes "num_items")) (form_of_type BigInt [] (tree.HashCalled (spelled_name object) NumItems)) (elaborated_nameless object.place) refl refl
no_object_member object member (Some IteratorCalls) = refl
no_object_member object member (Some (ParameterCalls parameters)) = refl

no_member : (types : TypeScope) (object member : Token) → IsNone (elaborated_member types object member)
no_member types object member =
    none_either (is_flag_word object) (elaborated_flag types object member) (member_of_object object member (object_in_scope types (spelled_name object)))
    (no_flag_variable types object member) (no_object_member object member (object_in_scope types (spelled_name object)))

no_call : (types : TypeScope) (f : Callee) (xs : List ElaboratedArgument) → IsNone (elaborated_call types f xs)
no_call types (callee.Function name) xs = no_named types name xs (method_named types.methods (spelled_name name))
no_call types (callee.Null keyword) xs = no_form (named.OfOne null_test) keyword.place xs
no_call types (callee.Method object dot method) xs = no_object_value object method xs (object_in_scope types (spelled_name object))

-- ---- expressions

-- an expression that is neither a name nor in parentheses
abbrev pub IsOther : Expression → Type 0
IsOther (Variable name) = ⊥
IsOther (Parenthesis opening inner closing) = ⊥
IsOther _ = Unit {0}

-- it is no variable that may be set
pub no_reference : (types : TypeScope) (e : Expression) → IsOther e → reference_in (elaborated types e).node ≡ None
no_reference types (Constant t) h = no_constant t
no_reference types (Null keyword) h = refl
no_reference types (Variable name) h = absurd h
no_reference types (Member object dot member) h = no_member types object member
no_reference types (Call f opening arguments closing) h = no_call types f (elaborated_arguments types arguments)
no_reference types (Parenthesis opening inner closing) h = absurd h
no_reference types (Sign operator operand) h = refl
no_reference types (Chain chain.And first rest) h = refl
no_reference types (Chain chain.Or first rest) h = refl
no_reference types (Chain chain.Concatenation first rest) h = refl
no_reference types (Chain chain.Sum first rest) h = refl
no_reference types (Chain chain.Product first rest) h = refl
no_reference types (Comparison left operator right) h = refl
no_reference types (Not operator operand) h = refl

-- ---- names

-- a variable, where it may be set
abbrev pub settable_one : Reference → Option Reference
settable_one r = if is_settable_reference r then Some r else None

unsettable : (place : Place) (k : Option KnownName) (v : Option KnownVariable) → k ≡ None → IsKnownAs k v → None ≡ reference_in (value_of_variable place v).node
unsettable place None None e h = refl
unsettable place None (Some v) e h = absurd h
unsettable place (Some k) v e h = absurd (none_not_some k e)

settable_is : (place : Place) (k : Option KnownName) (v : Option KnownVariable) (known : KnownName) → k ≡ Some known → IsKnownAs k v
    → settable_one (reference_of known.standing known.name) ≡ reference_in (value_of_variable place v).node
settable_is place None v known e h = absurd (some_not_none known e)
settable_is place (Some k) None known e h = absurd h
settable_is place (Some k) (Some v) known e h =
    ap (λ (n : KnownName). settable_one (reference_of n.standing n.name)) (sym (inside k known e)) ∙ ap settable_one h.reference

module _ (types : TypeScope) (scope : Scope) (name : Token) (spelled : List ℕ) (found : Option KnownName) where
  -- a name that stands for nothing
  pub no_settable : IsScopeOf types scope → spelled ≡ spelled_name name → found ≡ known_in scope spelled → found ≡ None
      → None ≡ reference_in (elaborated_variable types name).node
  no_settable s e f g =
      unsettable name.place (known_in scope (spelled_name name)) (known_variable types (spelled_name name)) (ap (known_in scope) (sym e) ∙ sym f ∙ g)
      (s.variables (spelled_name name))

  -- a name that stands for a variable
  pub a_settable : (known : KnownName) → IsScopeOf types scope → spelled ≡ spelled_name name → found ≡ known_in scope spelled → found ≡ Some known
      → settable_one (reference_of known.standing known.name) ≡ reference_in (elaborated_variable types name).node
  a_settable known s e f g =
      settable_is name.place (known_in scope (spelled_name name)) (known_variable types (spelled_name name)) known (ap (known_in scope) (sym e) ∙ sym f ∙ g)
      (s.variables (spelled_name name))
