-- What becomes of the expressions of a method.
use Rattle.std.specs.List.{find}
use Rattle.std.specs.Option.{option_map}
use Rattle.std.specs.Prelude.{ℕ, ℤ, max, nat_le, ◌++◌, Bool, true, false, not, bytes_eq, codes, if◌then◌else◌, List, [], ◌∷◌, filter, position, unwrap_or, is_some, option_and_then, Option, Some, None}
use Rattle.ds2_value.specs.Types.{same_ty}
use Rattle.ds2_base.specs.Characters.{char_count}
use Rattle.ds2_base.specs.declared.place.Place.{Place}
use Rattle.ds2_decimal.specs.Decimal.{Decimal, digit_count}
use Rattle.ds2_token.specs.Values.{token_integer, token_decimal, token_text}
use Rattle.ds2_token.specs.Words.{is_integer, is_decimal, is_word}
use Rattle.ds2_token.specs.declared.token.Token.{Token}
use Rattle.ds2_tree.specs.Expressions.{Expression, Constant, Null, Variable, Member, Call, Parenthesis, Sign, Chain, Comparison, Not, Operands, NoOperand, Operand, Arguments, NoArgument, Argument}
use Rattle.ds2_tree.specs.Globals.{Method}
use Rattle.ds2_tree.specs.declared.expressions.Callee.{Callee}
use Rattle.ds2_tree.specs.declared.expressions.Callee.TheVariants as callee
use Rattle.ds2_tree.specs.declared.expressions.ChainKind.{ChainKind}
use Rattle.ds2_tree.specs.declared.expressions.ChainKind.TheVariants as chain
use Rattle.ds2_value.specs.declared.ty.TheConstants.{TEXT_CHARACTERS}
use Rattle.ds2_value.specs.declared.ty.Ty.{Ty}
use Rattle.ds2_value.specs.declared.ty.Ty.TheVariants.{BigInt, Decimal as DecimalOf, Varchar}
use Rattle.ds2_value.specs.declared.hash_function.HashFunction.{HashFunction}
use Rattle.ds2_value.specs.declared.hash_function.HashFunction.TheVariants.{Find, Check, Add, Replace, Remove, Clear, NumItems}
use Rattle.ds2_value.specs.declared.hash_function.IteratorFunction.{IteratorFunction}
use Rattle.ds2_value.specs.declared.hash_function.IteratorFunction.TheVariants as iterator
use Rattle.ds2_value.specs.declared.value.Value.TheVariants.{Null as NullValue, Int, Dec, Txt}
use Rattle.ds2_meaning.specs.declared.globals.Variable as typed
use Rattle.ds2_meaning.specs.declared.location.Global.{Global}
use Rattle.ds2_meaning.specs.declared.location.Global.TheVariants.{Named, First, Last, Present, Parameter as ThreadParameter}
use Rattle.ds2_meaning.specs.declared.location.Reference.{Reference}
use Rattle.ds2_meaning.specs.declared.location.Reference.TheVariants.{At, Local}
use Rattle.ds2_meaning.specs.declared.methods.Parameter.{Parameter}
use Rattle.ds2_meaning.specs.IsTyped.{expression_type, type_in}
use Rattle.ds2_meaning.specs.ProgramTree.{is_listed}
use Rattle.ds2_meaning.specs.declared.refusals.TypeKind.TheVariants.{TypeClash}
use Rattle.ds2_names.specs.NameRules.{from_each, is_flag_word}
use Rattle.ds2_names.specs.SourceUnit.{PlacedName, spelled_name, is_system_name}
use Rattle.ds2_meaning.specs.TypedExpression as tree
use Rattle.ds2_meaning.specs.TypedStatement.{ParameterValue}
use Rattle.ds2_names.specs.Uses.{first_place, method_named}
use Rattle.ds2_elaboration.specs.FunctionTypes.{ElaboratedArgument, elaborated_null_call, elaborated_function}
use Rattle.ds2_elaboration.specs.OperatorTypes.{is_operand_type, pair_refusals, ElaboratedLink, elaborated_link, elaborated_comparison, elaborated_sign, elaborated_not}
use Rattle.ds2_elaboration.specs.SourceTypes.{elaborated_parameters, returned_type}
use Rattle.ds2_elaboration.specs.Typings.{TypeRefusals, type_refusal_at, clash_unless, Typing, ElaboratedExpression, form_of_type, typing_behind, form_of_operands, elaborated_null, elaborated_nameless, where_known, where_both_known, operand_clash, truth_refusals, assigned_refusals, assigned_node}

-- ---- constants

-- an integer constant of a number
abbrev pub integer_node : Option ℤ → tree.TypedExpression
integer_node None = tree.Constant NullValue BigInt
integer_node (Some i) = tree.Constant (Int i) BigInt

-- an integer constant is a BIGINT; each integer of a source is in its bounds
abbrev pub integer_constant : Token → tree.TypedExpression
integer_constant t = integer_node (token_integer t)

-- a decimal constant has as many digits as it is written with, leading zeros not counted, at least one and at least those behind
-- its point
abbrev pub decimal_type : Decimal → Ty
decimal_type d = DecimalOf (max 1 (max (digit_count d) d.scale)) d.scale

-- a decimal constant of a number
abbrev pub decimal_node : Option Decimal → tree.TypedExpression
decimal_node None = tree.Constant NullValue (DecimalOf 1 0)
decimal_node (Some d) = tree.Constant (Dec d) (decimal_type d)

-- a decimal constant; each decimal of a source is in its bounds
abbrev pub typed_decimal : Token → tree.TypedExpression
typed_decimal t = decimal_node (token_decimal t)

-- a text of at most 1,024 characters
abbrev pub text_within : List ℕ → Option (List ℕ)
text_within text = if nat_le (char_count text) TEXT_CHARACTERS then Some text else None

-- a text constant of a text is a VARCHAR of its characters, at least one
abbrev pub text_node : Option (List ℕ) → tree.TypedExpression
text_node None = tree.Constant NullValue (Varchar 1)
text_node (Some text) = tree.Constant (Txt text) (Varchar (max 1 (char_count text)))

-- a text constant; each text of a source is in its bounds
abbrev pub typed_text : Token → tree.TypedExpression
typed_text t = text_node (option_and_then text_within (token_text t))

-- a constant
abbrev pub constant_node : Token → tree.TypedExpression
constant_node t = if is_integer t then integer_constant t else if is_decimal t then typed_decimal t else typed_text t

-- ---- names

-- what can be called on an object: the methods of the package that an instance is one of, the calls of hash objects and of
-- iterators, and `setparms` of an instance of a thread program with these parameters
pub data ObjectCalls : Type 0 where
  InstanceCalls : (methods : List Method) → ObjectCalls
  HashCalls : ObjectCalls
  IteratorCalls : ObjectCalls
  ParameterCalls : (parameters : List typed.Variable) → ObjectCalls

-- an object that a unit declares: an instance of a package or of a thread program, a hash object, or an iterator
pub record ObjectInScope : Type 0 where
  pub name : List ℕ
  pub calls : ObjectCalls

-- what the statements of a method see: the variables of the vector, those columns among them whose tables do not join, each at the
-- table at which they do not, the parameters of a thread program, the `in=` flags and BY variables, the objects, the parameters and
-- locals that hide them, the methods of the unit that can be called, the names of its outputs, and the type that the method returns
pub record TypeScope : Type 0 where
  pub variables : List typed.Variable
  pub parameters : List typed.Variable
  pub objects : List ObjectInScope
  pub unjoined : List PlacedName
  pub flags : List (List ℕ)
  pub bys : List (List ℕ)
  pub locals : List typed.Variable
  pub methods : List Method
  pub outputs : List (List ℕ)
  pub returns : Option Ty

-- a variable that a name stands for, with its type, and the rule that is broken where it is a column whose tables do not join
pub record KnownVariable : Type 0 where
  pub reference : Reference
  pub ty : Ty
  pub refusals : TypeRefusals

-- what is known of the type of a variable: nothing where it is a column whose tables do not join
abbrev pub variable_typing : KnownVariable → Typing
variable_typing v = typing_behind v.refusals v.ty

-- TypeClash at the table at which the tables of a column of this name do not join
abbrev pub unjoined_refusals : TypeScope → List ℕ → TypeRefusals
unjoined_refusals scope name = from_each (λ (c : PlacedName). if bytes_eq c.name name then type_refusal_at TypeClash c.place else []) scope.unjoined

-- the call of a hash object of this name
abbrev pub hash_function_named : List ℕ → Option HashFunction
hash_function_named name =
    if bytes_eq name (codes "find") then Some Find
    else if bytes_eq name (codes "check") then Some Check
    else if bytes_eq name (codes "add") then Some Add
    else if bytes_eq name (codes "replace") then Some Replace
    else if bytes_eq name (codes "remove") then Some Remove
    else if bytes_eq name (codes "clear") then Some Clear
    else if bytes_eq name (codes "num_items") then Some NumItems
    else None

-- the call of an iterator of this name
abbrev pub iterator_function_named : List ℕ → Option IteratorFunction
iterator_function_named name =
    if bytes_eq name (codes "first") then Some iterator.First
    else if bytes_eq name (codes "next") then Some iterator.Next
    else if bytes_eq name (codes "prev") then Some iterator.Prev
    else if bytes_eq name (codes "last") then Some iterator.Last
    else None

-- what a name stands for that is no parameter or local and no variable of the vector: a parameter of a thread program, where there is
-- one of it with a type, else an `in=` flag
abbrev pub known_parameter : TypeScope → List ℕ → Option Ty → Option KnownVariable
known_parameter scope name (Some ty) = Some (record { reference = At (ThreadParameter name); ty = ty; refusals = [] })
known_parameter scope name None = if is_listed scope.flags name then Some (record { reference = At (Present name); ty = BigInt; refusals = [] }) else None

-- what a name stands for that is no parameter or local: a variable of the vector, where there is one of it with a type, else another
-- global
abbrev pub known_global : TypeScope → List ℕ → Option Ty → Option KnownVariable
known_global scope name (Some ty) = Some (record { reference = At (Named name); ty = ty; refusals = unjoined_refusals scope name })
known_global scope name None = known_parameter scope name (type_in scope.parameters name)

-- the global that a name stands for
abbrev pub global_variable : TypeScope → List ℕ → Option KnownVariable
global_variable scope name = known_global scope name (type_in scope.variables name)

-- what a name stands for: a parameter or local, where there is one of it with a type, else a global
abbrev pub known_before_globals : TypeScope → List ℕ → Option Ty → Option KnownVariable
known_before_globals scope name (Some ty) = Some (record { reference = Local name; ty = ty; refusals = [] })
known_before_globals scope name None = global_variable scope name

-- what a name stands for: a parameter or local, else a variable of the vector, a parameter of a thread program, or an `in=` flag
abbrev pub known_variable : TypeScope → List ℕ → Option KnownVariable
known_variable scope name = known_before_globals scope name (type_in scope.locals name)

-- the value of a variable
abbrev pub variable_node : KnownVariable → tree.TypedExpression
variable_node v = tree.Variable v.reference v.ty

-- what a name stands for, as an expression; a column whose tables do not join is refused at their place once more, and nothing
-- around it is refused for its type
abbrev pub value_of_variable : Place → Option KnownVariable → ElaboratedExpression
value_of_variable place None = elaborated_nameless place
value_of_variable place (Some v) = form_of_operands v.refusals (variable_node v)

-- the value of a name
abbrev pub elaborated_variable : TypeScope → Token → ElaboratedExpression
elaborated_variable scope name = value_of_variable name.place (known_variable scope (spelled_name name))

-- a flag of a BY variable, which is a BIGINT
abbrev pub flag_node : Global → tree.TypedExpression
flag_node global = tree.Variable (At global) BigInt

-- `first.v` and `last.v` of a BY variable
abbrev pub elaborated_flag : TypeScope → Token → Token → ElaboratedExpression
elaborated_flag scope object member =
    if not (is_listed scope.bys (spelled_name member)) then elaborated_nameless object.place
    else if is_word (codes "first") object then form_of_operands [] (flag_node (First (spelled_name member)))
    else if is_word (codes "last") object then form_of_operands [] (flag_node (Last (spelled_name member)))
    else elaborated_nameless object.place

-- the object that a name stands for; a parameter or local hides it
abbrev pub object_in_scope : TypeScope → List ℕ → Option ObjectCalls
object_in_scope scope name =
    if is_some (type_in scope.locals name) then None
    else option_map (λ (o : ObjectInScope). o.calls) (find (λ (o : ObjectInScope). bytes_eq o.name name) scope.objects)

-- the number of items of a hash object, without an argument list; other words behind an object's point are refused by the rules of names
abbrev pub member_of_object : Token → Token → Option ObjectCalls → ElaboratedExpression
member_of_object object member (Some HashCalls) =
    if bytes_eq (spelled_name member) (codes "num_items") then form_of_type BigInt [] (tree.HashCalled (spelled_name object) NumItems)
    else elaborated_nameless object.place
member_of_object object member _ = elaborated_nameless object.place

-- `x.y` without an argument list: a flag of a BY variable, or the number of items of a hash object
abbrev pub elaborated_member : TypeScope → Token → Token → ElaboratedExpression
elaborated_member scope object member =
    if is_flag_word object then elaborated_flag scope object member
    else member_of_object object member (object_in_scope scope (spelled_name object))

-- ---- calls of methods

-- the methods of a program that can be called: all but `init`, `run` and `term`
abbrev pub callable_methods : List Method → List Method
callable_methods methods = filter (λ (m : Method). not (is_system_name (spelled_name m.name))) methods

-- the number of the first method of this name, from 0
abbrev pub number_of_method : List Method → List ℕ → ℕ
number_of_method methods name = unwrap_or (position (λ (m : Method). bytes_eq (spelled_name m.name) name) methods) 0

-- arguments of a call: the rules that are broken in them, and what they become
pub record ElaboratedArguments : Type 0 where
  pub refusals : TypeRefusals
  pub arguments : tree.TypedArguments

-- no argument, and these broken rules
abbrev pub no_arguments : TypeRefusals → ElaboratedArguments
no_arguments refusals = record { refusals = refusals; arguments = tree.NoArgument }

-- an argument by value, before the others: it is assigned to the parameter's type
abbrev pub value_argument : Ty → ElaboratedArgument → ElaboratedArguments → ElaboratedArguments
value_argument ty x rest =
    record { refusals = assigned_refusals ty x.place x.value ++ rest.refusals; arguments = tree.ByValue (assigned_node ty x.value) rest.arguments }

-- a variable may be set: it is no flag; a parameter of a thread program may be set like others
abbrev pub is_settable_reference : Reference → Bool
is_settable_reference (At (Named name)) = true
is_settable_reference (At (ThreadParameter name)) = true
is_settable_reference (Local name) = true
is_settable_reference _ = false

-- the variable that an expression is, where it may be set
abbrev pub reference_in : tree.TypedExpression → Option Reference
reference_in (tree.Variable reference ty) = if is_settable_reference reference then Some reference else None
reference_in _ = None

-- a variable, or one that is never met
abbrev pub reference_or_none : Option Reference → Reference
reference_or_none None = Local []
reference_or_none (Some reference) = reference

-- an in_out argument, before the others: a variable of exactly the parameter's type, else TypeClash at it; what is no variable is
-- refused by the rules of names
abbrev pub in_out_argument : Ty → ElaboratedArgument → ElaboratedArguments → ElaboratedArguments
in_out_argument ty x rest =
    record {
      refusals =
          x.value.refusals
          ++ clash_unless (is_some (reference_in x.value.node)) x.place
          ++ where_known x.value.typing (λ own. clash_unless (same_ty own ty) x.place)
          ++ rest.refusals;
      arguments = tree.InOut (reference_or_none (reference_in x.value.node)) rest.arguments;
    }

-- the arguments for the parameters of a method whose name stands at this place, in order; another number of them is refused by
-- the rules of names
abbrev pub arguments_for : Place → List Parameter → List ElaboratedArgument → ElaboratedArguments
arguments_for name [] [] = no_arguments []
arguments_for name [] (x ∷ xs) = no_arguments (type_refusal_at TypeClash name)
arguments_for name (p ∷ ps) [] = no_arguments (type_refusal_at TypeClash name)
arguments_for name (p ∷ ps) (x ∷ xs) =
    if p.is_in_out then in_out_argument p.ty x (arguments_for name ps xs) else value_argument p.ty x (arguments_for name ps xs)

-- the result of the method of this number, of an instance or of the unit itself, whose name stands at this place; one that returns
-- nothing is TypeClash at its name
abbrev pub result_of_method : Place → Option (List ℕ) → ℕ → ElaboratedArguments → Option Ty → ElaboratedExpression
result_of_method place instance number arguments (Some ty) = form_of_type ty arguments.refusals (tree.Called instance number arguments.arguments ty)
result_of_method place instance number arguments None =
    form_of_operands (arguments.refusals ++ clash_unless false place) (tree.Called instance number arguments.arguments BigInt)

-- a call of one of these methods, of an instance or of the unit itself, as an expression
abbrev pub elaborated_method_call : Option (List ℕ) → List Method → Token → Method → List ElaboratedArgument → ElaboratedExpression
elaborated_method_call instance methods name method xs =
    result_of_method name.place instance (number_of_method methods (spelled_name name)) (arguments_for name.place (elaborated_parameters method) xs)
    (returned_type method.returns)

-- a call of a name: of this method, where there is one, else of a function
abbrev pub method_or_function_call : TypeScope → Token → List ElaboratedArgument → Option Method → ElaboratedExpression
method_or_function_call scope name xs (Some method) = elaborated_method_call None scope.methods name method xs
method_or_function_call scope name xs None = elaborated_function name xs

-- a call of a name: of the unit's method, else of a function
abbrev pub elaborated_named_call : TypeScope → Token → List ElaboratedArgument → ElaboratedExpression
elaborated_named_call scope name xs = method_or_function_call scope name xs (method_named scope.methods (spelled_name name))

-- ---- calls on objects

-- values for the parameters of a thread program: the rules that are broken in them, and what they become
pub record ElaboratedParameterValues : Type 0 where
  pub refusals : TypeRefusals
  pub values : List ParameterValue

-- a value for a parameter, before the others: it is assigned to the parameter's type
abbrev pub with_parameter_value : typed.Variable → ElaboratedArgument → ElaboratedParameterValues → ElaboratedParameterValues
with_parameter_value p x rest = record {
  refusals = assigned_refusals p.ty x.place x.value ++ rest.refusals;
  values = record { parameter = p.name; value = assigned_node p.ty x.value } ∷ rest.values;
}

-- values for the parameters of a thread program, in order, behind the word `setparms` at this place; another number of them is refused
-- by the rules of names
abbrev pub values_for : Place → List typed.Variable → List ElaboratedArgument → ElaboratedParameterValues
values_for place [] [] = record { refusals = []; values = [] }
values_for place (p ∷ ps) (x ∷ xs) = with_parameter_value p x (values_for place ps xs)
values_for place _ _ = record { refusals = type_refusal_at TypeClash place; values = [] }

-- a call of a hash object, whose code is a BIGINT; another name is refused by the rules of names
abbrev pub elaborated_hash_call : Token → Token → Option HashFunction → ElaboratedExpression
elaborated_hash_call object method None = elaborated_nameless object.place
elaborated_hash_call object method (Some f) = form_of_type BigInt [] (tree.HashCalled (spelled_name object) f)

-- a call of an iterator, whose code is a BIGINT; another name is refused by the rules of names
abbrev pub elaborated_iterator_call : Token → Token → Option IteratorFunction → ElaboratedExpression
elaborated_iterator_call object method None = elaborated_nameless object.place
elaborated_iterator_call object method (Some f) = form_of_type BigInt [] (tree.IteratorCalled (spelled_name object) f)

-- a call of this method of an instance's package, or of none
abbrev pub elaborated_instance_call : Token → Token → List Method → List ElaboratedArgument → Option Method → ElaboratedExpression
elaborated_instance_call object name methods xs None = elaborated_nameless object.place
elaborated_instance_call object name methods xs (Some method) = elaborated_method_call (Some (spelled_name object)) methods name method xs

-- a call on an object as an expression; `setparms` returns nothing, so it is TypeClash at its name
abbrev pub elaborated_object_call : Token → Token → List ElaboratedArgument → Option ObjectCalls → ElaboratedExpression
elaborated_object_call object method xs None = elaborated_nameless object.place
elaborated_object_call object method xs (Some (InstanceCalls methods)) =
    elaborated_instance_call object method methods xs (method_named methods (spelled_name method))
elaborated_object_call object method xs (Some HashCalls) = elaborated_hash_call object method (hash_function_named (spelled_name method))
elaborated_object_call object method xs (Some IteratorCalls) = elaborated_iterator_call object method (iterator_function_named (spelled_name method))
elaborated_object_call object method xs (Some (ParameterCalls parameters)) =
    form_of_operands ((values_for method.place parameters xs).refusals ++ clash_unless false method.place) (tree.Constant NullValue BigInt)

-- a call
abbrev pub elaborated_call : TypeScope → Callee → List ElaboratedArgument → ElaboratedExpression
elaborated_call scope (callee.Function name) xs = elaborated_named_call scope name xs
elaborated_call scope (callee.Null keyword) xs = elaborated_null_call keyword.place xs
elaborated_call scope (callee.Method object dot method) xs = elaborated_object_call object method xs (object_in_scope scope (spelled_name object))

-- ---- chains

-- a further operand of a chain: the operator before it, the place of its first token, and what becomes of it
pub record ElaboratedOperand : Type 0 where
  pub operator : Token
  pub place : Place
  pub value : ElaboratedExpression

-- what becomes of the further operands of a chain: the rules that are broken up to its end, and the links
pub record ElaboratedLinks : Type 0 where
  pub refusals : TypeRefusals
  pub links : tree.Links

-- the end of a chain in which these rules are broken
abbrev pub end_of_links : TypeRefusals → ElaboratedLinks
end_of_links broken = record { refusals = broken; links = tree.NoLink }

-- a link in front of further ones
abbrev pub with_link : ElaboratedLink → ElaboratedLinks → ElaboratedLinks
with_link link rest = record { refusals = rest.refusals; links = tree.Link link.widens link.operation link.operand link.ty rest.links }

-- the further operands of a chain of `and` or `or`, behind these broken rules: each is a condition, by itself
abbrev pub truth_links : ChainKind → (broken : TypeRefusals) → List ElaboratedOperand → ElaboratedLinks
truth_links kind broken [] = end_of_links broken
truth_links kind broken (x ∷ xs) =
    with_link (elaborated_link kind x.operator BigInt x.value.node) (truth_links kind (broken ++ truth_refusals x.place x.value) xs)

-- a chain of `and` or `or`, whose first token stands at this place, is a BIGINT always; its first operand is a condition too
abbrev pub elaborated_truth_chain : ChainKind → Place → ElaboratedExpression → List ElaboratedOperand → ElaboratedExpression
elaborated_truth_chain kind place first rest =
    let further = truth_links kind (truth_refusals place first) rest in
    form_of_type BigInt further.refusals (tree.Chain first.node further.links)

-- all that stands left of an operator of another chain: what is known of its type, the type that its typed expression has, and the rules
-- that are broken in it
pub record ChainSoFar : Type 0 where
  pub typing : Typing
  pub ty : Ty
  pub refusals : TypeRefusals

-- left of the first operator stands the first operand
abbrev pub chain_of_first : ElaboratedExpression → ChainSoFar
chain_of_first x = record { typing = x.typing; ty = expression_type x.node; refusals = x.refusals }

-- left of each further operator stands the chain up to the link before it; its type is known where no rule is broken in it
abbrev pub chain_up_to : ElaboratedLink → (broken : TypeRefusals) → ChainSoFar
chain_up_to link broken = record { typing = typing_behind broken link.ty; ty = link.ty; refusals = broken }

-- a further operand of a chain breaks its own rules; it and what stands before it are each such as the operator takes them, else
-- TypeClash at the operator, and null may stand on neither side; what is wrong with both together is looked at where both are known
abbrev pub link_refusals : ChainKind → Token → Typing → ElaboratedExpression → TypeRefusals
link_refusals kind operator left x =
    x.refusals
    ++ operand_clash (is_operand_type kind) operator.place left
    ++ operand_clash (is_operand_type kind) operator.place x.typing
    ++ where_both_known left x.typing (pair_refusals kind operator)

-- the further operands of another chain, from the left: each operator takes what stands left of it and the operand behind it
abbrev pub value_links : ChainKind → (left : ChainSoFar) → List ElaboratedOperand → ElaboratedLinks
value_links kind left [] = end_of_links left.refusals
value_links kind left (x ∷ xs) =
    let link = elaborated_link kind x.operator left.ty x.value.node in
    let broken = left.refusals ++ link_refusals kind x.operator left.typing x.value in
    with_link link (value_links kind (chain_up_to link broken) xs)

-- a chain of numbers or of texts, whose type depends on its operands
abbrev pub elaborated_value_chain : ChainKind → ElaboratedExpression → List ElaboratedOperand → ElaboratedExpression
elaborated_value_chain kind first rest =
    let further = value_links kind (chain_of_first first) rest in
    form_of_operands further.refusals (tree.Chain first.node further.links)

-- a chain of `and` or `or`, and no other
abbrev pub is_truth_chain : ChainKind → Bool
is_truth_chain chain.And = true
is_truth_chain chain.Or = true
is_truth_chain _ = false

-- a chain of this first operand, whose first token stands at this place, and these further ones
abbrev pub elaborated_chain : ChainKind → Place → ElaboratedExpression → List ElaboratedOperand → ElaboratedExpression
elaborated_chain kind place first rest =
    if is_truth_chain kind then elaborated_truth_chain kind place first rest else elaborated_value_chain kind first rest

-- ---- expressions

module _ (scope : TypeScope) where
  abbrev mutual
    -- what becomes of an expression
    pub elaborated : Expression → ElaboratedExpression
    elaborated (Constant t) = form_of_operands [] (constant_node t)
    elaborated (Null keyword) = elaborated_null keyword.place
    elaborated (Variable name) = elaborated_variable scope name
    elaborated (Member object dot member) = elaborated_member scope object member
    elaborated (Call f opening arguments closing) = elaborated_call scope f (elaborated_arguments arguments)
    elaborated (Parenthesis opening inner closing) = elaborated inner
    elaborated (Sign operator operand) = elaborated_sign operator (elaborated operand)
    elaborated (Chain kind first rest) = elaborated_chain kind (first_place first) (elaborated first) (elaborated_operands rest)
    elaborated (Comparison left operator right) = elaborated_comparison operator (elaborated left) (elaborated right)
    elaborated (Not operator operand) = elaborated_not (first_place operand) (elaborated operand)

    -- what becomes of the further operands of a chain, in order
    pub elaborated_operands : Operands → List ElaboratedOperand
    elaborated_operands NoOperand = []
    elaborated_operands (Operand operator value rest) =
        record { operator = operator; place = first_place value; value = elaborated value } ∷ elaborated_operands rest

    -- what becomes of arguments, in order
    pub elaborated_arguments : Arguments → List ElaboratedArgument
    elaborated_arguments NoArgument = []
    elaborated_arguments (Argument comma value rest) = record { place = first_place value; value = elaborated value } ∷ elaborated_arguments rest
