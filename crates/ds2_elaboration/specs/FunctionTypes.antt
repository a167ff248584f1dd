-- The rules of functions: what arguments they take, and what they become.
use Rattle.std.specs.Prelude.{ℕ, nat_eq, max, length, Bool, true, false, ◌&&◌, ◌||◌, not, if◌then◌else◌, List, [], ◌∷◌, ◌++◌, map, fold, Option, Some, None, is_some, unwrap_or}
use Rattle.std.specs.List.{list_all}
use Rattle.ds2_base.specs.declared.place.Place.{Place}
use Rattle.ds2_token.specs.declared.token.Token.{Token}
use Rattle.ds2_value.specs.ValueFunctions.{type_by, function_row}
use Rattle.ds2_value.specs.declared.ty.Ty.{Ty}
use Rattle.ds2_value.specs.declared.ty.Ty.TheVariants.{BigInt, Decimal as DecimalOf, Char, Varchar}
use Rattle.ds2_value.specs.declared.value_function.ResultType.{ResultType}
use Rattle.ds2_value.specs.declared.value_function.ResultType.TheVariants.{Integer}
use Rattle.ds2_value.specs.declared.value_function.ValueFunction.{ValueFunction}
use Rattle.ds2_value.specs.declared.value_function.ValueFunction.TheVariants as of_values
use Rattle.ds2_meaning.specs.IsTyped.{expression_type, type_scale, type_width, decimal_result}
use Rattle.ds2_names.specs.Functions.{null_test, function_named, takes_so_many}
use Rattle.ds2_names.specs.declared.functions.ByType.{ByType}
use Rattle.ds2_names.specs.declared.functions.FunctionOfMany.{FunctionOfMany}
use Rattle.ds2_names.specs.declared.functions.FunctionOfMany.TheVariants as many
use Rattle.ds2_names.specs.declared.functions.FunctionRow.{FunctionRow}
use Rattle.ds2_names.specs.declared.functions.NamedFunction.{NamedFunction}
use Rattle.ds2_names.specs.declared.functions.NamedFunction.TheVariants as named
use Rattle.ds2_names.specs.NameRules.{from_each}
use Rattle.ds2_names.specs.SourceUnit.{spelled_name}
use Rattle.ds2_meaning.specs.TypedExpression.{TypedExpression, TypedExpressions, NoExpression, Then, Applied}
use Rattle.ds2_meaning.specs.declared.expressions.Function.{Function}
use Rattle.ds2_meaning.specs.declared.expressions.Function.TheVariants as function
use Rattle.ds2_elaboration.specs.Typings.{TypeRefusals, clash_unless, Typing, Known, NullAt, Unknown, ElaboratedExpression, form_of_operands, elaborated_nameless, is_numeric_type, is_characters, is_integer_type, operand_clash, widened_node, assigned_node}

-- an argument, with the place of its first token
pub record ElaboratedArgument : Type 0 where
  pub place : Place
  pub value : ElaboratedExpression

-- ---- arguments

-- typed expressions in order
abbrev pub nodes_in_order : List TypedExpression → TypedExpressions
nodes_in_order [] = NoExpression
nodes_in_order (e ∷ es) = Then e (nodes_in_order es)

-- a function of one argument
abbrev pub of_one_node : Function → TypedExpression → Ty → TypedExpression
of_one_node f a ty = Applied f (nodes_in_order (a ∷ [])) ty

-- what is broken in arguments
abbrev pub refusals_in : List ElaboratedArgument → TypeRefusals
refusals_in xs = from_each (λ (x : ElaboratedArgument). x.value.refusals) xs

-- what is broken in an argument whose type has to pass a test, else TypeClash at the function's name
abbrev pub argument_refusals : (Ty → Bool) → Place → ElaboratedArgument → TypeRefusals
argument_refusals test name x = x.value.refusals ++ operand_clash test name x.value.typing

-- ---- functions of one value

-- what a function is for a value of this type, where it takes one
abbrev pub function_for : ByType → Ty → Option Function
function_for f BigInt = f.integer
function_for f (DecimalOf p s) = f.decimal
function_for f (Char n) = f.text
function_for f (Varchar n) = f.text

-- the type of a function's value for a value of this type, which it takes
abbrev pub type_of_one : Function → Ty → Ty
type_of_one (function.Value f) ty = unwrap_or (type_by (function_row f).result (ty ∷ [])) BigInt
type_of_one _ ty = ty

-- a function of a typed value
abbrev pub one_node : ByType → TypedExpression → TypedExpression
one_node f a =
    let ty = expression_type a in
    let applied = unwrap_or (function_for f ty) function.Unchanged in
    of_one_node applied a (type_of_one applied ty)

-- a BIGINT, whatever the operands are
abbrev pub is_integer_result : ResultType → Bool
is_integer_result Integer = true
is_integer_result _ = false

-- its value is a BIGINT, where it is there
abbrev pub is_of_integers : Option Function → Bool
is_of_integers None = true
is_of_integers (Some (function.Value f)) = is_integer_result (function_row f).result
is_of_integers (Some _) = false

-- what is known of a function's type where a rule is broken in it: BIGINT where its value is one of whatever type
abbrev pub broken_typing : ByType → Typing
broken_typing f = if is_of_integers f.integer && is_of_integers f.decimal && is_of_integers f.text then Known BigInt else Unknown

-- what is known of its type
abbrev pub one_typing : ByType → TypeRefusals → TypedExpression → Typing
one_typing f [] node = Known (expression_type node)
one_typing f (r ∷ refusals) node = broken_typing f

-- a function of one value: of a type that it takes
abbrev pub elaborated_of_one : ByType → Place → ElaboratedArgument → ElaboratedExpression
elaborated_of_one f name x =
    let refusals = argument_refusals (λ ty. is_some (function_for f ty)) name x in
    let node = one_node f x.value.node in
    record { typing = one_typing f refusals node; refusals = refusals; node = node }

-- ---- functions of numbers

-- mod(a, b) of two typed numbers: of BIGINT values a BIGINT; with a DECIMAL the greater of the two scales
abbrev pub remainder_node : TypedExpression → TypedExpression → TypedExpression
remainder_node a b =
    let left = expression_type a in
    let right = expression_type b in
    if is_integer_type left && is_integer_type right then Applied (function.Value of_values.IntegerModulo) (nodes_in_order (a ∷ b ∷ [])) BigInt
    else Applied (function.Value of_values.DecimalModulo) (nodes_in_order (widened_node a ∷ widened_node b ∷ [])) (decimal_result (max (type_scale left) (type_scale right)))

-- mod(a, b)
abbrev pub elaborated_remainder : Place → ElaboratedArgument → ElaboratedArgument → ElaboratedExpression
elaborated_remainder name a b = form_of_operands (argument_refusals is_numeric_type name a ++ argument_refusals is_numeric_type name b) (remainder_node a.value.node b.value.node)

-- ---- functions of several values in one type

-- the types among these that are known
abbrev pub known_types : List ElaboratedArgument → List Ty
known_types xs = from_each (λ (x : ElaboratedArgument). of_typing x.value.typing) xs
  where
    of_typing : Typing → List Ty
    of_typing (Known ty) = ty ∷ []
    of_typing _ = []

-- an argument is the constant null
abbrev pub is_null_argument : ElaboratedArgument → Bool
is_null_argument x = of_typing x.value.typing
  where
    of_typing : Typing → Bool
    of_typing (NullAt place) = true
    of_typing _ = false

-- the one type that values of these types are brought to: BIGINT where all are; numbers DECIMAL of 38 digits and the greatest
-- scale; texts VARCHAR of the greatest length
abbrev pub common_type : List Ty → Ty
common_type types =
    if list_all is_integer_type types then BigInt
    else if list_all is_numeric_type types then decimal_result (fold (λ s ty. max s (type_scale ty)) 0 types)
    else Varchar (fold (λ n ty. max n (type_width ty)) 0 types)

-- values in one type, each converted directly after it is evaluated
abbrev pub common_node : Function → List ElaboratedArgument → TypedExpression
common_node f xs =
    let ty = common_type (known_types xs) in Applied f (nodes_in_order (map (λ (x : ElaboratedArgument). assigned_node ty x.value) xs)) ty

-- coalesce(a, ..): numbers or texts, not both, and not nulls alone
abbrev pub elaborated_coalesce : Place → List ElaboratedArgument → ElaboratedExpression
elaborated_coalesce name xs =
    form_of_operands (
    refusals_in xs
    ++ clash_unless (not (list_all is_null_argument xs)) name
    ++ clash_unless (list_all is_numeric_type (known_types xs) || list_all is_characters (known_types xs)) name)
    (common_node function.Coalesce xs)

-- min(a, b, ..) and max(a, b, ..): numbers
abbrev pub elaborated_extreme : Function → Place → List ElaboratedArgument → ElaboratedExpression
elaborated_extreme f name xs = form_of_operands (from_each (argument_refusals is_numeric_type name) xs) (common_node f xs)

-- ---- functions of texts

-- the function that substr is with so many numbers behind its text
abbrev pub substring_of : ℕ → ValueFunction
substring_of n = if nat_eq n 1 then of_values.SubstringFrom else of_values.Substring

-- substr(t, i) and substr(t, i, k): a text and then BIGINT values
abbrev pub elaborated_substring : Place → ElaboratedArgument → List ElaboratedArgument → ElaboratedExpression
elaborated_substring name x numbers =
    form_of_operands (argument_refusals is_characters name x ++ from_each (argument_refusals is_integer_type name) numbers)
    (Applied (function.Value (substring_of (length numbers))) (nodes_in_order (x.value.node ∷ map (λ (n : ElaboratedArgument). n.value.node) numbers)) (Varchar (type_width (expression_type x.value.node))))

-- ---- functions by their names

-- a function of several values in one type
abbrev pub form_of_many : FunctionOfMany → Place → List ElaboratedArgument → ElaboratedExpression
form_of_many many.Coalesce name xs = elaborated_coalesce name xs
form_of_many many.Greatest name xs = elaborated_extreme function.Greatest name xs
form_of_many many.Least name xs = elaborated_extreme function.Least name xs

-- a function of as many arguments as it takes
abbrev pub form_of_function : NamedFunction → Place → List ElaboratedArgument → ElaboratedExpression
form_of_function (named.OfOne f) name (x ∷ []) = elaborated_of_one f name x
form_of_function (named.OfMany f) name xs = form_of_many f name xs
form_of_function named.Remainder name (x ∷ y ∷ []) = elaborated_remainder name x y
form_of_function named.Substring name (x ∷ numbers) = elaborated_substring name x numbers
form_of_function f name xs = elaborated_nameless name

-- a call of a function; a name that none has, and another number of arguments than it takes, are refused by the rules of names
abbrev pub form_of_row : Option FunctionRow → Place → List ElaboratedArgument → ElaboratedExpression
form_of_row None name xs = elaborated_nameless name
form_of_row (Some f) name xs = if takes_so_many f.counts (length xs) then form_of_function f.function name xs else elaborated_nameless name

-- a function by its name
abbrev pub elaborated_function : Token → List ElaboratedArgument → ElaboratedExpression
elaborated_function t xs = form_of_row (function_named (spelled_name t)) t.place xs

-- the word null, as a function
abbrev pub elaborated_null_call : Place → List ElaboratedArgument → ElaboratedExpression
elaborated_null_call word xs = form_of_function (named.OfOne null_test) word xs
