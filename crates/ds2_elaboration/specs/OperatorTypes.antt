-- The rules of operators: what operands they take, and what they become.
use Rattle.std.specs.Prelude.{ℕ, ◌+◌, max, min, nat_le, Bool, false, ◌&&◌, ◌||◌, not, codes, if◌then◌else◌, [], ◌∷◌, ◌++◌}
use Rattle.ds2_base.specs.declared.place.Place.{Place}
use Rattle.ds2_token.specs.Words.{is_mark, is_one_of}
use Rattle.ds2_token.specs.declared.token.Token.{Token}
use Rattle.ds2_tree.specs.declared.expressions.ChainKind.{ChainKind}
use Rattle.ds2_tree.specs.declared.expressions.ChainKind.TheVariants as chain
use Rattle.ds2_value.specs.declared.comparison.Comparison.{Comparison}
use Rattle.ds2_value.specs.declared.comparison.Comparison.TheVariants as comparison
use Rattle.ds2_value.specs.declared.ty.Ty.{Ty}
use Rattle.ds2_value.specs.declared.ty.Ty.TheVariants.{BigInt, Varchar}
use Rattle.ds2_value.specs.declared.value.Value.TheVariants.{Null}
use Rattle.ds2_meaning.specs.IsTyped.{expression_type, type_scale, type_width, decimal_result}
use Rattle.ds2_meaning.specs.TypedExpression.{TypedExpression, Constant, Prefixed, Compared}
use Rattle.ds2_meaning.specs.declared.expressions.Operation.{Operation}
use Rattle.ds2_meaning.specs.declared.expressions.Operation.TheVariants as operation
use Rattle.ds2_meaning.specs.declared.expressions.Prefix.{Prefix}
use Rattle.ds2_meaning.specs.declared.expressions.Prefix.TheVariants as prefix
use Rattle.ds2_meaning.specs.declared.refusals.TypeKind.TheVariants.{ScaleTooLarge}
use Rattle.ds2_elaboration.specs.Typings.{TypeRefusals, type_refusal_at, clash_unless, Typing, Known, NullAt, ElaboratedExpression, form_of_type, form_of_operands, is_numeric_type, is_characters, is_integer_type, are_comparable, where_both_known, operand_clash, truth_refusals, widened_node}

-- ---- operators between two operands

-- both types are BIGINT
abbrev pub are_integer_types : Ty → Ty → Bool
are_integer_types a b = is_integer_type a && is_integer_type b

-- both types are numbers
abbrev pub are_numeric_types : Ty → Ty → Bool
are_numeric_types a b = is_numeric_type a && is_numeric_type b

-- `*`, and not `/`
abbrev pub is_times : Token → Bool
is_times operator = is_mark (codes "*") operator

-- `+`, and not `-`
abbrev pub is_plus : Token → Bool
is_plus operator = is_mark (codes "+") operator

-- ScaleTooLarge: a product with a DECIMAL has as many digits behind the point as both operands together, at most 38
abbrev pub scale_refusals : Token → Ty → Ty → TypeRefusals
scale_refusals operator a b =
    if not (is_times operator) || are_integer_types a b || nat_le (type_scale a + type_scale b) 38 then [] else type_refusal_at ScaleTooLarge operator.place

-- an operand of this type may stand in a chain: `||` takes texts, the others numbers
abbrev pub is_operand_type : ChainKind → Ty → Bool
is_operand_type chain.Concatenation ty = is_characters ty
is_operand_type _ ty = is_numeric_type ty

-- what an operator of a chain refuses of two types together: a product of numbers with too many digits behind the point
abbrev pub pair_refusals : ChainKind → Token → Ty → Ty → TypeRefusals
pair_refusals chain.Product operator a b = if are_numeric_types a b then scale_refusals operator a b else []
pair_refusals _ operator a b = []

-- a further operand of a chain: whether what stands before it is widened, the operation, the operand, and the type up to there
pub record ElaboratedLink : Type 0 where
  pub widens : Bool
  pub operation : Operation
  pub operand : TypedExpression
  pub ty : Ty

-- an operation whose operands are taken as they are
abbrev pub plain_link : Operation → TypedExpression → Ty → ElaboratedLink
plain_link operation operand ty = record { widens = false; operation = operation; operand = operand; ty = ty }

-- an operation on decimals: a BIGINT on either side is widened
abbrev pub decimal_link : Operation → Ty → TypedExpression → ℕ → ElaboratedLink
decimal_link operation left operand scale = record { widens = is_integer_type left; operation = operation; operand = widened_node operand; ty = decimal_result scale }

-- `+` or `-`: of BIGINT values exact; with a DECIMAL the greater of the two scales
abbrev pub sum_link : Token → Ty → TypedExpression → ElaboratedLink
sum_link operator left operand =
    let right = expression_type operand in
    if are_integer_types left right then plain_link (if is_plus operator then operation.IntegerAdd else operation.IntegerSubtract) operand BigInt
    else decimal_link (if is_plus operator then operation.DecimalAdd else operation.DecimalSubtract) left operand (max (type_scale left) (type_scale right))

-- `*`: of BIGINT values exact; with a DECIMAL the sum of the two scales
abbrev pub product_link : Ty → TypedExpression → ElaboratedLink
product_link left operand =
    let right = expression_type operand in
    if are_integer_types left right then plain_link operation.IntegerMultiply operand BigInt
    else decimal_link operation.DecimalMultiply left operand (type_scale left + type_scale right)

-- `/` is of decimals always: at least 6 digits behind the point
abbrev pub quotient_link : Ty → TypedExpression → ElaboratedLink
quotient_link left operand = decimal_link operation.DecimalDivide left operand (max 6 (max (type_scale left) (type_scale (expression_type operand))))

-- `||`: as many characters as both together, at most 1,024
abbrev pub concatenation_link : Ty → TypedExpression → ElaboratedLink
concatenation_link left operand = plain_link operation.Concatenate operand (Varchar (min 1024 (type_width left + type_width (expression_type operand))))

-- a further operand of a chain, behind operands of this type
abbrev pub elaborated_link : ChainKind → Token → Ty → TypedExpression → ElaboratedLink
elaborated_link chain.Sum operator left operand = sum_link operator left operand
elaborated_link chain.Product operator left operand = if is_times operator then product_link left operand else quotient_link left operand
elaborated_link chain.Concatenation operator left operand = concatenation_link left operand
elaborated_link chain.And operator left operand = plain_link operation.And operand BigInt
elaborated_link chain.Or operator left operand = plain_link operation.Or operand BigInt

-- ---- comparisons

-- the comparison that an operator spells
abbrev pub spelled_comparison : Token → Comparison
spelled_comparison operator =
    if is_one_of (codes "eq" ∷ []) (codes "=" ∷ []) operator then comparison.Equal
    else if is_one_of (codes "ne" ∷ []) (codes "^=" ∷ codes "~=" ∷ []) operator then comparison.NotEqual
    else if is_one_of (codes "lt" ∷ []) (codes "<" ∷ []) operator then comparison.Less
    else if is_one_of (codes "le" ∷ []) (codes "<=" ∷ []) operator then comparison.LessOrEqual
    else if is_one_of (codes "gt" ∷ []) (codes ">" ∷ []) operator then comparison.Greater
    else comparison.GreaterOrEqual

-- a type is known, and a DECIMAL
abbrev pub is_known_decimal : Typing → Bool
is_known_decimal (Known ty) = is_numeric_type ty && not (is_integer_type ty)
is_known_decimal _ = false

-- the type that the constant null has beside another operand; BIGINT beside another null
abbrev pub type_beside : Typing → Ty
type_beside (Known ty) = ty
type_beside _ = BigInt

-- an operand of a comparison beside another one: null has that one's type, and beside a DECIMAL a BIGINT is widened
abbrev pub compared_node : ElaboratedExpression → Typing → TypedExpression
compared_node x other = of_typing x.typing
  where
    of_typing : Typing → TypedExpression
    of_typing (NullAt place) = Constant Null (type_beside other)
    of_typing _ = if is_known_decimal other then widened_node x.node else x.node

-- a comparison: of two numbers or two texts, either of which may be null; 1, 0 or null
abbrev pub elaborated_comparison : Token → ElaboratedExpression → ElaboratedExpression → ElaboratedExpression
elaborated_comparison operator a b =
    form_of_type BigInt (a.refusals ++ b.refusals ++ where_both_known a.typing b.typing (λ x y. clash_unless (are_comparable x y) operator.place))
    (Compared (spelled_comparison operator) (compared_node a b.typing) (compared_node b a.typing))

-- ---- operators before an operand

-- the operator that `-` before a number of this type is
abbrev pub minus_prefix : Ty → Prefix
minus_prefix ty = if is_integer_type ty then prefix.IntegerNegate else prefix.DecimalNegate

-- the operator that a sign before a value of this type is
abbrev pub sign_prefix : Token → Ty → Prefix
sign_prefix operator ty = if is_plus operator then prefix.Plus else minus_prefix ty

-- a sign before a number; it keeps the number's type
abbrev pub elaborated_sign : Token → ElaboratedExpression → ElaboratedExpression
elaborated_sign operator x =
    let ty = expression_type x.node in
    form_of_operands (x.refusals ++ operand_clash is_numeric_type operator.place x.typing) (Prefixed (sign_prefix operator ty) x.node ty)

-- `not` before a number, whose first token stands at this place; 1, 0 or null
abbrev pub elaborated_not : Place → ElaboratedExpression → ElaboratedExpression
elaborated_not first_token x = form_of_type BigInt (truth_refusals first_token x) (Prefixed prefix.Not x.node BigInt)
