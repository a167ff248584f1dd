-- What becomes of an expression: what is known of its type, the rules that it breaks, and the typed expression.
use Rattle.std.specs.Prelude.{Bool, true, false, ◌&&◌, ◌||◌, if◌then◌else◌, List, [], ◌∷◌, ◌++◌}
use Rattle.ds2_value.specs.Types.{same_ty}
use Rattle.ds2_base.specs.declared.place.Place.{Place}
use Rattle.ds2_base.specs.declared.place.Refusal.{Refusal}
use Rattle.ds2_value.specs.declared.ty.Ty.{Ty}
use Rattle.ds2_value.specs.declared.ty.Ty.TheVariants.{BigInt, Decimal as DecimalOf, Char, Varchar}
use Rattle.ds2_value.specs.declared.value.Value.TheVariants.{Null}
use Rattle.ds2_meaning.specs.IsTyped.{expression_type}
use Rattle.ds2_meaning.specs.TypedExpression.{TypedExpression, Constant, Widen, Convert}
use Rattle.ds2_meaning.specs.declared.refusals.TypeKind.{TypeKind}
use Rattle.ds2_meaning.specs.declared.refusals.TypeKind.TheVariants.{TypeClash, NotTruth}

-- the broken rules of types, each with its place
abbrev pub TypeRefusals : Type 0
TypeRefusals = List (Refusal TypeKind)

-- this rule is broken at this place
abbrev pub type_refusal_at : TypeKind → Place → TypeRefusals
type_refusal_at kind place = record { kind = kind; place = place } ∷ []

-- TypeClash at a place, where something does not hold
abbrev pub clash_unless : Bool → Place → TypeRefusals
clash_unless holds place = if holds then [] else type_refusal_at TypeClash place

-- what is known of the type of an expression: its type, that it is the constant null, whose word stands at this place, or nothing
pub data Typing : Type 0 where
  Known : Ty → Typing
  NullAt : Place → Typing
  Unknown : Typing

-- what becomes of an expression: what is known of its type, the rules that are broken in it, and its typed expression, which says
-- something where none is broken
pub record ElaboratedExpression : Type 0 where
  pub typing : Typing
  pub refusals : TypeRefusals
  pub node : TypedExpression

-- ---- forms

-- a form whose type does not depend on its operands: it has that type all the same where a rule is broken in it
abbrev pub form_of_type : Ty → TypeRefusals → TypedExpression → ElaboratedExpression
form_of_type ty refusals node = record { typing = Known ty; refusals = refusals; node = node }

-- the type of a form that depends on its operands: none where a rule is broken in it
abbrev pub typing_behind : TypeRefusals → Ty → Typing
typing_behind [] ty = Known ty
typing_behind (refusal ∷ refusals) ty = Unknown

-- a form whose type depends on its operands
abbrev pub form_of_operands : TypeRefusals → TypedExpression → ElaboratedExpression
form_of_operands refusals node = record { typing = typing_behind refusals (expression_type node); refusals = refusals; node = node }

-- the constant null, whose word stands at this place
abbrev pub elaborated_null : Place → ElaboratedExpression
elaborated_null place = record { typing = NullAt place; refusals = []; node = Constant Null BigInt }

-- a form that the rules of names refuse, at this place; they come first
abbrev pub elaborated_nameless : Place → ElaboratedExpression
elaborated_nameless place = form_of_operands (type_refusal_at TypeClash place) (Constant Null BigInt)

-- ---- kinds of types

-- BIGINT and DECIMAL are numbers
abbrev pub is_numeric_type : Ty → Bool
is_numeric_type BigInt = true
is_numeric_type (DecimalOf p s) = true
is_numeric_type (Char n) = false
is_numeric_type (Varchar n) = false

-- CHAR and VARCHAR are texts
abbrev pub is_characters : Ty → Bool
is_characters (Char n) = true
is_characters (Varchar n) = true
is_characters BigInt = false
is_characters (DecimalOf p s) = false

-- BIGINT
abbrev pub is_integer_type : Ty → Bool
is_integer_type BigInt = true
is_integer_type _ = false

-- both are numbers, or both are texts
abbrev pub are_comparable : Ty → Ty → Bool
are_comparable a b = (is_numeric_type a && is_numeric_type b) || (is_characters a && is_characters b)

-- a type is assigned to from another one: BIGINT from BIGINT, a DECIMAL from numbers, a text from texts
abbrev pub is_assigned_from : Ty → Ty → Bool
is_assigned_from BigInt from = is_integer_type from
is_assigned_from (DecimalOf p s) from = is_numeric_type from
is_assigned_from (Char n) from = is_characters from
is_assigned_from (Varchar n) from = is_characters from

-- ---- rules that several forms have

-- a rule on a type, where it is known
abbrev pub where_known : Typing → (Ty → TypeRefusals) → TypeRefusals
where_known (Known ty) rule = rule ty
where_known _ rule = []

-- a rule on two types, where both are known
abbrev pub where_both_known : Typing → Typing → (Ty → Ty → TypeRefusals) → TypeRefusals
where_both_known a b rule = where_known a (λ ty. where_known b (rule ty))

-- the constant null may not stand here: TypeClash at its word
abbrev pub null_clash : Typing → TypeRefusals
null_clash (NullAt place) = type_refusal_at TypeClash place
null_clash _ = []

-- an operand whose type passes a test, else TypeClash at a place; null may not stand there
abbrev pub operand_clash : (Ty → Bool) → Place → Typing → TypeRefusals
operand_clash test place typing = null_clash typing ++ where_known typing (λ ty. clash_unless (test ty) place)

-- a condition, and an operand of `and`, `or` and `not`: a text is NotTruth at its first token, null may not stand there
abbrev pub truth_refusals : Place → ElaboratedExpression → TypeRefusals
truth_refusals first_token x =
    x.refusals ++ null_clash x.typing ++ where_known x.typing (λ ty. if is_numeric_type ty then [] else type_refusal_at NotTruth first_token)

-- an assigned, passed or returned value: of a type that may be assigned to this one, or null; else TypeClash at a place
abbrev pub assigned_refusals : Ty → Place → ElaboratedExpression → TypeRefusals
assigned_refusals ty place x = x.refusals ++ where_known x.typing (λ from. clash_unless (is_assigned_from ty from) place)

-- ---- conversions

-- a BIGINT as DECIMAL(19,0); another expression is left as it is
abbrev pub widened_node : TypedExpression → TypedExpression
widened_node e = if is_integer_type (expression_type e) then Widen e else e

-- a BIGINT that becomes a DECIMAL is first DECIMAL(19,0)
abbrev pub widened_for : Ty → TypedExpression → TypedExpression
widened_for (DecimalOf p s) e = widened_node e
widened_for _ e = e

-- an expression that is assigned to a type: converted where it is not of that type
abbrev pub in_type : Ty → TypedExpression → TypedExpression
in_type ty e = let w = widened_for ty e in if same_ty (expression_type w) ty then w else Convert w ty

-- a value that is assigned to a type; the constant null has that type
abbrev pub assigned_node : Ty → ElaboratedExpression → TypedExpression
assigned_node ty x = of_typing x.typing
  where
    of_typing : Typing → TypedExpression
    of_typing (NullAt place) = Constant Null ty
    of_typing _ = in_type ty x.node
