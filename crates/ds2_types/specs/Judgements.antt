-- What the code holds of what becomes of an expression.
use Rattle.std.specs.Prelude.{◌≡◌, Bool, [], ◌++◌, if◌then◌else◌, Option, Some, None, Result, Ok, Err}
use Rattle.ds2_base.specs.declared.place.Place.{Place}
use Rattle.ds2_base.specs.declared.place.Refusal.{Refusal}
use Rattle.ds2_base.specs.declared.stop.OutOfMemory.{OutOfMemory}
use Rattle.ds2_value.specs.declared.ty.Ty.{Ty}
use Rattle.ds2_meaning.specs.TypedExpression.{TypedExpression}
use Rattle.ds2_meaning.specs.View.{typed_expression}
use Rattle.ds2_meaning.specs.declared.expressions.Link.{Link}
use Rattle.ds2_meaning.specs.declared.refusals.TypeKind.{TypeKind}
use Rattle.ds2_meaning.specs.declared.refusals.TypeKind.TheVariants.{NotTruth}
use Rattle.ds2_names.specs.Refusals.{type_rank, first_of_both, least_refusal}
use Rattle.ds2_elaboration.specs.Typings.{TypeRefusals, type_refusal_at, clash_unless, Typing, Known, NullAt, Unknown, ElaboratedExpression, is_numeric_type, is_characters, is_integer_type, are_comparable, is_assigned_from, where_known, where_both_known, null_clash, assigned_node, assigned_refusals}
use Rattle.ds2_elaboration.specs.OperatorTypes.{ElaboratedLink}
use Rattle.ds2_types.specs.declared.judgement.Judgement.{Judgement}
use Rattle.ds2_types.specs.declared.judgement.Node.{Node}
use Rattle.ds2_types.specs.declared.judgement.Pair.{Pair}
use Rattle.ds2_types.specs.declared.judgement.Typing as code_typing
use Rattle.ds2_types.specs.declared.judgement.Typing.TheVariants as known
use Rattle.ds2_types.specs.declared.rules.OperandTest.{OperandTest}
use Rattle.ds2_types.specs.declared.rules.OperandTest.TheVariants as test

-- the broken rule of types that is given of several
abbrev pub first_type_refusal : TypeRefusals → Option (Refusal TypeKind)
first_type_refusal refusals = least_refusal type_rank refusals

-- the one that is given of what two parts have broken
abbrev pub lesser_refusal : Option (Refusal TypeKind) → Option (Refusal TypeKind) → Option (Refusal TypeKind)
lesser_refusal None b = b
lesser_refusal (Some a) b = Some (first_of_both type_rank a b)

-- what is known of a type, as the code holds it
abbrev pub typing_of : code_typing.Typing → Typing
typing_of (known.Known ty) = Known ty
typing_of (known.NullAt place) = NullAt place
typing_of known.Unknown = Unknown

-- what an operand's type has to be
abbrev pub passes : OperandTest → Ty → Bool
passes test.Number = is_numeric_type
passes test.Characters = is_characters
passes test.Integer = is_integer_type

-- the typed tree of a node
abbrev pub node_tree : Node → TypedExpression
node_tree n = typed_expression n.tree.value

-- something where no rule is broken; else the broken rule that is given
abbrev pub IsOutcome : {A : Type 0} → (A → Type 0) → TypeRefusals → Result A (Refusal TypeKind) → Type 0
IsOutcome IsSo refusals (Ok x) = (refusals ≡ []) × IsSo x
IsOutcome IsSo refusals (Err r) = first_type_refusal refusals ≡ Some r

-- what stands of something once a further rule was looked at
abbrev pub ruled : {A : Type 0} → Result A (Refusal TypeKind) → Option (Refusal TypeKind) → Result A (Refusal TypeKind)
ruled (Ok x) None = Ok x
ruled (Ok x) (Some r) = Err r
ruled (Err r) clash = Err (first_of_both type_rank r clash)

-- what stands of two operands
abbrev pub both_of : Result Node (Refusal TypeKind) → Result Node (Refusal TypeKind) → Result Pair (Refusal TypeKind)
both_of (Ok left) (Ok right) = Ok (record { left = left; right = right })
both_of (Ok left) (Err r) = Err r
both_of (Err r) (Ok right) = Err r
both_of (Err r) (Err q) = Err (first_of_both type_rank r (Some q))

-- an expression of which this is known, and in which no rule is broken
abbrev pub unbroken : Typing → TypedExpression → ElaboratedExpression
unbroken typing node = record { typing = typing; refusals = []; node = node }

-- what the code holds is what becomes of an expression: what is known of its type; its typed tree where no rule is broken, else the
-- broken rule that is given
pub record IsJudged (e : ElaboratedExpression) (j : Judgement) : Type 0 where
  pub typing : typing_of j.typing ≡ e.typing
  pub outcome : IsOutcome (λ (n : Node). node_tree n ≡ e.node) e.refusals j.outcome

-- an expression is judged, unless memory ran out
abbrev pub Judges : ElaboratedExpression → Result Judgement OutOfMemory → Type 0
Judges e (Ok j) = IsJudged e j
Judges e (Err fault) = Unit {0}

-- ---- the rules of single operands, without what is broken in them

-- a condition: a text is NotTruth at its first token, null may not stand there
abbrev pub truth_clash : Place → Typing → TypeRefusals
truth_clash first_token typing = null_clash typing ++ where_known typing (λ ty. if is_numeric_type ty then [] else type_refusal_at NotTruth first_token)

-- a value that is assigned to a type
abbrev pub assigned_clash : Ty → Place → Typing → TypeRefusals
assigned_clash ty place typing = where_known typing (λ from. clash_unless (is_assigned_from ty from) place)

-- two operands that are compared
abbrev pub comparison_clash : Place → Typing → Typing → TypeRefusals
comparison_clash operator a b = where_both_known a b (λ x y. clash_unless (are_comparable x y) operator)

-- ---- parts of a form

-- a further operand of a chain, as the code holds it
abbrev pub link_of : Link → ElaboratedLink
link_of l = record { widens = l.widens; operation = l.operation; operand = typed_expression l.operand; ty = l.ty }

-- what stands of an expression that is assigned to a type at a place
abbrev pub IsAssigned : Ty → Place → ElaboratedExpression → Result Node (Refusal TypeKind) → Type 0
IsAssigned ty place e outcome = IsOutcome (λ (n : Node). node_tree n ≡ assigned_node ty e) (assigned_refusals ty place e) outcome
