-- What the code holds of the arguments of a function.
use Rattle.std.specs.Prelude.{◌≡◌, Bool, true, false, List, [], ◌∷◌, map, Option, Some, None, Result}
use Rattle.ds2_base.specs.declared.place.Refusal.{Refusal}
use Rattle.ds2_value.specs.declared.ty.Ty.{Ty}
use Rattle.ds2_meaning.specs.TypedExpression.{TypedExpression}
use Rattle.ds2_meaning.specs.View.{typed_expression}
use Rattle.ds2_meaning.specs.declared.expressions.Expression.{Expression}
use Rattle.ds2_meaning.specs.declared.refusals.TypeKind.{TypeKind}
use Rattle.ds2_names.specs.NameRules.{from_each}
use Rattle.ds2_elaboration.specs.FunctionTypes.{ElaboratedArgument, argument_refusals}
use Rattle.ds2_elaboration.specs.Typings.{TypeRefusals, Typing, Known, NullAt, ElaboratedExpression, assigned_node}
use Rattle.ds2_types.specs.Judgements.{typing_of, node_tree, passes, IsOutcome, IsJudged}
use Rattle.ds2_types.specs.declared.rules.ArgumentRule.{ArgumentRule}
use Rattle.ds2_types.specs.declared.judgement.Judgement.{Judgement}
use Rattle.ds2_types.specs.declared.judgement.Node.{Node}
use Rattle.ds2_types.specs.declared.rules.OperandTest.{OperandTest}

-- ---- what is known of them

-- the type that is known, where one is
abbrev pub known_type : Typing → List Ty
known_type (Known ty) = ty ∷ []
known_type _ = []

-- the types that are known of arguments
abbrev pub types_known : List Judgement → List Ty
types_known js = from_each (λ (j : Judgement). known_type (typing_of j.typing)) js

-- the constant null
abbrev pub is_null_typing : Typing → Bool
is_null_typing (NullAt place) = true
is_null_typing _ = false

-- an argument is the constant null
abbrev pub is_null_judgement : Judgement → Bool
is_null_judgement j = is_null_typing (typing_of j.typing)

-- a type passes a test, where it is known
abbrev pub passes_if_known : (Ty → Bool) → Typing → Bool
passes_if_known test (Known ty) = test ty
passes_if_known test _ = true

-- the type of an argument passes a test, where it is known
abbrev pub is_known_as : OperandTest → Judgement → Bool
is_known_as t j = passes_if_known (passes t) (typing_of j.typing)

-- ---- what becomes of them

-- what the code holds is what becomes of arguments, in order
abbrev pub AreJudged : List ElaboratedArgument → List Judgement → Type 0
AreJudged [] [] = Unit {0}
AreJudged (x ∷ xs) (j ∷ js) = IsJudged x.value j × AreJudged xs js
AreJudged _ _ = ⊥

-- the rules that an argument breaks: its own, and where there is a test on its type that one at the function's name
abbrev pub argument_rule : Option ArgumentRule → ElaboratedArgument → TypeRefusals
argument_rule None = λ (x : ElaboratedArgument). x.value.refusals
argument_rule (Some r) = argument_refusals (passes r.test) r.name

-- a value as it is, or in a type
abbrev pub value_in : Option Ty → ElaboratedExpression → TypedExpression
value_in None e = e.node
value_in (Some ty) e = assigned_node ty e

-- what stands of an argument once its rule was looked at
pub record IsRuled (rule : Option ArgumentRule) (e : ElaboratedArgument) (j : Judgement) : Type 0 where
  pub typing : typing_of j.typing ≡ e.value.typing
  pub outcome : IsOutcome (λ (n : Node). node_tree n ≡ e.value.node) (argument_rule rule e) j.outcome

-- typed trees of these nodes where no rule is broken; else the broken rule that is given
abbrev pub AreValues : TypeRefusals → List TypedExpression → Result (List Expression) (Refusal TypeKind) → Type 0
AreValues refusals nodes values = IsOutcome (λ (es : List Expression). map typed_expression es ≡ nodes) refusals values
