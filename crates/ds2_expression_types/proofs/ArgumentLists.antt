-- Arguments in order, and what stands of them.
use Rattle.std.proofs.Common.{◌≡◌, Bool, ◌&&◌, List, [], ◌∷◌, ◌++◌, map, Option, Some, None, Result, Ok, Err, refl, sym, ap, ◌∙◌, subst, append_assoc}
use Rattle.std.specs.List.{list_all}
use Rattle.std.specs.Prelude.{ℕ, max, fold}
use Rattle.std.proofs.lemmas.List.{append-nil}
use Rattle.std.proofs.lemmas.List.Sums.{fold-append}
use Rattle.ds2_base.specs.declared.place.Place.{Place}
use Rattle.ds2_base.specs.declared.place.Refusal.{Refusal}
use Rattle.ds2_value.specs.declared.ty.Ty.{Ty}
use Rattle.ds2_meaning.specs.IsTyped.{type_scale, type_width}
use Rattle.ds2_meaning.specs.TypedExpression.{TypedExpression}
use Rattle.ds2_meaning.specs.View.{typed_expression}
use Rattle.ds2_meaning.specs.declared.expressions.Expression.{Expression}
use Rattle.ds2_meaning.specs.declared.refusals.TypeKind.{TypeKind}
use Rattle.ds2_names.specs.NameRules.{from_each}
use Rattle.ds2_elaboration.specs.FunctionTypes.{ElaboratedArgument, known_types, is_null_argument}
use Rattle.ds2_elaboration.specs.Typings.{TypeRefusals, Typing, Known, NullAt, Unknown, ElaboratedExpression}
use Rattle.ds2_expression_types.specs.Arguments.{known_type, types_known, passes_if_known, is_known_as, is_null_typing, is_null_judgement, AreJudged, argument_rule, value_in, IsRuled, AreValues}
use Rattle.ds2_expression_types.specs.FurtherValues.{values_and}
use Rattle.ds2_expression_types.specs.declared.arguments.FurtherValue.{FurtherValue}
use Rattle.ds2_types.specs.Judgements.{typing_of, node_tree, passes, unbroken, IsOutcome, IsJudged}
use Rattle.ds2_types.specs.declared.judgement.Judgement.{Judgement}
use Rattle.ds2_types.specs.declared.judgement.Node.{Node}
use Rattle.ds2_types.specs.declared.rules.OperandTest.{OperandTest}
use Rattle.ds2_types.specs.declared.rules.ArgumentRule.{ArgumentRule}
use Rattle.ds2_types.proofs.Forms.{assigned_as}
use Rattle.ds2_types.proofs.Outcomes.{none_behind, given_behind, given_before, given_of_both, IsTree}

-- ---- lists with one more item

from_each-push : {A B : Type 0} (f : A → List B) (xs : List A) (x : A) → from_each f (xs ++ x ∷ []) ≡ from_each f xs ++ f x
from_each-push f [] x = append-nil (f x)
from_each-push {A} {B} f (y ∷ xs) x = ap (λ (l : List B). f y ++ l) (from_each-push f xs x) ∙ sym (append_assoc (f y) (from_each f xs) (f x))

-- the images of a list with one more item
pub map-push : {A B : Type 0} (f : A → B) (xs : List A) (x : A) → map f (xs ++ x ∷ []) ≡ map f xs ++ f x ∷ []
map-push f [] x = refl
map-push {A} {B} f (y ∷ xs) x = ap (λ (l : List B). f y ∷ l) (map-push f xs x)

-- arguments that end with one more
record EndsWithOne (xs : List ElaboratedArgument) (js : List Judgement) (j : Judgement) : Type 0 where
  before : List ElaboratedArgument
  last : ElaboratedArgument
  whole : before ++ last ∷ [] ≡ xs
  judged : AreJudged before js
  last_judged : IsJudged last.value j

ends_with_one : (xs : List ElaboratedArgument) (js : List Judgement) (j : Judgement) → AreJudged xs (js ++ j ∷ []) → EndsWithOne xs js j
ends_with_one [] [] j h = absurd h
ends_with_one [] (k ∷ js) j h = absurd h
ends_with_one (x ∷ []) [] j h = record { before = []; last = x; whole = refl; judged = tt; last_judged = h.0 }
ends_with_one (x ∷ y ∷ xs) [] j h = absurd h.1
ends_with_one (x ∷ xs) (k ∷ js) j h =
    let rest = ends_with_one xs js j h.1 in
    record {
      before = x ∷ rest.before;
      last = rest.last;
      whole = ap (λ (l : List ElaboratedArgument). x ∷ l) rest.whole;
      judged = (h.0, rest.judged);
      last_judged = rest.last_judged;
    }

-- ---- what is known of arguments

known_head : (place : Place) (t : Typing) (refusals : TypeRefusals) (node : TypedExpression) (xs : List ElaboratedArgument)
    → known_types (record { place = place; value = record { typing = t; refusals = refusals; node = node } } ∷ xs) ≡ known_type t ++ known_types xs
known_head place (Known ty) refusals node xs = refl
known_head place (NullAt word) refusals node xs = refl
known_head place Unknown refusals node xs = refl

-- the types that are known of arguments
pub types_as_known : (xs : List ElaboratedArgument) (js : List Judgement) → AreJudged xs js → known_types xs ≡ types_known js
types_as_known [] [] h = refl
types_as_known [] (j ∷ js) h = absurd h
types_as_known (x ∷ xs) [] h = absurd h
types_as_known (x ∷ xs) (j ∷ js) h =
    known_head x.place x.value.typing x.value.refusals x.value.node xs
    ∙ ap (λ (t : Typing). known_type t ++ known_types xs) (sym h.0.typing)
    ∙ ap (λ (l : List Ty). known_type (typing_of j.typing) ++ l) (types_as_known xs js h.1)

-- an argument whose type passes a test, or is not known
head_known : (t : OperandTest) (own : Typing) (types : List Ty) → list_all (passes t) (known_type own ++ types) ≡ (passes_if_known (passes t) own && list_all (passes t) types)
head_known t (Known ty) types = refl
head_known t (NullAt word) types = refl
head_known t Unknown types = refl

-- the types that are known pass a test where each argument's does
pub all_known : (t : OperandTest) (js : List Judgement) → list_all (is_known_as t) js ≡ list_all (passes t) (types_known js)
all_known t [] = refl
all_known t (j ∷ js) =
    ap (λ (b : Bool). is_known_as t j && b) (all_known t js) ∙ sym (head_known t (typing_of j.typing) (types_known js))

-- the greatest scale and the greatest length, from the first argument on
pub scale_step : (greatest : ℕ) (j : Judgement) (js : List Judgement)
    → fold (λ (s : ℕ) (ty : Ty). max s (type_scale ty)) (fold (λ (s : ℕ) (ty : Ty). max s (type_scale ty)) greatest (known_type (typing_of j.typing))) (types_known js)
    ≡ fold (λ (s : ℕ) (ty : Ty). max s (type_scale ty)) greatest (types_known (j ∷ js))
scale_step greatest j js = sym (fold-append (λ (s : ℕ) (ty : Ty). max s (type_scale ty)) greatest (known_type (typing_of j.typing)) (types_known js))

pub width_step : (greatest : ℕ) (j : Judgement) (js : List Judgement)
    → fold (λ (n : ℕ) (ty : Ty). max n (type_width ty)) (fold (λ (n : ℕ) (ty : Ty). max n (type_width ty)) greatest (known_type (typing_of j.typing))) (types_known js)
    ≡ fold (λ (n : ℕ) (ty : Ty). max n (type_width ty)) greatest (types_known (j ∷ js))
width_step greatest j js = sym (fold-append (λ (n : ℕ) (ty : Ty). max n (type_width ty)) greatest (known_type (typing_of j.typing)) (types_known js))

null_head : (place : Place) (t : Typing) (refusals : TypeRefusals) (node : TypedExpression)
    → is_null_argument (record { place = place; value = record { typing = t; refusals = refusals; node = node } }) ≡ is_null_typing t
null_head place (Known ty) refusals node = refl
null_head place (NullAt word) refusals node = refl
null_head place Unknown refusals node = refl

-- which arguments are the constant null
pub nulls_as_known : (xs : List ElaboratedArgument) (js : List Judgement) → AreJudged xs js → list_all is_null_argument xs ≡ list_all is_null_judgement js
nulls_as_known [] [] h = refl
nulls_as_known [] (j ∷ js) h = absurd h
nulls_as_known (x ∷ xs) [] h = absurd h
nulls_as_known (x ∷ xs) (j ∷ js) h =
    ap (λ (b : Bool). b && list_all is_null_argument xs) (null_head x.place x.value.typing x.value.refusals x.value.node)
    ∙ ap (λ (t : Typing). is_null_typing t && list_all is_null_argument xs) (sym h.0.typing)
    ∙ ap (λ (b : Bool). is_null_judgement j && b) (nulls_as_known xs js h.1)

-- ---- values with one more

-- the broken rules of arguments under a rule on each
abbrev pub rules_of : Option ArgumentRule → List ElaboratedArgument → TypeRefusals
rules_of rule xs = from_each (argument_rule rule) xs

-- the values of arguments, each as it is or in a type
abbrev pub values_of : Option Ty → List ElaboratedArgument → List TypedExpression
values_of ty xs = map (λ (x : ElaboratedArgument). value_in ty x.value) xs

one_more : (ty : Option Ty) (rule : Option ArgumentRule) (refusals : TypeRefusals) (nodes : List TypedExpression) (before : List ElaboratedArgument) (last : ElaboratedArgument)
    (values : Result (List Expression) (Refusal TypeKind))
    → AreValues ((refusals ++ rules_of rule before) ++ argument_rule rule last) ((nodes ++ values_of ty before) ++ value_in ty last.value ∷ []) values
    → AreValues (refusals ++ rules_of rule (before ++ last ∷ [])) (nodes ++ values_of ty (before ++ last ∷ [])) values
one_more ty rule refusals nodes before last values h =
    subst (λ (l : List TypedExpression). AreValues (refusals ++ rules_of rule (before ++ last ∷ [])) l values)
    (append_assoc nodes (values_of ty before) (value_in ty last.value ∷ [])
    ∙ ap (λ (l : List TypedExpression). nodes ++ l) (sym (map-push (λ (x : ElaboratedArgument). value_in ty x.value) before last)))
    (subst (λ (l : TypeRefusals). AreValues l ((nodes ++ values_of ty before) ++ value_in ty last.value ∷ []) values)
    (append_assoc refusals (rules_of rule before) (argument_rule rule last)
    ∙ ap (λ (l : TypeRefusals). refusals ++ l) (sym (from_each-push (argument_rule rule) before last))) h)

-- no argument yet
pub values_begun : (ty : Option Ty) (rule : Option ArgumentRule) (refusals : TypeRefusals) (nodes : List TypedExpression) (xs : List ElaboratedArgument)
    (values : Result (List Expression) (Refusal TypeKind)) → AreValues refusals nodes values → AreJudged xs []
    → AreValues (refusals ++ rules_of rule xs) (nodes ++ values_of ty xs) values
values_begun ty rule refusals nodes [] values h k =
    subst (λ (l : TypeRefusals). AreValues l (nodes ++ []) values) (sym (append-nil refusals))
    (subst (λ (l : List TypedExpression). AreValues refusals l values) (sym (append-nil nodes)) h)
values_begun ty rule refusals nodes (x ∷ xs) values h k = absurd k

-- the values up to one more argument, from those before it
pub values_joined : (ty : Option Ty) (rule : Option ArgumentRule) (refusals : TypeRefusals) (nodes : List TypedExpression) (xs : List ElaboratedArgument)
    (js : List Judgement) (j : Judgement) (values : Result (List Expression) (Refusal TypeKind)) → AreJudged xs (js ++ j ∷ [])
    → ((before : List ElaboratedArgument) (last : ElaboratedArgument) → AreJudged before js → IsJudged last.value j
    → AreValues ((refusals ++ rules_of rule before) ++ argument_rule rule last) ((nodes ++ values_of ty before) ++ value_in ty last.value ∷ []) values)
    → AreValues (refusals ++ rules_of rule xs) (nodes ++ values_of ty xs) values
values_joined ty rule refusals nodes xs js j values h further =
    let end = ends_with_one xs js j h in
    subst (λ (l : List ElaboratedArgument). AreValues (refusals ++ rules_of rule l) (nodes ++ values_of ty l) values) end.whole
    (one_more ty rule refusals nodes end.before end.last values (further end.before end.last end.judged end.last_judged))

-- ---- one argument joined to others

-- a value as it is or in a type, from what is known of it
pub value_as : (ty : Option Ty) (e : ElaboratedExpression) (t : Typing) (node : TypedExpression) → t ≡ e.typing → node ≡ e.node
    → value_in ty (unbroken t node) ≡ value_in ty e
value_as None e t node h k = k
value_as (Some ty) e t node h k = assigned_as ty e t node h k

-- values with one more behind them
pub pushed : (es : List Expression) (n : Node) (nodes : List TypedExpression) (v : TypedExpression) → map typed_expression es ≡ nodes → node_tree n ≡ v
    → map typed_expression (es ++ n.tree.value ∷ []) ≡ nodes ++ v ∷ []
pushed es n nodes v h k =
    map-push typed_expression es n.tree.value ∙ ap (λ (l : List TypedExpression). l ++ node_tree n ∷ []) h ∙ ap (λ (t : TypedExpression). nodes ++ t ∷ []) k

-- values of these nodes, and an operand of this one
abbrev pub AreFurther : List TypedExpression → TypedExpression → FurtherValue → Type 0
AreFurther nodes node f = (map typed_expression f.values ≡ nodes) × (node_tree f.operand ≡ node)

-- what stands of values and of one more operand
pub after_values : (nodes : List TypedExpression) (node : TypedExpression) (xs ys : TypeRefusals) (values : Result (List Expression) (Refusal TypeKind))
    (operand : Result Node (Refusal TypeKind)) → AreValues xs nodes values → IsOutcome (IsTree node) ys operand
    → IsOutcome (AreFurther nodes node) (xs ++ ys) (values_and values operand)
after_values nodes node xs ys (Ok values) (Ok operand) h k = (none_behind xs ys h.0 k.0, (h.1, k.1))
after_values nodes node xs ys (Ok values) (Err q) h k = given_behind xs ys q h.0 k
after_values nodes node xs ys (Err p) (Ok operand) h k = given_before xs ys p h k.0
after_values nodes node xs ys (Err p) (Err q) h k = given_of_both xs ys p q h k

-- the same, of a result that is known
pub further_values : (rule : Option ArgumentRule) (refusals : TypeRefusals) (nodes : List TypedExpression) (e : ElaboratedArgument) (x : Judgement)
    (before : Result (List Expression) (Refusal TypeKind)) (result : Result FurtherValue (Refusal TypeKind)) → AreValues refusals nodes before → IsRuled rule e x
    → result ≡ values_and before x.outcome → (given : Result FurtherValue (Refusal TypeKind)) → result ≡ given
    → IsOutcome (AreFurther nodes e.value.node) (refusals ++ argument_rule rule e) given
further_values rule refusals nodes e x before result h r g given i =
    subst (IsOutcome (AreFurther nodes e.value.node) (refusals ++ argument_rule rule e)) (sym g ∙ i)
    (after_values nodes e.value.node refusals (argument_rule rule e) before x.outcome h r.outcome)
