-- Functions of several values in one type, from what stands of their arguments.
use Rattle.std.proofs.Common.{◌≡◌, suc, Bool, ◌||◌, not, map, length, List, [], ◌∷◌, ◌++◌, Option, Some, None, Result, Ok, Err, refl, sym, ap, ◌∙◌, subst}
use Rattle.std.specs.Prelude.{ℕ}
use Rattle.std.specs.List.{list_all}
use Rattle.ds2_base.specs.declared.place.Place.{Place}
use Rattle.ds2_base.specs.declared.place.Refusal.{Refusal}
use Rattle.ds2_base.specs.declared.stop.OutOfMemory.{OutOfMemory}
use Rattle.ds2_value.specs.declared.ty.Ty.{Ty}
use Rattle.ds2_value.specs.declared.ty.Ty.TheVariants.{Varchar}
use Rattle.ds2_value.specs.declared.value_function.ValueFunction.{ValueFunction}
use Rattle.ds2_meaning.specs.IsTyped.{expression_type, type_width}
use Rattle.ds2_meaning.specs.TypedExpression.{TypedExpression, Applied}
use Rattle.ds2_meaning.specs.View.{typed_expression}
use Rattle.ds2_meaning.specs.declared.expressions.Expression.{Expression}
use Rattle.ds2_meaning.specs.declared.expressions.Function.{Function}
use Rattle.ds2_meaning.specs.declared.expressions.Function.TheVariants.{Coalesce, Value}
use Rattle.ds2_meaning.specs.declared.refusals.TypeKind.{TypeKind}
use Rattle.ds2_names.specs.NameRules.{from_each}
use Rattle.ds2_elaboration.specs.FunctionTypes.{ElaboratedArgument, nodes_in_order, refusals_in, argument_refusals, known_types, is_null_argument, common_type, elaborated_coalesce, elaborated_extreme, substring_of, elaborated_substring}
use Rattle.ds2_elaboration.specs.Typings.{TypeRefusals, ElaboratedExpression, clash_unless, form_of_operands, is_numeric_type, is_characters, is_integer_type}
use Rattle.ds2_expression_types.specs.Arguments.{types_known, is_null_judgement, AreJudged, AreValues}
use Rattle.ds2_types.specs.Judgements.{first_type_refusal, IsOutcome, Judges, ruled}
use Rattle.ds2_types.specs.declared.judgement.Judgement.{Judgement}
use Rattle.ds2_types.specs.declared.judgement.Node.{Node}
use Rattle.ds2_expression_types.proofs.ArgumentLists.{types_as_known, nulls_as_known, rules_of, values_of}
use Rattle.ds2_types.proofs.Outcomes.{IsTree, after_rule}

-- typed trees of arguments, or the broken rule that is given
abbrev pub Values : Type 0
Values = Result (List Expression) (Refusal TypeKind)

-- a function of these values
abbrev applied_form : Function → List ElaboratedArgument → TypeRefusals → Ty → Result Judgement OutOfMemory → Type 0
applied_form f xs refusals ty result = Judges (form_of_operands refusals (Applied f (nodes_in_order (values_of (Some ty) xs)) ty)) result

module _ (name : Place) (xs : List ElaboratedArgument) (js : List Judgement) (ty : Ty) (all : Values) (result : Result Judgement OutOfMemory) where
  -- coalesce(a, ..)
  pub is_coalesce : (nulls mixed : Option (Refusal TypeKind)) → AreJudged xs js
      → nulls ≡ first_type_refusal (clash_unless (not (list_all is_null_judgement js)) name)
      → mixed ≡ first_type_refusal (clash_unless (list_all is_numeric_type (types_known js) || list_all is_characters (types_known js)) name)
      → ty ≡ common_type (types_known js) → AreValues (rules_of None xs) (values_of (Some ty) xs) all
      → ((refusals : TypeRefusals) (nodes : List TypedExpression) → AreValues refusals nodes (ruled (ruled all nulls) mixed)
      → Judges (form_of_operands refusals (Applied Coalesce (nodes_in_order nodes) ty)) result)
      → Judges (elaborated_coalesce name xs) result
  is_coalesce nulls mixed h n m k v further =
      let types = sym (types_as_known xs js h) in
      let null_rule = clash_unless (not (list_all is_null_argument xs)) name in
      let kind_rule = clash_unless (list_all is_numeric_type (known_types xs) || list_all is_characters (known_types xs)) name in
      let values = values_of (Some ty) xs in
      let are_so = λ (es : List Expression). map typed_expression es ≡ values in
      let one = after_rule are_so (refusals_in xs) null_rule all nulls v (n ∙ ap (λ (b : Bool). first_type_refusal (clash_unless (not b) name)) (sym (nulls_as_known xs js h))) in
      let two = after_rule are_so (refusals_in xs ++ null_rule) kind_rule (ruled all nulls) mixed one
      (m ∙ ap (λ (l : List Ty). first_type_refusal (clash_unless (list_all is_numeric_type l || list_all is_characters l) name)) types) in
      subst (λ (u : Ty). applied_form Coalesce xs (refusals_in xs ++ null_rule ++ kind_rule) u result) (k ∙ ap common_type types)
      (further (refusals_in xs ++ null_rule ++ kind_rule) values two)

  -- min(a, b, ..) and max(a, b, ..)
  pub is_extreme : (f : Function) → AreJudged xs js → ty ≡ common_type (types_known js)
      → AreValues (from_each (argument_refusals is_numeric_type name) xs) (values_of (Some ty) xs) all
      → ((refusals : TypeRefusals) (nodes : List TypedExpression) → AreValues refusals nodes all
      → Judges (form_of_operands refusals (Applied f (nodes_in_order nodes) ty)) result)
      → Judges (elaborated_extreme f name xs) result
  is_extreme f h k v further =
      let refusals = from_each (argument_refusals is_numeric_type name) xs in
      subst (λ (u : Ty). applied_form f xs refusals u result) (k ∙ ap common_type (sym (types_as_known xs js h))) (further refusals (values_of (Some ty) xs) v)

-- ---- a text and numbers

pub front_is_empty : (xs ys : TypeRefusals) → xs ++ ys ≡ [] → xs ≡ []
front_is_empty [] ys h = refl
front_is_empty (x ∷ xs) ys h = cc

-- the most characters of a text in which no rule is broken
pub width_known : (outcome : Result Node (Refusal TypeKind)) (refusals : TypeRefusals) (node : TypedExpression) (n : ℕ) → IsOutcome (IsTree node) refusals outcome
    → refusals ≡ [] → ((m : Node) → outcome ≡ Ok m → n ≡ type_width m.ty) → n ≡ type_width (expression_type node)
width_known (Ok m) refusals node n h e k = k m refl ∙ ap type_width (m.own_type ∙ ap expression_type h.1)
width_known (Err r) refusals node n h e k = let none = sym (ap first_type_refusal e) ∙ h in cc

as_many_judged : (xs : List ElaboratedArgument) (js : List Judgement) → AreJudged xs js → length js ≡ length xs
as_many_judged [] [] h = refl
as_many_judged [] (j ∷ js) h = absurd h
as_many_judged (x ∷ xs) [] h = absurd h
as_many_judged (x ∷ xs) (j ∷ js) h = ap suc (as_many_judged xs js h.1)

-- a function of a text and numbers
abbrev pub part_form : ValueFunction → Place → ElaboratedArgument → List ElaboratedArgument → ElaboratedExpression
part_form f name x numbers =
    form_of_operands (argument_refusals is_characters name x ++ from_each (argument_refusals is_integer_type name) numbers)
    (Applied (Value f) (nodes_in_order (x.value.node ∷ map (λ (n : ElaboratedArgument). n.value.node) numbers)) (Varchar (type_width (expression_type x.value.node))))

-- substr(t, i) and substr(t, i, k), by how many numbers there are
pub is_substring : (name : Place) (x : ElaboratedArgument) (numbers : List ElaboratedArgument) (js : List Judgement) (f : ValueFunction) (count : ℕ) (result : Result Judgement OutOfMemory)
    → AreJudged numbers js → f ≡ substring_of count → count ≡ length js → Judges (part_form f name x numbers) result → Judges (elaborated_substring name x numbers) result
is_substring name x numbers js f count result h is n judged =
    subst (λ (g : ValueFunction). Judges (part_form g name x numbers) result) (is ∙ ap substring_of (n ∙ as_many_judged numbers js h)) judged
