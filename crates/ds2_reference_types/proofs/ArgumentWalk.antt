-- The arguments of a call, one after the other.
use Rattle.std.proofs.Common.{◌≡◌, ℕ, ◌+◌, ◌<◌, ◌≤◌, Bool, true, false, List, [], ◌∷◌, ◌++◌, length, get_or, drop, map, Some, None, if◌then◌else◌, Result, Ok, Err, refl, sym, ap, ◌∙◌, subst, append_assoc}
use Rattle.std.specs.Prelude.{is_none}
use Rattle.std.proofs.lemmas.List.{at_drop_more, at_drop_all, append-nil}
use Rattle.ds2_base.specs.declared.place.Place.{Place}
use Rattle.ds2_base.specs.declared.place.Refusal.{Refusal}
use Rattle.ds2_meaning.specs.TypedExpression as tree
use Rattle.ds2_meaning.specs.View.{Part, in_a_row, argument_tree}
use Rattle.ds2_meaning.specs.declared.expressions.Argument as typed
use Rattle.ds2_meaning.specs.declared.methods.Parameter.{Parameter}
use Rattle.ds2_meaning.specs.declared.refusals.TypeKind.{TypeKind}
use Rattle.ds2_tree.specs.ExpressionViews.{arguments_of}
use Rattle.ds2_tree.specs.declared.expressions.Argument as code
use Rattle.ds2_elaboration.specs.ExpressionTypes.{TypeScope, ElaboratedArguments, no_arguments, arguments_for, elaborated_arguments, in_out_argument, value_argument}
use Rattle.ds2_elaboration.specs.FunctionTypes.{ElaboratedArgument}
use Rattle.ds2_elaboration.specs.Typings.{TypeRefusals, clash_unless}
use Rattle.ds2_types.specs.Judgements.{first_type_refusal, IsJudged, ruled}
use Rattle.ds2_types.specs.declared.judgement.Judgement.{Judgement}
use Rattle.ds2_types.proofs.Outcomes.{after_rule}
use Rattle.ds2_expression_types.specs.Arguments.{AreJudged}
use Rattle.ds2_reference_types.specs.ArgumentTrees.{argument_in}
use Rattle.ds2_reference_types.specs.Parameters.{front_of, behind_front}
use Rattle.ds2_reference_types.specs.Passing.{passed_refusals, passed_part, ArePassed, AreAllPassed}
use Rattle.ds2_reference_types.proofs.KnownNames.{none_not_some, some_not_none, inside}

-- the arguments from one on
pub next_argument : (types : TypeScope) (as' : List code.Argument) (i : ℕ) (a : code.Argument) → i < length as' → a ≡ get_or as' i a
    → elaborated_arguments types (arguments_of (drop i as')) ≡ argument_in types a ∷ elaborated_arguments types (arguments_of (drop (i + 1) as'))
next_argument types as' i a h e =
    at_drop_more (λ (l : List code.Argument). elaborated_arguments types (arguments_of l)) as' i a h
    ∙ ap (λ (x : code.Argument). argument_in types x ∷ elaborated_arguments types (arguments_of (drop (i + 1) as'))) (sym e)

pub last_argument : (types : TypeScope) (as' : List code.Argument) (i : ℕ) → length as' ≤ i → elaborated_arguments types (arguments_of (drop i as')) ≡ []
last_argument types as' i h = at_drop_all (λ (l : List code.Argument). elaborated_arguments types (arguments_of l)) as' i h

-- ---- judged

judged_push : (xs : List ElaboratedArgument) (js : List Judgement) (x : ElaboratedArgument) (j : Judgement) → AreJudged xs js → IsJudged x.value j
    → AreJudged (xs ++ x ∷ []) (js ++ j ∷ [])
judged_push [] [] x j h k = (k, tt)
judged_push [] (i ∷ js) x j h k = absurd h
judged_push (y ∷ xs) [] x j h k = absurd h
judged_push (y ∷ xs) (i ∷ js) x j h k = (h.0, judged_push xs js x j h.1 k)

-- arguments of which the first ones are judged
pub record HasJudged (all rest : List ElaboratedArgument) (js : List Judgement) : Type 0 where
  pub done : List ElaboratedArgument
  pub judged : AreJudged done js
  pub same : all ≡ done ++ rest

pub none_judged : (all : List ElaboratedArgument) (js : List Judgement) → js ≡ [] → HasJudged all all js
none_judged all js e = record { done = []; judged = subst (AreJudged []) (sym e) tt; same = refl }

pub one_judged : (all : List ElaboratedArgument) (x : ElaboratedArgument) (rest more : List ElaboratedArgument) (js next : List Judgement) (j : Judgement) → HasJudged all more js
    → more ≡ x ∷ rest → IsJudged x.value j → next ≡ js ++ j ∷ [] → HasJudged all rest next
one_judged all x rest more js next j h m k e = record {
  done = h.done ++ x ∷ [];
  judged = subst (AreJudged (h.done ++ x ∷ [])) (sym e) (judged_push h.done js x j h.judged k);
  same = h.same ∙ ap (λ (l : List ElaboratedArgument). h.done ++ l) m ∙ sym (append_assoc h.done (x ∷ []) rest);
}

pub all_judged : (all rest : List ElaboratedArgument) (js : List Judgement) → HasJudged all rest js → rest ≡ [] → AreJudged all js
all_judged all rest js h e =
    subst (λ (l : List ElaboratedArgument). AreJudged l js) (sym (h.same ∙ ap (λ (l : List ElaboratedArgument). h.done ++ l) e ∙ append-nil h.done)) h.judged

-- ---- passed

-- these rules and parts before further ones
abbrev pub passed_before : TypeRefusals → List (Part tree.TypedArguments) → ElaboratedArguments → ElaboratedArguments
passed_before refusals parts rest = record { refusals = refusals ++ rest.refusals; arguments = in_a_row parts rest.arguments }

-- one argument before further ones
one_before : (name : Place) (p : Parameter) (ps : List Parameter) (x : ElaboratedArgument) (xs : List ElaboratedArgument)
    → arguments_for name (p ∷ ps) (x ∷ xs) ≡ record { refusals = passed_refusals p x ++ (arguments_for name ps xs).refusals; arguments = passed_part p x (arguments_for name ps xs).arguments }
one_before name p ps x xs = by p.is_in_out
  where
    rest : ElaboratedArguments
    rest = arguments_for name ps xs

    by : (b : Bool)
        → (if b then in_out_argument p.ty x rest else value_argument p.ty x rest)
        ≡ record { refusals = passed_refusals (record p { is_in_out = b }) x ++ rest.refusals; arguments = passed_part (record p { is_in_out = b }) x rest.arguments }
    by true = refl
    by false = refl

row_push : (parts : List (Part tree.TypedArguments)) (part : Part tree.TypedArguments) (end : tree.TypedArguments) → in_a_row (parts ++ part ∷ []) end ≡ in_a_row parts (part end)
row_push [] part end = refl
row_push (q ∷ parts) part end = ap q (row_push parts part end)

before_push : (refusals : TypeRefusals) (parts : List (Part tree.TypedArguments)) (more : TypeRefusals) (part : Part tree.TypedArguments) (rest : ElaboratedArguments)
    → passed_before refusals parts (record { refusals = more ++ rest.refusals; arguments = part rest.arguments }) ≡ passed_before (refusals ++ more) (parts ++ part ∷ []) rest
before_push refusals parts more part rest =
    ap (λ (l : TypeRefusals). record { refusals = l; arguments = in_a_row parts (part rest.arguments) }) (sym (append_assoc refusals more rest.refusals))
    ∙ ap (λ (l : tree.TypedArguments). record { refusals = (refusals ++ more) ++ rest.refusals; arguments = l }) (sym (row_push parts part rest.arguments))

-- arguments of which the first ones are passed: what comes of all comes of those that are left
pub record HasPassed (name : Place) (all : ElaboratedArguments) (ps : List Parameter) (xs : List ElaboratedArgument) (passed : Result (List typed.Argument) (Refusal TypeKind)) : Type 0 where
  pub refusals : TypeRefusals
  pub parts : List (Part tree.TypedArguments)
  pub stands : ArePassed refusals parts passed
  pub same : all ≡ passed_before refusals parts (arguments_for name ps xs)

pub none_passed : (name : Place) (ps : List Parameter) (xs : List ElaboratedArgument) (none : List typed.Argument) → none ≡ [] → HasPassed name (arguments_for name ps xs) ps xs (Ok none)
none_passed name ps xs none e =
    record { refusals = []; parts = []; stands = (refl, ap (λ (l : List typed.Argument). map argument_tree l) e); same = refl }

module _ (name : Place) (all : ElaboratedArguments) where
  pub one_passed : (ps : List Parameter) (p : Parameter) (xs more : List ElaboratedArgument) (x : ElaboratedArgument) (passed next : Result (List typed.Argument) (Refusal TypeKind))
      → HasPassed name all ps more passed → front_of ps ≡ Some p → more ≡ x ∷ xs
      → ((refusals : TypeRefusals) (parts : List (Part tree.TypedArguments)) → ArePassed refusals parts passed
      → ArePassed (refusals ++ passed_refusals p x) (parts ++ passed_part p x ∷ []) next)
      → HasPassed name all (behind_front ps) xs next
  one_passed [] p xs more x passed next h f m further = absurd (some_not_none p f)
  one_passed (q ∷ ps) p xs more x passed next h f m further =
      let own : q ≡ p = inside q p f in
      record {
        refusals = h.refusals ++ passed_refusals p x;
        parts = h.parts ++ passed_part p x ∷ [];
        stands = further h.refusals h.parts h.stands;
        same =
            h.same
            ∙ ap (λ (l : List ElaboratedArgument). passed_before h.refusals h.parts (arguments_for name (q ∷ ps) l)) m
            ∙ ap (λ (o : Parameter). passed_before h.refusals h.parts (arguments_for name (o ∷ ps) (x ∷ xs))) own
            ∙ ap (passed_before h.refusals h.parts) (one_before name p ps x xs)
            ∙ before_push h.refusals h.parts (passed_refusals p x) (passed_part p x) (arguments_for name ps xs);
      }

  -- what stands once it was looked at whether there are as many
  counted_up : (as_many : Bool) (ps : List Parameter) (xs : List ElaboratedArgument) (passed : Result (List typed.Argument) (Refusal TypeKind)) → HasPassed name all ps xs passed
      → arguments_for name ps xs ≡ no_arguments (clash_unless as_many name) → AreAllPassed all (ruled passed (first_type_refusal (clash_unless as_many name)))
  counted_up as_many ps xs passed h e =
      let whole = h.same ∙ ap (passed_before h.refusals h.parts) e in
      let ends = after_rule (λ (l : List typed.Argument). map argument_tree l ≡ h.parts) h.refusals (clash_unless as_many name) passed (first_type_refusal (clash_unless as_many name)) h.stands refl in
      subst (λ (a : ElaboratedArguments). AreAllPassed a (ruled passed (first_type_refusal (clash_unless as_many name)))) (sym whole)
      (in_order (h.refusals ++ clash_unless as_many name) h.parts (ruled passed (first_type_refusal (clash_unless as_many name))) ends)
    where
      in_order : (refusals : TypeRefusals) (parts : List (Part tree.TypedArguments)) (passed : Result (List typed.Argument) (Refusal TypeKind)) → ArePassed refusals parts passed
          → AreAllPassed (record { refusals = refusals; arguments = in_a_row parts tree.NoArgument }) passed
      in_order refusals parts (Ok l) h = (h.0, ap (λ (row : List (Part tree.TypedArguments)). in_a_row row tree.NoArgument) h.1)
      in_order refusals parts (Err r) h = h

  -- more arguments than parameters
  pub too_many : (ps : List Parameter) (xs more : List ElaboratedArgument) (x : ElaboratedArgument) (passed : Result (List typed.Argument) (Refusal TypeKind)) → HasPassed name all ps more passed
      → front_of ps ≡ None → more ≡ x ∷ xs → AreAllPassed all (ruled passed (first_type_refusal (clash_unless false name)))
  too_many [] xs more x passed h f m = counted_up false [] more passed h (ap (arguments_for name []) m)
  too_many (p ∷ ps) xs more x passed h f m = absurd (none_not_some p f)

  -- as many arguments as parameters, or fewer
  pub at_their_end : (ps : List Parameter) (xs : List ElaboratedArgument) (as_many : Bool) (passed : Result (List typed.Argument) (Refusal TypeKind)) → HasPassed name all ps xs passed
      → xs ≡ [] → as_many ≡ is_none (front_of ps) → AreAllPassed all (ruled passed (first_type_refusal (clash_unless as_many name)))
  at_their_end [] xs as_many passed h m e =
      subst (λ (b : Bool). AreAllPassed all (ruled passed (first_type_refusal (clash_unless b name)))) (sym e)
      (counted_up true [] xs passed h (ap (arguments_for name []) m))
  at_their_end (p ∷ ps) xs as_many passed h m e =
      subst (λ (b : Bool). AreAllPassed all (ruled passed (first_type_refusal (clash_unless b name)))) (sym e)
      (counted_up false (p ∷ ps) xs passed h (ap (arguments_for name (p ∷ ps)) m))
