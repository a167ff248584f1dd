-- Values for the parameters of a thread program, one after the other.
use Rattle.std.proofs.Common.{◌≡◌, Bool, true, false, List, [], ◌∷◌, ◌++◌, map, Option, Some, None, Result, Ok, Err, refl, sym, ap, ◌∙◌, subst, append_assoc}
use Rattle.std.specs.Prelude.{is_none, IfOk}
use Rattle.std.proofs.lemmas.List.{append-nil}
use Rattle.ds2_base.specs.declared.place.Place.{Place}
use Rattle.ds2_base.specs.declared.place.Refusal.{Refusal}
use Rattle.ds2_base.specs.declared.stop.OutOfMemory.{OutOfMemory}
use Rattle.ds2_meaning.specs.TypedStatement.{ParameterValue}
use Rattle.ds2_meaning.specs.View.{parameter_tree}
use Rattle.ds2_meaning.specs.declared.globals.Variable.{Variable}
use Rattle.ds2_meaning.specs.declared.methods.Parameter.{Parameter}
use Rattle.ds2_meaning.specs.declared.refusals.TypeKind.{TypeKind}
use Rattle.ds2_meaning.specs.declared.statements.ParameterSetting.{ParameterSetting}
use Rattle.ds2_elaboration.specs.ExpressionTypes.{ElaboratedParameterValues, values_for}
use Rattle.ds2_elaboration.specs.FunctionTypes.{ElaboratedArgument}
use Rattle.ds2_elaboration.specs.Typings.{TypeRefusals, clash_unless}
use Rattle.ds2_types.specs.Judgements.{first_type_refusal, IsOutcome, ruled}
use Rattle.ds2_types.proofs.Outcomes.{after_rule}
use Rattle.ds2_reference_types.specs.Parameters.{front_of, behind_front}
use Rattle.ds2_reference_types.specs.Scopes.{value_parameter}
use Rattle.ds2_reference_types.proofs.KnownNames.{none_not_some, some_not_none, inside}
use Rattle.ds2_simple_statement_types.specs.BothParts.{with_one}
use Rattle.ds2_simple_statement_types.specs.Settings.{setting_of, setting_refusals, set_before}
use Rattle.ds2_simple_statement_types.specs.StatementOutcomes.{AreTypedAs}
use Rattle.ds2_simple_statement_types.proofs.PartLists.{one_behind}

set_push : (refusals : TypeRefusals) (values : List ParameterValue) (more : TypeRefusals) (one : ParameterValue) (rest : ElaboratedParameterValues)
    → set_before refusals values (record { refusals = more ++ rest.refusals; values = one ∷ rest.values }) ≡ set_before (refusals ++ more) (values ++ one ∷ []) rest
set_push refusals values more one rest =
    ap (λ (l : TypeRefusals). record { refusals = l; values = values ++ one ∷ rest.values }) (sym (append_assoc refusals more rest.refusals))
    ∙ ap (λ (l : List ParameterValue). record { refusals = (refusals ++ more) ++ rest.refusals; values = l }) (sym (append_assoc values (one ∷ []) rest.values))

-- one value more
pub one_more : (p : Parameter) (x : ElaboratedArgument) (refusals : TypeRefusals) (values : List ParameterValue) (before : Result (List ParameterSetting) (Refusal TypeKind))
    (one : Result ParameterSetting (Refusal TypeKind)) (result : Result (Result (List ParameterSetting) (Refusal TypeKind)) OutOfMemory) → AreTypedAs parameter_tree refusals values before
    → IsOutcome (λ (s : ParameterSetting). parameter_tree s ≡ setting_of p x) (setting_refusals p x) one → IfOk result (λ all. all ≡ with_one before one)
    → IfOk result (AreTypedAs parameter_tree (refusals ++ setting_refusals p x) (values ++ setting_of p x ∷ []))
one_more p x refusals values before one (Ok all) h k e =
    subst (AreTypedAs parameter_tree (refusals ++ setting_refusals p x) (values ++ setting_of p x ∷ [])) (sym e)
    (one_behind parameter_tree refusals (setting_refusals p x) values (setting_of p x) before one h k)
one_more p x refusals values before one (Err fault) h k e = tt

-- values of which the first ones are set: what comes of all comes of those that are left
pub record HasSet (name : Place) (all : ElaboratedParameterValues) (ps : List Parameter) (xs : List ElaboratedArgument) (settings : Result (List ParameterSetting) (Refusal TypeKind)) : Type 0 where
  pub variables : List Variable
  pub left : ps ≡ map value_parameter variables
  pub refusals : TypeRefusals
  pub values : List ParameterValue
  pub stands : AreTypedAs parameter_tree refusals values settings
  pub same : all ≡ set_before refusals values (values_for name variables xs)

pub none_set : (name : Place) (vs : List Variable) (ps : List Parameter) (xs : List ElaboratedArgument) (none : List ParameterSetting) → ps ≡ map value_parameter vs → none ≡ []
    → HasSet name (values_for name vs xs) ps xs (Ok none)
none_set name vs ps xs none p e = record {
  variables = vs;
  left = p;
  refusals = [];
  values = [];
  stands = (refl, ap (λ (l : List ParameterSetting). map parameter_tree l) e);
  same = refl;
}

module _ (name : Place) (all : ElaboratedParameterValues) where
  pub one_set : (ps : List Parameter) (p : Parameter) (xs more : List ElaboratedArgument) (x : ElaboratedArgument) (settings next : Result (List ParameterSetting) (Refusal TypeKind))
      → HasSet name all ps more settings → front_of ps ≡ Some p → more ≡ x ∷ xs
      → ((refusals : TypeRefusals) (values : List ParameterValue) → AreTypedAs parameter_tree refusals values settings
      → AreTypedAs parameter_tree (refusals ++ setting_refusals p x) (values ++ setting_of p x ∷ []) next)
      → HasSet name all (behind_front ps) xs next
  one_set ps p xs more x settings next h f m further = by h.variables h.left h.same
    where
      by : (vs : List Variable) → ps ≡ map value_parameter vs → all ≡ set_before h.refusals h.values (values_for name vs more) → HasSet name all (behind_front ps) xs next
      by [] e s = absurd (some_not_none p (sym (ap front_of e) ∙ f))
      by (v ∷ vs) e s =
          let own : value_parameter v ≡ p = inside (value_parameter v) p (sym (ap front_of e) ∙ f) in
          record {
            variables = vs;
            left = ap behind_front e;
            refusals = h.refusals ++ setting_refusals p x;
            values = h.values ++ setting_of p x ∷ [];
            stands = further h.refusals h.values h.stands;
            same =
                s
                ∙ ap (λ (l : List ElaboratedArgument). set_before h.refusals h.values (values_for name (v ∷ vs) l)) m
                ∙ set_push h.refusals h.values (setting_refusals (value_parameter v) x) (setting_of (value_parameter v) x) (values_for name vs xs)
                ∙ ap (λ (q : Parameter). set_before (h.refusals ++ setting_refusals q x) (h.values ++ setting_of q x ∷ []) (values_for name vs xs)) own;
          }

  -- what stands once it was looked at whether there are as many
  abbrev IsCounted : Bool → Result (List ParameterSetting) (Refusal TypeKind) → Type 0
  IsCounted as_many settings = AreTypedAs parameter_tree all.refusals all.values (ruled settings (first_type_refusal (clash_unless as_many name)))

  counted_up : (as_many : Bool) (refusals : TypeRefusals) (values : List ParameterValue) (settings : Result (List ParameterSetting) (Refusal TypeKind))
      → AreTypedAs parameter_tree refusals values settings → all ≡ record { refusals = refusals ++ clash_unless as_many name; values = values ++ [] } → IsCounted as_many settings
  counted_up as_many refusals values settings h e =
      let whole = e ∙ ap (λ (l : List ParameterValue). record { refusals = refusals ++ clash_unless as_many name; values = l }) (append-nil values) in
      let ends = after_rule (λ (l : List ParameterSetting). map parameter_tree l ≡ values) refusals (clash_unless as_many name) settings (first_type_refusal (clash_unless as_many name)) h refl in
      subst (λ (a : ElaboratedParameterValues). AreTypedAs parameter_tree a.refusals a.values (ruled settings (first_type_refusal (clash_unless as_many name)))) (sym whole) ends

  -- more values than parameters
  pub too_many : (ps : List Parameter) (xs more : List ElaboratedArgument) (x : ElaboratedArgument) (settings : Result (List ParameterSetting) (Refusal TypeKind)) → HasSet name all ps more settings
      → front_of ps ≡ None → more ≡ x ∷ xs → IsCounted false settings
  too_many ps xs more x settings h f m = by h.variables h.left h.same
    where
      by : (vs : List Variable) → ps ≡ map value_parameter vs → all ≡ set_before h.refusals h.values (values_for name vs more) → IsCounted false settings
      by [] e s = counted_up false h.refusals h.values settings h.stands (s ∙ ap (λ (l : List ElaboratedArgument). set_before h.refusals h.values (values_for name [] l)) m)
      by (v ∷ vs) e s = absurd (none_not_some (value_parameter v) (sym (ap front_of e) ∙ f))

  -- as many values as parameters, or fewer
  pub at_their_end : (ps : List Parameter) (xs : List ElaboratedArgument) (as_many : Bool) (settings : Result (List ParameterSetting) (Refusal TypeKind)) → HasSet name all ps xs settings
      → xs ≡ [] → as_many ≡ is_none (front_of ps) → IsCounted as_many settings
  at_their_end ps xs as_many settings h m a = by h.variables h.left h.same
    where
      by : (vs : List Variable) → ps ≡ map value_parameter vs → all ≡ set_before h.refusals h.values (values_for name vs xs) → IsCounted as_many settings
      by [] e s =
          subst (λ (b : Bool). IsCounted b settings) (sym (a ∙ ap (λ (l : List Parameter). is_none (front_of l)) e))
          (counted_up true h.refusals h.values settings h.stands (s ∙ ap (λ (l : List ElaboratedArgument). set_before h.refusals h.values (values_for name [] l)) m))
      by (v ∷ vs) e s =
          subst (λ (b : Bool). IsCounted b settings) (sym (a ∙ ap (λ (l : List Parameter). is_none (front_of l)) e))
          (counted_up false h.refusals h.values settings h.stands (s ∙ ap (λ (l : List ElaboratedArgument). set_before h.refusals h.values (values_for name (v ∷ vs) l)) m))
