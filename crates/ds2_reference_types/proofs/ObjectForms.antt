-- Objects that are looked up, and what is called on them.
use Rattle.std.proofs.Common.{◌≡◌, ℕ, Bool, true, false, if◌then◌else◌, bytes_eq, codes, List, [], ◌∷◌, ◌++◌, map, Option, Some, None, Result, refl, sym, ap, ◌∙◌, subst}
use Rattle.ds2_base.specs.declared.place.Place.{Place}
use Rattle.ds2_base.specs.declared.stop.OutOfMemory.{OutOfMemory}
use Rattle.ds2_value.specs.declared.hash_function.HashFunction.{HashFunction}
use Rattle.ds2_value.specs.declared.hash_function.HashFunction.TheVariants.{NumItems}
use Rattle.ds2_value.specs.declared.hash_function.IteratorFunction.{IteratorFunction}
use Rattle.ds2_value.specs.declared.ty.Ty.TheVariants.{BigInt}
use Rattle.ds2_token.specs.declared.token.Token.{Token}
use Rattle.ds2_meaning.specs.TypedExpression as tree
use Rattle.ds2_meaning.specs.declared.globals.Variable.{Variable}
use Rattle.ds2_names.specs.SourceUnit.{spelled_name}
use Rattle.ds2_elaboration.specs.ExpressionTypes.{TypeScope, ObjectCalls, HashCalls, object_in_scope, elaborated_hash_call, elaborated_iterator_call, member_of_object, arguments_for, values_for}
use Rattle.ds2_elaboration.specs.FunctionTypes.{ElaboratedArgument}
use Rattle.ds2_elaboration.specs.Typings.{TypeRefusals, elaborated_nameless, form_of_type, assigned_refusals}
use Rattle.ds2_types.specs.Judgements.{IsJudged, Judges}
use Rattle.ds2_types.specs.declared.judgement.Judgement.{Judgement}
use Rattle.ds2_reference_types.specs.Scopes.{value_parameter, object_in, IsKnownObject, IsObjectAs, IsScopeOf}
use Rattle.ds2_reference_types.specs.declared.scopes.KnownObject.{KnownObject}
use Rattle.ds2_reference_types.specs.declared.scopes.Scope.{Scope}
use Rattle.ds2_reference_types.proofs.KnownNames.{none_not_some, some_not_none, inside}

-- ---- objects

module _ (own : List ℕ) (IsSo : Option ObjectCalls → Type 0) where
  nothing_there : (k : Option KnownObject) (calls : Option ObjectCalls) → k ≡ None → IsObjectAs own k calls → IsSo None → IsSo calls
  nothing_there None None e h g = g
  nothing_there None (Some calls) e h g = absurd h
  nothing_there (Some k) calls e h g = absurd (none_not_some k e)

  something_there : (k : Option KnownObject) (calls : Option ObjectCalls) (known : KnownObject) → k ≡ Some known → IsObjectAs own k calls
      → ((c : ObjectCalls) → IsKnownObject own known c → IsSo (Some c)) → IsSo calls
  something_there None calls known e h g = absurd (some_not_none known e)
  something_there (Some k) None known e h g = absurd h
  something_there (Some k) (Some calls) known e h g = g calls (subst (λ (o : KnownObject). IsKnownObject own o calls) (inside k known e) h)

module _ (types : TypeScope) (scope : Scope) (object : Token) (spelled : List ℕ) (found : Option KnownObject) (IsSo : Option ObjectCalls → Type 0) where
  -- a name that is no object's
  pub no_object : IsScopeOf types scope → spelled ≡ spelled_name object → found ≡ object_in scope spelled → found ≡ None → IsSo None → IsSo (object_in_scope types (spelled_name object))
  no_object s e f g h =
      nothing_there (spelled_name object) IsSo (object_in scope (spelled_name object)) (object_in_scope types (spelled_name object)) (ap (object_in scope) (sym e) ∙ sym f ∙ g)
      (s.objects (spelled_name object)) h

  -- one that is
  pub an_object : (known : KnownObject) → IsScopeOf types scope → spelled ≡ spelled_name object → found ≡ object_in scope spelled → found ≡ Some known
      → ((c : ObjectCalls) → IsKnownObject (spelled_name object) known c → IsSo (Some c)) → IsSo (object_in_scope types (spelled_name object))
  an_object known s e f g h =
      something_there (spelled_name object) IsSo (object_in scope (spelled_name object)) (object_in_scope types (spelled_name object)) known (ap (object_in scope) (sym e) ∙ sym f ∙ g)
      (s.objects (spelled_name object)) h

-- ---- calls of hash objects and iterators

pub no_hash_function : (object method : Token) (f g : Option HashFunction) (j : Judgement) → g ≡ f → g ≡ None → IsJudged (elaborated_nameless object.place) j
    → IsJudged (elaborated_hash_call object method f) j
no_hash_function object method f g j e n h = subst (λ (o : Option HashFunction). IsJudged (elaborated_hash_call object method o) j) (sym n ∙ e) h

pub a_hash_function : (object method : Token) (name : List ℕ) (f g : Option HashFunction) (function : HashFunction) (result : Result Judgement OutOfMemory) → g ≡ f → g ≡ Some function
    → name ≡ spelled_name object → Judges (form_of_type BigInt [] (tree.HashCalled name function)) result → Judges (elaborated_hash_call object method f) result
a_hash_function object method name f g function result e n k h =
    subst (λ (o : Option HashFunction). Judges (elaborated_hash_call object method o) result) (sym n ∙ e)
    (subst (λ (l : List ℕ). Judges (form_of_type BigInt [] (tree.HashCalled l function)) result) k h)

pub no_iterator_function : (object method : Token) (f g : Option IteratorFunction) (j : Judgement) → g ≡ f → g ≡ None → IsJudged (elaborated_nameless object.place) j
    → IsJudged (elaborated_iterator_call object method f) j
no_iterator_function object method f g j e n h = subst (λ (o : Option IteratorFunction). IsJudged (elaborated_iterator_call object method o) j) (sym n ∙ e) h

pub an_iterator_function : (object method : Token) (name : List ℕ) (f g : Option IteratorFunction) (function : IteratorFunction) (result : Result Judgement OutOfMemory) → g ≡ f
    → g ≡ Some function → name ≡ spelled_name object → Judges (form_of_type BigInt [] (tree.IteratorCalled name function)) result
    → Judges (elaborated_iterator_call object method f) result
an_iterator_function object method name f g function result e n k h =
    subst (λ (o : Option IteratorFunction). Judges (elaborated_iterator_call object method o) result) (sym n ∙ e)
    (subst (λ (l : List ℕ). Judges (form_of_type BigInt [] (tree.IteratorCalled l function)) result) k h)

-- ---- members of hash objects

pub items_counted : (object member : Token) (name : List ℕ) (result : Result Judgement OutOfMemory) → bytes_eq (spelled_name member) (codes "num_items") ≡ true → name ≡ spelled_name object
    → Judges (form_of_type BigInt [] (tree.HashCalled name NumItems)) result → Judges (member_of_object object member (Some HashCalls)) result
items_counted object member name result t k h =
    subst
    (λ (b : Bool). Judges (if b then form_of_type BigInt [] (tree.HashCalled (spelled_name object) NumItems) else elaborated_nameless object.place) result) (sym t)
    (subst (λ (l : List ℕ). Judges (form_of_type BigInt [] (tree.HashCalled l NumItems)) result) k h)

pub items_not_counted : (object member : Token) (j : Judgement) → bytes_eq (spelled_name member) (codes "num_items") ≡ false → IsJudged (elaborated_nameless object.place) j
    → IsJudged (member_of_object object member (Some HashCalls)) j
items_not_counted object member j f h =
    subst (λ (b : Bool). IsJudged (if b then form_of_type BigInt [] (tree.HashCalled (spelled_name object) NumItems) else elaborated_nameless object.place) j) (sym f) h

-- ---- parameters of thread programs

-- what is broken in values for parameters is what is broken in them as arguments
pub values_refused : (place : Place) (vs : List Variable) (xs : List ElaboratedArgument) → (values_for place vs xs).refusals ≡ (arguments_for place (map value_parameter vs) xs).refusals
values_refused place [] [] = refl
values_refused place [] (x ∷ xs) = refl
values_refused place (v ∷ vs) [] = refl
values_refused place (v ∷ vs) (x ∷ xs) = ap (λ (l : TypeRefusals). assigned_refusals v.ty x.place x.value ++ l) (values_refused place vs xs)
