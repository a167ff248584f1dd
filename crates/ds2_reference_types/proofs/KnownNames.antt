-- Names that are looked up, and what they stand for.
use Rattle.std.proofs.Common.{◌≡◌, ℕ, Bool, true, false, not, List, [], if◌then◌else◌, Option, Some, None, Result, Ok, Err, refl, sym, ap, ◌∙◌, subst}
use Rattle.std.specs.Prelude.{nat_eq, codes}
use Rattle.ds2_token.specs.Words.{is_word}
use Rattle.ds2_meaning.specs.declared.location.Global.{Global}
use Rattle.ds2_meaning.specs.declared.location.Global.TheVariants.{First, Last}
use Rattle.std.specs.Cmp.Lexicographic.{pointwise}
use Rattle.std.specs.HashMap.{get}
use Rattle.ds2_base.specs.declared.place.Place.{Place}
use Rattle.ds2_base.specs.declared.place.Refusal.{Refusal}
use Rattle.ds2_base.specs.declared.stop.OutOfMemory.{OutOfMemory}
use Rattle.ds2_value.specs.declared.ty.Ty.{Ty}
use Rattle.ds2_token.specs.declared.token.Token.{Token}
use Rattle.ds2_meaning.specs.ProgramTree.{is_listed}
use Rattle.ds2_meaning.specs.TypedExpression as tree
use Rattle.ds2_meaning.specs.declared.location.Reference.{Reference}
use Rattle.ds2_meaning.specs.declared.refusals.TypeKind.{TypeKind}
use Rattle.ds2_names.specs.SourceUnit.{spelled_name}
use Rattle.ds2_elaboration.specs.ExpressionTypes.{TypeScope, KnownVariable, known_variable, variable_node, value_of_variable, elaborated_variable, flag_node, elaborated_flag}
use Rattle.ds2_elaboration.specs.Typings.{ElaboratedExpression, elaborated_nameless, form_of_operands}
use Rattle.ds2_types.specs.Judgements.{node_tree, IsJudged, Judges}
use Rattle.ds2_types.specs.declared.judgement.Judgement.{Judgement}
use Rattle.ds2_types.specs.declared.judgement.Node.{Node}
use Rattle.ds2_types.specs.declared.judgement.Typing.TheVariants as known
use Rattle.ds2_types.proofs.Outcomes.{operands_broken, operands_typed}
use Rattle.ds2_types.proofs.RefusalOrder.{none_given}
use Rattle.ds2_reference_types.specs.Flags.{flag_named, flag_form}
use Rattle.ds2_reference_types.specs.Scopes.{reference_of, known_in, IsKnownVariable, IsKnownAs, IsScopeOf}
use Rattle.ds2_reference_types.specs.declared.scopes.KnownName.{KnownName}
use Rattle.ds2_reference_types.specs.declared.scopes.Scope.{Scope}

-- ---- variables

-- something is there
abbrev IsThere : {A : Type 0} → Option A → Type 0
IsThere None = ⊥
IsThere (Some k) = Unit {0}

pub none_not_some : {A : Type 0} (k : A) → Some k ≡ None → ⊥
none_not_some k e = subst IsThere e tt

pub some_not_none : {A : Type 0} (k : A) → None ≡ Some k → ⊥
some_not_none k e = none_not_some k (sym e)

-- what stands in both
abbrev or_this : {A : Type 0} → A → Option A → A
or_this k None = k
or_this k (Some x) = x

pub inside : {A : Type 0} (k x : A) → Some k ≡ Some x → k ≡ x
inside k x e = ap (or_this k) e

-- a name that stands for nothing
is_nothing : (place : Place) (k : Option KnownName) (v : Option KnownVariable) (j : Judgement) → k ≡ None → IsKnownAs k v → IsJudged (elaborated_nameless place) j
    → IsJudged (value_of_variable place v) j
is_nothing place None None j e h g = g
is_nothing place None (Some v) j e h g = absurd h
is_nothing place (Some k) None j e h g = absurd h
is_nothing place (Some k) (Some v) j e h g = absurd (none_not_some k e)

-- a name that stands for a variable
is_something : (place : Place) (k : Option KnownName) (v : Option KnownVariable) (known : KnownName) (result : Result Judgement OutOfMemory) → k ≡ Some known → IsKnownAs k v
    → ((own : KnownVariable) → IsKnownVariable known own → Judges (form_of_operands own.refusals (variable_node own)) result) → Judges (value_of_variable place v) result
is_something place None None known result e h further = absurd (some_not_none known e)
is_something place None (Some v) known result e h further = absurd h
is_something place (Some k) None known result e h further = absurd h
is_something place (Some k) (Some v) known result e h further = further v (subst (λ (n : KnownName). IsKnownVariable n v) (inside k known e) h)

module _ (types : TypeScope) (scope : Scope) (name : Token) (spelled : List ℕ) where
  -- the name of a token stands for nothing
  pub no_variable : (found : Option KnownName) (j : Judgement) → IsScopeOf types scope → spelled ≡ spelled_name name → found ≡ known_in scope spelled → found ≡ None
      → IsJudged (elaborated_nameless name.place) j → IsJudged (elaborated_variable types name) j
  no_variable found j s e f g h =
      is_nothing name.place (known_in scope (spelled_name name)) (known_variable types (spelled_name name)) j
      (ap (known_in scope) (sym e) ∙ sym f ∙ g) (s.variables (spelled_name name)) h

  -- it stands for a variable
  pub a_variable : (found : Option KnownName) (known : KnownName) (result : Result Judgement OutOfMemory) → IsScopeOf types scope → spelled ≡ spelled_name name
      → found ≡ known_in scope spelled → found ≡ Some known
      → ((own : KnownVariable) → IsKnownVariable known own → Judges (form_of_operands own.refusals (variable_node own)) result)
      → Judges (elaborated_variable types name) result
  a_variable found known result s e f g further =
      is_something name.place (known_in scope (spelled_name name)) (known_variable types (spelled_name name)) known result
      (ap (known_in scope) (sym e) ∙ sym f ∙ g) (s.variables (spelled_name name)) further

-- the value of a variable whose tables do not join
pub unjoined_value : (k : KnownName) (v : KnownVariable) (q r : Refusal TypeKind) → IsKnownVariable k v → k.refusal ≡ Some q → r ≡ q
    → IsJudged (form_of_operands v.refusals (variable_node v)) (record { typing = known.Unknown; outcome = Err r })
unjoined_value k v q r h e f = operands_broken v.refusals (variable_node v) r (sym h.refusal ∙ e ∙ ap (λ (x : Refusal TypeKind). Some x) (sym f))

-- the value of another variable
pub variable_value : (k : KnownName) (v : KnownVariable) (reference : Reference) (n : Node) → IsKnownVariable k v → k.refusal ≡ None → reference ≡ reference_of k.standing k.name
    → node_tree n ≡ tree.Variable reference k.ty
    → IsJudged (form_of_operands v.refusals (variable_node v)) (record { typing = known.Known n.ty; outcome = Ok n })
variable_value k v reference n h e r t =
    operands_typed v.refusals (variable_node v) n (none_given v.refusals (sym h.refusal ∙ e))
    (t ∙ ap (λ (own : Reference). tree.Variable own k.ty) (r ∙ h.reference) ∙ ap (λ (ty : Ty). tree.Variable v.reference ty) h.ty)

-- ---- flags of BY variables

-- a flag of a name, which is that of a BY variable or not
abbrev flag_if : Bool → Token → List ℕ → ElaboratedExpression
flag_if listed object name =
    if not listed then elaborated_nameless object.place
    else if is_word (codes "first") object then form_of_operands [] (flag_node (First name))
    else if is_word (codes "last") object then form_of_operands [] (flag_node (Last name))
    else elaborated_nameless object.place

flag_unlisted : (listed : Bool) (object : Token) (name : List ℕ) (j : Judgement) → (if listed then Some name else None) ≡ None → IsJudged (elaborated_nameless object.place) j
    → IsJudged (flag_if listed object name) j
flag_unlisted true object name j e h = absurd (none_not_some name e)
flag_unlisted false object name j e h = h

flag_by_word : (object : Token) (name : List ℕ) → flag_form object.place (flag_named object name) ≡ flag_if true object name
flag_by_word object name = by (is_word (codes "first") object) (is_word (codes "last") object)
  where
    by : (b c : Bool)
        → flag_form object.place (if b then Some (First name) else if c then Some (Last name) else None)
        ≡ (if b then form_of_operands [] (flag_node (First name)) else if c then form_of_operands [] (flag_node (Last name)) else elaborated_nameless object.place)
    by true c = refl
    by false true = refl
    by false false = refl

flag_listed : (listed : Bool) (object : Token) (name own : List ℕ) (result : Result Judgement OutOfMemory) → (if listed then Some name else None) ≡ Some own
    → Judges (flag_form object.place (flag_named object own)) result → Judges (flag_if listed object name) result
flag_listed true object name own result e h =
    subst (λ (form : ElaboratedExpression). Judges form result)
    (ap (λ (n : List ℕ). flag_form object.place (flag_named object n)) (sym (inside name own e)) ∙ flag_by_word object name) h
flag_listed false object name own result e h = absurd (some_not_none own e)

module _ (types : TypeScope) (scope : Scope) (object member : Token) (spelled : List ℕ) (found : Option (List ℕ)) where
  -- the name of a token is not that of a BY variable
  pub no_flag : (j : Judgement) → IsScopeOf types scope → spelled ≡ spelled_name member → found ≡ get (pointwise nat_eq) scope.bys.now spelled → found ≡ None
      → IsJudged (elaborated_nameless object.place) j → IsJudged (elaborated_flag types object member) j
  no_flag j s e f g h =
      flag_unlisted (is_listed types.bys (spelled_name member)) object (spelled_name member) j
      (sym (s.flags (spelled_name member)) ∙ ap (λ (n : List ℕ). get (pointwise nat_eq) scope.bys.now n) (sym e) ∙ sym f ∙ g) h

  -- it is
  pub a_flag : (own : List ℕ) (result : Result Judgement OutOfMemory) → IsScopeOf types scope → spelled ≡ spelled_name member
      → found ≡ get (pointwise nat_eq) scope.bys.now spelled → found ≡ Some own → Judges (flag_form object.place (flag_named object own)) result → Judges (elaborated_flag types object member) result
  a_flag own result s e f g h =
      flag_listed (is_listed types.bys (spelled_name member)) object (spelled_name member) own result
      (sym (s.flags (spelled_name member)) ∙ ap (λ (n : List ℕ). get (pointwise nat_eq) scope.bys.now n) (sym e) ∙ sym f ∙ g) h

-- a flag that a word names, or none
pub form_of_flag : (place : Place) (named told other : Option Global) (result : Result Judgement OutOfMemory) → told ≡ named → told ≡ other → Judges (flag_form place other) result
    → Judges (flag_form place named) result
form_of_flag place named told other result e f h = subst (λ (g : Option Global). Judges (flag_form place g) result) (sym f ∙ e) h
