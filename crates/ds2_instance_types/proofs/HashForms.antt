-- Hash objects of a unit.
use Rattle.std.proofs.Common.{◌≡◌, ℕ, ◌+◌, ◌<◌, ◌≤◌, List, [], ◌∷◌, ◌++◌, length, get_or, take, Option, Some, None, refl, sym, ap, ◌∙◌, subst}
use Rattle.std.specs.Option.{option_map_or}
use Rattle.std.proofs.lemmas.List.{append-nil, take_all, take_more}
use Rattle.ds2_base.specs.declared.place.Place.{Place}
use Rattle.ds2_base.specs.declared.place.Refusal.{Refusal}
use Rattle.ds2_token.specs.declared.token.Token.{Token}
use Rattle.ds2_tree.specs.declared.globals.BracketedName.{BracketedName}
use Rattle.ds2_value.specs.Row.{Columns}
use Rattle.ds2_value.specs.Types.{join_of}
use Rattle.ds2_value.specs.declared.ty.Ty.{Ty}
use Rattle.ds2_meaning.specs.declared.hashes.HashVariable.{HashVariable}
use Rattle.ds2_meaning.specs.declared.location.Reference.{Reference}
use Rattle.ds2_meaning.specs.declared.location.Reference.TheVariants.{At, Local}
use Rattle.ds2_meaning.specs.declared.refusals.TypeKind.{TypeKind}
use Rattle.ds2_names.specs.NameRules.{from_each}
use Rattle.ds2_scope.specs.CodeUnits.{names_bracketed}
use Rattle.ds2_elaboration.specs.ExpressionTypes.{KnownVariable, TypeScope, global_variable}
use Rattle.ds2_elaboration.specs.ProgramTypes.{clashing_load, hash_variable_of}
use Rattle.ds2_elaboration.specs.SourceTypes.{is_joined_to, type_of_column}
use Rattle.ds2_elaboration.specs.Typings.{TypeRefusals, clash_unless, typing_behind, where_known}
use Rattle.ds2_reference_types.specs.Scopes.{reference_of, IsKnownAs, IsKnownVariable}
use Rattle.ds2_reference_types.specs.declared.scopes.KnownName.{KnownName}
use Rattle.ds2_types.specs.Judgements.{first_type_refusal, lesser_refusal}
use Rattle.ds2_types.proofs.RefusalOrder.{least_append, none_given}
use Rattle.ds2_instance_types.specs.HashDeclarations.{variables_of_reference}
use Rattle.ds2_instance_types.proofs.ListForms.{each_last}

-- ---- what a name stands for

none_known : (o : Option KnownName) (v : Option KnownVariable) → IsKnownAs o v → o ≡ None → v ≡ None
none_known None None h e = refl
none_known None (Some w) h e = absurd h
none_known (Some k) v h e = absurd (cc e)

-- ---- variables

reference_at : (r : Reference) (ty : Ty) (refusals : TypeRefusals) → variables_of_reference r ty ≡ hash_variable_of (Some (record { reference = r; ty = ty; refusals = refusals }))
reference_at (At global) ty refusals = refl
reference_at (Local name) ty refusals = refl

-- a known global as a variable of a hash object
known_at : (k : KnownName) (v : Option KnownVariable) → IsKnownAs (Some k) v → variables_of_reference (reference_of k.standing k.name) k.ty ≡ hash_variable_of v
known_at k None h = absurd h
known_at k (Some w) h = (λ i. variables_of_reference (h.reference i) (h.ty i)) ∙ reference_at w.reference w.ty w.refusals

-- ---- rules

-- nothing is known of the type of what breaks a rule
clash_behind : (refusals : TypeRefusals) (ty : Ty) (rule : Ty → TypeRefusals) (r : Refusal TypeKind) → Some r ≡ first_type_refusal refusals → where_known (typing_behind refusals ty) rule ≡ []
clash_behind [] ty rule r e = absurd (cc e)
clash_behind (q ∷ refusals) ty rule r e = refl

module _ (k : KnownName) (v : KnownVariable) (h : IsKnownVariable k v) (text : Place) (columns : Columns) (ty : Ty) where
  pub unjoined_load : (r : Refusal TypeKind) → k.refusal ≡ Some r → first_type_refusal (clashing_load text columns v (Some ty)) ≡ None
  unjoined_load r e =
      ap first_type_refusal (clash_behind v.refusals v.ty (λ (own : Ty). clash_unless (is_joined_to own (join_of own ty)) text) r (sym e ∙ h.refusal))

  pub joined_load : k.refusal ≡ None → first_type_refusal (clashing_load text columns v (Some ty)) ≡ first_type_refusal (clash_unless (is_joined_to k.ty (join_of k.ty ty)) text)
  joined_load e =
      ap (λ (refusals : TypeRefusals). first_type_refusal (where_known (typing_behind refusals v.ty) (λ (own : Ty). clash_unless (is_joined_to own (join_of own ty)) text)))
      (none_given v.refusals (sym h.refusal ∙ e))
      ∙ ap (λ (own : Ty). first_type_refusal (clash_unless (is_joined_to own (join_of own ty)) text)) (sym h.ty)

-- the rules of several variables, and of further ones
pub rules_append : (f : Token → TypeRefusals) (xs ys : List Token) (found own : Option (Refusal TypeKind)) → found ≡ first_type_refusal (from_each f xs) → own ≡ first_type_refusal (from_each f ys)
    → lesser_refusal found own ≡ first_type_refusal (from_each f (xs ++ ys))
rules_append f xs ys found own e h = (λ i. lesser_refusal (e i) (h i)) ∙ sym (ap first_type_refusal (each_append xs) ∙ least_append (from_each f xs) (from_each f ys))
  where
    assoc : (a b c : TypeRefusals) → a ++ (b ++ c) ≡ (a ++ b) ++ c
    assoc [] b c = refl
    assoc (r ∷ a) b c = ap (λ (l : TypeRefusals). r ∷ l) (assoc a b c)

    each_append : (l : List Token) → from_each f (l ++ ys) ≡ from_each f l ++ from_each f ys
    each_append [] = refl
    each_append (x ∷ l) = ap (λ (r : TypeRefusals). f x ++ r) (each_append l) ∙ assoc (f x) (from_each f l) (from_each f ys)

-- those of one variable more
rules_last : (f : Token → TypeRefusals) (xs : List Token) (x : Token) (found own : Option (Refusal TypeKind)) → found ≡ first_type_refusal (from_each f xs) → own ≡ first_type_refusal (f x)
    → lesser_refusal found own ≡ first_type_refusal (from_each f (xs ++ x ∷ []))
rules_last f xs x found own e h = (λ i. lesser_refusal (e i) (h i)) ∙ sym (ap first_type_refusal (each_last f xs x) ∙ least_append (from_each f xs) (f x))

bracketed_last : (xs : List BracketedName) (x : BracketedName) → names_bracketed (xs ++ x ∷ []) ≡ names_bracketed xs ++ x.name ∷ []
bracketed_last [] x = refl
bracketed_last (y ∷ xs) x = ap (λ (l : List Token). y.name ∷ l) (bracketed_last xs x)

-- those of the first names and of one more
pub rules_more : (f : Token → TypeRefusals) (ns : List BracketedName) (i : ℕ) (n : BracketedName) (found own new : Option (Refusal TypeKind)) → i < length ns → n ≡ get_or ns i n
    → found ≡ first_type_refusal (from_each f (names_bracketed (take i ns))) → own ≡ first_type_refusal (f n.name) → new ≡ lesser_refusal found own
    → new ≡ first_type_refusal (from_each f (names_bracketed (take (i + 1) ns)))
rules_more f ns i n found own new l at e h g =
    g ∙ rules_last f (names_bracketed (take i ns)) n.name found own e h
    ∙ sym
    (ap (λ (x : List BracketedName). first_type_refusal (from_each f (names_bracketed x))) (take_more ns i n l ∙ ap (λ (x : BracketedName). take i ns ++ x ∷ []) (sym at))
    ∙ ap (λ (x : List Token). first_type_refusal (from_each f x)) (bracketed_last (take i ns) n))

-- those of the first names, where they are all
pub rules_whole : (f : Token → TypeRefusals) (ns : List BracketedName) (i : ℕ) (found : Option (Refusal TypeKind)) → length ns ≤ i
    → found ≡ first_type_refusal (from_each f (names_bracketed (take i ns))) → found ≡ first_type_refusal (from_each f (names_bracketed ns))
rules_whole f ns i found l e = e ∙ ap (λ (x : List BracketedName). first_type_refusal (from_each f (names_bracketed x))) (take_all i ns l)

-- ---- names

module _ (scope : TypeScope) (own name : List ℕ) (o : Option KnownName) (same : own ≡ name) (h : IsKnownAs o (global_variable scope own)) where
  known_as : (k : KnownName) → o ≡ Some k → IsKnownAs (Some k) (global_variable scope name)
  known_as k e = subst (λ (n : List ℕ). IsKnownAs (Some k) (global_variable scope n)) same (subst (λ (p : Option KnownName). IsKnownAs p (global_variable scope own)) e h)

  unknown : o ≡ None → global_variable scope name ≡ None
  unknown e = ap (global_variable scope) (sym same) ∙ none_known o (global_variable scope own) h e

  -- a name that is no global's is no variable
  pub none_pushed : (old : List HashVariable) → o ≡ None → old ≡ old ++ hash_variable_of (global_variable scope name)
  none_pushed old e = sym (append-nil old) ∙ ap (λ (v : Option KnownVariable). old ++ hash_variable_of v) (sym (unknown e))

  -- that of a global is one
  pub known_pushed : (k : KnownName) (old new : List HashVariable) → o ≡ Some k → new ≡ old ++ variables_of_reference (reference_of k.standing k.name) k.ty
      → new ≡ old ++ hash_variable_of (global_variable scope name)
  known_pushed k old new e g = g ∙ ap (λ (l : List HashVariable). old ++ l) (known_at k (global_variable scope name) (known_as k e))

  -- what is no global breaks no rule
  pub none_loaded : (columns : Columns) (text : Place) → o ≡ None
      → None ≡ first_type_refusal (option_map_or (λ (u : KnownVariable). clashing_load text columns u (type_of_column name columns)) (global_variable scope name) [])
  none_loaded columns text e =
      sym (ap (λ (v : Option KnownVariable). first_type_refusal (option_map_or (λ (u : KnownVariable). clashing_load text columns u (type_of_column name columns)) v [])) (unknown e))

  -- a global breaks those of its column
  pub known_loaded : (columns : Columns) (text : Place) (k : KnownName) (column : Option Ty) (clash : Option (Refusal TypeKind)) → o ≡ Some k → column ≡ type_of_column name columns
      → ((v : KnownVariable) (cs : Columns) → IsKnownVariable k v → clash ≡ first_type_refusal (clashing_load text cs v column))
      → clash ≡ first_type_refusal (option_map_or (λ (u : KnownVariable). clashing_load text columns u (type_of_column name columns)) (global_variable scope name) [])
  known_loaded columns text k column clash e g told = by (global_variable scope name) (known_as k e)
    where
      by : (v : Option KnownVariable) → IsKnownAs (Some k) v
          → clash ≡ first_type_refusal (option_map_or (λ (u : KnownVariable). clashing_load text columns u (type_of_column name columns)) v [])
      by None a = absurd a
      by (Some w) a = told w columns a ∙ ap (λ (c : Option Ty). first_type_refusal (clashing_load text columns w c)) g
