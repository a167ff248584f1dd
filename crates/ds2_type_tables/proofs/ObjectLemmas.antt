-- Objects, one more in a table.
use Rattle.std.proofs.Common.{◌≡◌, ℕ, ◌+◌, ◌<◌, Bool, true, false, if◌then◌else◌, bytes_eq, List, [], ◌∷◌, ◌++◌, length, get_or, take, map, Option, Some, None, refl, sym, ap, ◌∙◌, subst, true≢false}
use Rattle.std.specs.Prelude.{filter, is_some}
use Rattle.std.specs.List.{find}
use Rattle.std.specs.HashMap.{HashMap}
use Rattle.std.specs.Option.{option_map, option_or}
use Rattle.std.proofs.lemmas.List.{append-nil, take_more}
use Rattle.std.proofs.lemmas.Slice.Eq.{bytes_eq-Decides}
use Rattle.ds2_names.specs.SourceUnit.{SourceInstance}
use Rattle.ds2_scope.proofs.TableLemmas.{or_none}
use Rattle.ds2_scope.specs.CodeUnits.{instances_in_source, source_instance}
use Rattle.ds2_scope.specs.declared.instances.Instance.{Instance}
use Rattle.ds2_elaboration.specs.ExpressionTypes.{ObjectCalls, ObjectInScope}
use Rattle.ds2_elaboration.specs.ProgramTypes.{may_call_on, object_of_instance}
use Rattle.ds2_elaboration.specs.UnitsBefore.{UnitsBefore}
use Rattle.ds2_reference_types.specs.Scopes.{IsKnownObject, IsObjectAs}
use Rattle.ds2_reference_types.specs.declared.scopes.KnownObject.{KnownObject}
use Rattle.ds2_type_tables.specs.Objects.{object_named, objects_called, HasObjects}

-- the first of a name among objects and one behind them
last_object : (others : List ObjectInScope) (o : ObjectInScope) (name : List ℕ)
    → object_named (others ++ o ∷ []) name ≡ option_or (object_named others name) (if bytes_eq o.name name then Some o.calls else None)
last_object [] o name = by (bytes_eq o.name name)
  where
    by : (b : Bool) → option_map (λ (x : ObjectInScope). x.calls) (if b then Some o else None) ≡ option_or None (if b then Some o.calls else None)
    by true = refl
    by false = refl
last_object (x ∷ others) o name = by (bytes_eq x.name name) (last_object others o name)
  where
    by : (b : Bool) → object_named (others ++ o ∷ []) name ≡ option_or (object_named others name) (if bytes_eq o.name name then Some o.calls else None)
        → option_map (λ (y : ObjectInScope). y.calls) (if b then Some x else find (λ (y : ObjectInScope). bytes_eq y.name name) (others ++ o ∷ []))
        ≡ option_or (option_map (λ (y : ObjectInScope). y.calls) (if b then Some x else find (λ (y : ObjectInScope). bytes_eq y.name name) others)) (if bytes_eq o.name name then Some o.calls else None)
    by true h = refl
    by false h = h

pub none_listed : (k : Option KnownObject) → is_some k ≡ false → k ≡ None
none_listed None e = refl
none_listed (Some k) e = absurd (true≢false e)

absent : (name : List ℕ) (k : Option KnownObject) (calls : Option ObjectCalls) → IsObjectAs name k calls → k ≡ None → calls ≡ None
absent name None None h e = refl
absent name None (Some calls) h e = absurd h
absent name (Some k) calls h e = absurd (cc e)

present : (name : List ℕ) (k : Option KnownObject) (calls other : Option ObjectCalls) → IsObjectAs name k calls → is_some k ≡ true → IsObjectAs name k (option_or calls other)
present name None calls other h e = absurd (true≢false (sym e))
present name (Some k) None other h e = absurd h
present name (Some k) (Some calls) other h e = h

module _ (old : List ℕ → Option KnownObject) (others : List ObjectInScope) (o : ObjectInScope) (told : (name : List ℕ) → IsObjectAs name (old name) (object_named others name)) where
  -- a name that the table did not have
  pub object_added : (k : KnownObject) → old o.name ≡ None → IsKnownObject o.name k o.calls → (name : List ℕ)
      → IsObjectAs name (if bytes_eq o.name name then Some k else old name) (object_named (others ++ o ∷ []) name)
  object_added k e h name =
      subst (λ (x : Option ObjectCalls). IsObjectAs name (if bytes_eq o.name name then Some k else old name) x) (sym (last_object others o name)) (by (bytes_eq o.name name) refl)
    where
      by : (b : Bool) → bytes_eq o.name name ≡ b → IsObjectAs name (if b then Some k else old name) (option_or (object_named others name) (if b then Some o.calls else None))
      by true b =
          let same : o.name ≡ name = (bytes_eq-Decides o.name name).0 b in
          let none : object_named others name ≡ None = absent name (old name) (object_named others name) (told name) (ap old (sym same) ∙ e) in
          subst (λ (x : Option ObjectCalls). IsObjectAs name (Some k) (option_or x (Some o.calls))) (sym none) (subst (λ (n : List ℕ). IsKnownObject n k o.calls) same h)
      by false b = subst (λ (x : Option ObjectCalls). IsObjectAs name (old name) x) (sym (or_none (object_named others name))) (told name)

  -- a name that it had
  pub object_kept : is_some (old o.name) ≡ true → (name : List ℕ) → IsObjectAs name (old name) (object_named (others ++ o ∷ []) name)
  object_kept e name =
      subst (λ (x : Option ObjectCalls). IsObjectAs name (old name) x) (sym (last_object others o name)) (by (bytes_eq o.name name) refl)
    where
      by : (b : Bool) → bytes_eq o.name name ≡ b → IsObjectAs name (old name) (option_or (object_named others name) (if b then Some o.calls else None))
      by true b =
          present name (old name) (object_named others name) (Some o.calls) (told name)
          (ap (λ (n : List ℕ). is_some (old n)) (sym ((bytes_eq-Decides o.name name).0 b)) ∙ e)
      by false b = subst (λ (x : Option ObjectCalls). IsObjectAs name (old name) x) (sym (or_none (object_named others name))) (told name)

-- the objects of instances one behind the other
called_append : (before : UnitsBefore) (in_init : Bool) (xs : List SourceInstance) (x : SourceInstance)
    → objects_called before in_init (xs ++ x ∷ []) ≡ objects_called before in_init xs ++ objects_called before in_init (x ∷ [])
called_append before in_init [] x = refl
called_append before in_init (y ∷ xs) x = by (may_call_on in_init y.sort) (called_append before in_init xs x)
  where
    by : (b : Bool) → objects_called before in_init (xs ++ x ∷ []) ≡ objects_called before in_init xs ++ objects_called before in_init (x ∷ [])
        → map (object_of_instance before) (if b then y ∷ filter (λ (i : SourceInstance). may_call_on in_init i.sort) (xs ++ x ∷ []) else filter (λ (i : SourceInstance). may_call_on in_init i.sort) (xs ++ x ∷ []))
        ≡ map (object_of_instance before) (if b then y ∷ filter (λ (i : SourceInstance). may_call_on in_init i.sort) xs else filter (λ (i : SourceInstance). may_call_on in_init i.sort) xs)
        ++ objects_called before in_init (x ∷ [])
    by true h = ap (λ (l : List ObjectInScope). object_of_instance before y ∷ l) h
    by false h = h

sources_append : (xs : List Instance) (x : Instance) → instances_in_source (xs ++ x ∷ []) ≡ instances_in_source xs ++ source_instance x ∷ []
sources_append [] x = refl
sources_append (y ∷ xs) x = ap (λ (l : List SourceInstance). source_instance y ∷ l) (sources_append xs x)

-- one instance more
one_more_called : (before : UnitsBefore) (in_init : Bool) (instances : List Instance) (i : ℕ) (instance : Instance) → i < length instances → instance ≡ get_or instances i instance
    → objects_called before in_init (instances_in_source (take i instances)) ++ objects_called before in_init (source_instance instance ∷ [])
    ≡ objects_called before in_init (instances_in_source (take (i + 1) instances))
one_more_called before in_init instances i instance h e =
    sym
    (ap (λ (l : List Instance). objects_called before in_init (instances_in_source l)) (take_more instances i instance h ∙ ap (λ (x : Instance). take i instances ++ x ∷ []) (sym e))
    ∙ ap (objects_called before in_init) (sources_append (take i instances) instance)
    ∙ called_append before in_init (instances_in_source (take i instances)) (source_instance instance))

-- a table of the objects of the first instances and of one more
pub has_more : {S : Type 0} (table : HashMap (List ℕ) KnownObject S) (before : UnitsBefore) (in_init : Bool) (instances : List Instance) (i : ℕ) (instance : Instance) → i < length instances
    → instance ≡ get_or instances i instance
    → HasObjects table (objects_called before in_init (instances_in_source (take i instances)) ++ objects_called before in_init (source_instance instance ∷ []))
    → HasObjects table (objects_called before in_init (instances_in_source (take (i + 1) instances)))
has_more table before in_init instances i instance h e told =
    subst (λ (l : List ObjectInScope). HasObjects table l) (one_more_called before in_init instances i instance h e) told

-- an instance on which something may be called, or not
pub called_one : (before : UnitsBefore) (in_init : Bool) (i : SourceInstance) (others : List ObjectInScope) → may_call_on in_init i.sort ≡ true
    → others ++ object_of_instance before i ∷ [] ≡ others ++ objects_called before in_init (i ∷ [])
called_one before in_init i others e = sym (ap (λ (b : Bool). others ++ map (object_of_instance before) (if b then i ∷ [] else [])) e)

pub called_none : (before : UnitsBefore) (in_init : Bool) (i : SourceInstance) (others : List ObjectInScope) → may_call_on in_init i.sort ≡ false
    → others ≡ others ++ objects_called before in_init (i ∷ [])
called_none before in_init i others e = sym (append-nil others) ∙ sym (ap (λ (b : Bool). others ++ map (object_of_instance before) (if b then i ∷ [] else [])) e)
