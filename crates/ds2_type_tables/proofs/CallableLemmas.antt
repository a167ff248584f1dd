-- Methods that can be called, one by one.
use Rattle.std.proofs.Common.{◌≡◌, ℕ, ◌+◌, ◌||◌, Bool, true, false, if◌then◌else◌, bytes_eq, List, [], ◌∷◌, Option, Some, None, refl, sym, ap, ◌∙◌, subst}
use Rattle.std.specs.Prelude.{nat_eq, is_some, position, unwrap_or}
use Rattle.std.specs.List.{position_from}
use Rattle.std.specs.Option.{option_or}
use Rattle.std.specs.Cmp.Lexicographic.{pointwise}
use Rattle.std.specs.HashMap.{HashMap, get}
use Rattle.std.proofs.lemmas.Iterator.Adapters.{position_from-zero}
use Rattle.std.proofs.lemmas.Slice.Eq.{bytes_eq-Decides}
use Rattle.ds2_tree.specs.Globals.{Method, GlobalItem, Declared, Listed, Defined}
use Rattle.ds2_value.specs.declared.ty.Ty.{Ty}
use Rattle.ds2_meaning.specs.IsTyped.{type_in}
use Rattle.ds2_meaning.specs.ProgramTree.{is_listed}
use Rattle.ds2_names.specs.SourceUnit.{UnitKind, OfPackage, OfThread, OfData, spelled_name, source_methods}
use Rattle.ds2_names.specs.Uses.{method_named}
use Rattle.ds2_elaboration.specs.ExpressionTypes.{TypeScope, ObjectCalls, object_in_scope}
use Rattle.ds2_elaboration.specs.ProgramTypes.{methods_to_call}
use Rattle.ds2_reference_types.specs.Scopes.{IsMethodAs, AreKnownMethods, IsObjectAs, object_unless, object_in, IsScopeOf}
use Rattle.ds2_reference_types.specs.declared.scopes.KnownMethod.{KnownMethod}
use Rattle.ds2_reference_types.specs.declared.scopes.KnownName.{KnownName}
use Rattle.ds2_reference_types.specs.declared.scopes.KnownObject.{KnownObject}
use Rattle.ds2_reference_types.specs.declared.scopes.Scope.{Scope}
use Rattle.ds2_scope.proofs.TableLemmas.{or_none}
use Rattle.ds2_type_tables.specs.Bys.{if_listed, HasBys}
use Rattle.ds2_type_tables.specs.Callables.{known_method, known_if_named, can_be_called, callable_in, number_behind_method, known_in_part, known_from, HasCallables}
use Rattle.ds2_type_tables.specs.Globals.{HasGlobals}
use Rattle.ds2_type_tables.specs.Objects.{object_named, HasObjects}
use Rattle.ds2_type_tables.specs.Tables.{local_of, HasLocals}
use Rattle.ds2_type_tables.proofs.ScopeTables.{variables_of_tables}

-- ---- one part more of a unit

module _ (x : Option KnownMethod) (number : ℕ) (kind : UnitKind) (gs : List GlobalItem) (name : List ℕ) where
  abbrev left : ℕ → Option KnownMethod
  left n = known_from n (methods_to_call kind (source_methods gs)) name

  nothing_more : (next : ℕ) → next ≡ number → option_or (option_or x None) (left next) ≡ option_or x (left number)
  nothing_more next e = ap (λ (y : Option KnownMethod). option_or y (left next)) (or_none x) ∙ ap (λ (n : ℕ). option_or x (left n)) e

  method_more : (m : Method) (next : ℕ) → next ≡ number + 1
      → option_or (option_or x (known_if_named name number m)) (left next) ≡ option_or x (if bytes_eq (spelled_name m.name) name then Some (known_method number m) else left (number + 1))
  method_more m next e = ap (λ (n : ℕ). option_or (option_or x (known_if_named name number m)) (left n)) e ∙ by (bytes_eq (spelled_name m.name) name) x
    where
      by : (b : Bool) (y : Option KnownMethod)
          → option_or (option_or y (if b then Some (known_method number m) else None)) (left (number + 1)) ≡ option_or y (if b then Some (known_method number m) else left (number + 1))
      by true None = refl
      by true (Some k) = refl
      by false y = ap (λ (z : Option KnownMethod). option_or z (left (number + 1))) (or_none y)

  -- a method that can be called, or not
  method_if : (m : Method) (b : Bool) (next : ℕ) → next ≡ number_behind_method number (if b then Some m else None)
      → option_or (option_or x (known_in_part name number (if b then Some m else None))) (left next)
      ≡ option_or x (known_from number (if b then m ∷ methods_to_call kind (source_methods gs) else methods_to_call kind (source_methods gs)) name)
  method_if m true next e = method_more m next e
  method_if m false next e = nothing_more next e

-- the methods of a unit of a kind, one by one
methods_with : (kind : UnitKind) (m : Method) (methods : List Method)
    → methods_to_call kind (m ∷ methods) ≡ (if can_be_called kind m then m ∷ methods_to_call kind methods else methods_to_call kind methods)
methods_with OfPackage m methods = refl
methods_with OfThread m methods = refl
methods_with OfData m methods = refl

-- one part more
pub one_more_callable : (x : Option KnownMethod) (number : ℕ) (kind : UnitKind) (gs : List GlobalItem) (name : List ℕ) (g : GlobalItem) (next : ℕ)
    → next ≡ number_behind_method number (callable_in kind g)
    → option_or (option_or x (known_in_part name number (callable_in kind g))) (known_from next (methods_to_call kind (source_methods gs)) name)
    ≡ option_or x (known_from number (methods_to_call kind (source_methods (g ∷ gs))) name)
one_more_callable x number kind gs name (Declared d) next e = nothing_more x number kind gs name next e
one_more_callable x number kind gs name (Listed keyword names end) next e = nothing_more x number kind gs name next e
one_more_callable x number kind gs name (Defined m) next e =
    method_if x number kind gs name m (can_be_called kind m) next e
    ∙ ap (λ (l : List Method). option_or x (known_from number l name)) (sym (methods_with kind m (source_methods gs)))

-- ---- what the table tells

-- the first method of a name, with its number
abbrev Tells : Option KnownMethod → Option Method → Option ℕ → Type 0
Tells None None None = Unit {0}
Tells (Some k) (Some m) (Some number) = k ≡ known_method number m
Tells _ _ _ = ⊥

tells_from : (name : List ℕ) (number : ℕ) (methods : List Method)
    → Tells (known_from number methods name) (method_named methods name) (position_from (λ (m : Method). bytes_eq (spelled_name m.name) name) number methods)
tells_from name number [] = tt
tells_from name number (m ∷ methods) = by (bytes_eq (spelled_name m.name) name) (tells_from name (number + 1) methods)
  where
    by : (b : Bool)
        → Tells (known_from (number + 1) methods name) (method_named methods name) (position_from (λ (m : Method). bytes_eq (spelled_name m.name) name) (number + 1) methods)
        → Tells (if b then Some (known_method number m) else known_from (number + 1) methods name) (if b then Some m else method_named methods name)
        (if b then Some number else position_from (λ (m : Method). bytes_eq (spelled_name m.name) name) (number + 1) methods)
    by true h = refl
    by false h = h

told_as : (methods : List Method) (name : List ℕ) (k : Option KnownMethod) (m : Option Method) (i : Option ℕ) → Tells k m i
    → i ≡ position (λ (m : Method). bytes_eq (spelled_name m.name) name) methods → IsMethodAs methods name k m
told_as methods name None None None h e = tt
told_as methods name None None (Some i) h e = tt
told_as methods name None (Some m) i h e = absurd h
told_as methods name (Some k) None i h e = absurd h
told_as methods name (Some k) (Some m) None h e = absurd h
told_as methods name (Some k) (Some m) (Some i) h e = record {
  number = ap (λ (x : KnownMethod). x.number) h ∙ ap (λ (o : Option ℕ). unwrap_or o 0) e;
  parameters = ap (λ (x : KnownMethod). x.parameters) h;
  returns = ap (λ (x : KnownMethod). x.returns) h;
}

-- a table that tells of each name the first of these methods knows them
pub methods_of_table : {S : Type 0} (methods : List Method) (table : HashMap (List ℕ) KnownMethod S) → HasCallables table methods → AreKnownMethods methods table
methods_of_table methods table h name =
    subst (λ (k : Option KnownMethod). IsMethodAs methods name k (method_named methods name)) (sym (h name))
    (told_as methods name (known_from 0 methods name) (method_named methods name) (position_from (λ (m : Method). bytes_eq (spelled_name m.name) name) 0 methods)
    (tells_from name 0 methods) (sym (position_from-zero (λ (m : Method). bytes_eq (spelled_name m.name) name) methods)))

-- ---- objects

-- an object that a local hides
object_seen : (name : List ℕ) (ty : Option Ty) (local : Option KnownName) (object : Option KnownObject) (calls : Option ObjectCalls) → local ≡ local_of name ty → IsObjectAs name object calls
    → IsObjectAs name (object_unless local object) (if is_some ty then None else calls)
object_seen name None local object calls e h = subst (λ (o : Option KnownName). IsObjectAs name (object_unless o object) calls) (sym e) h
object_seen name (Some ty) local object calls e h =
    subst (λ (o : Option KnownName). IsObjectAs name (object_unless o object) None) (sym e) tt

objects_of_tables : (types : TypeScope) (scope : Scope) → HasLocals scope.locals.now types.locals → HasObjects scope.objects.now types.objects → (name : List ℕ)
    → IsObjectAs name (object_in scope name) (object_in_scope types name)
objects_of_tables types scope h o name =
    object_seen name (type_in types.locals name) (get (pointwise nat_eq) scope.locals.now name) (get (pointwise nat_eq) scope.objects.now name) (object_named types.objects name) (h name) (o name)

-- ---- a scope of these tables

pub scope_of_tables : (types : TypeScope) (scope : Scope) → HasLocals scope.locals.now types.locals → HasGlobals scope.globals.now types.unjoined types.variables types.parameters types.flags
    → HasBys scope.bys.now types.bys → HasCallables scope.methods.now types.methods → HasObjects scope.objects.now types.objects → IsScopeOf types scope
scope_of_tables types scope h k b m o = record {
  variables = variables_of_tables types scope h k;
  flags = b;
  callables = methods_of_table types.methods scope.methods.now m;
  objects = objects_of_tables types scope h o;
}

-- ---- BY variables

-- one BY variable more
pub one_more_by : (x : Option (List ℕ)) (by : List ℕ) (rest : List (List ℕ)) (name : List ℕ)
    → option_or (option_or x (if bytes_eq by name then Some by else None)) (if_listed rest name) ≡ option_or x (if_listed (by ∷ rest) name)
one_more_by x by rest name = told (bytes_eq by name) refl x
  where
    told : (b : Bool) → bytes_eq by name ≡ b → (y : Option (List ℕ))
        → option_or (option_or y (if b then Some by else None)) (if_listed rest name) ≡ option_or y (if b || is_listed rest name then Some name else None)
    told true e None = ap (λ (n : List ℕ). Some n) ((bytes_eq-Decides by name).0 e)
    told true e (Some n) = refl
    told false e y = ap (λ (z : Option (List ℕ)). option_or z (if_listed rest name)) (or_none y)
