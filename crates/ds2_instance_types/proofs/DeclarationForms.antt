-- Declarations of instances, one after the other.
use Rattle.std.proofs.Common.{◌≡◌, ℕ, ◌+◌, ◌<◌, ◌≤◌, List, [], ◌∷◌, ◌++◌, length, get_or, take, map, Option, Some, None, Result, Ok, Err, refl, sym, ap, ◌∙◌, subst}
use Rattle.std.specs.Prelude.{option_copied}
use Rattle.std.specs.Option.{option_map_or}
use Rattle.std.proofs.lemmas.List.{take_all, take_more}
use Rattle.ds2_base.specs.declared.place.Refusal.{Refusal}
use Rattle.ds2_token.specs.declared.token.Token.{Token}
use Rattle.ds2_tree.specs.declared.globals.Constant.{Constant}
use Rattle.ds2_meaning.specs.ProgramTree.{ProgramTree, reader_of}
use Rattle.ds2_meaning.specs.TypedStatement.{TypedStatement, TypedStatements, Next}
use Rattle.ds2_meaning.specs.View.{constructors_first, instance_tree}
use Rattle.ds2_meaning.specs.declared.hashes.DeclaredHash.{DeclaredHash}
use Rattle.ds2_meaning.specs.declared.hashes.DeclaredIterator.{DeclaredIterator}
use Rattle.ds2_meaning.specs.declared.hashes.ThreadInstance.{ThreadInstance}
use Rattle.ds2_meaning.specs.declared.readings.MentionedTable.{MentionedTable}
use Rattle.ds2_meaning.specs.declared.refusals.TypeKind.{TypeKind}
use Rattle.ds2_meaning.specs.declared.units.Instance as typed
use Rattle.ds2_names.specs.SourceUnit.{AnyPackage, AnyThread, HashIterator, SourceInstance, TableColumns, spelled_name, spelled_text}
use Rattle.ds2_scope.specs.CodeUnits.{instance_sort, instances_in_source, source_instance}
use Rattle.ds2_scope.specs.declared.instances.Instance.{Instance}
use Rattle.ds2_scope.specs.declared.instances.InstanceSort.{InstanceSort}
use Rattle.ds2_elaboration.specs.ExpressionTypes.{TypeScope}
use Rattle.ds2_elaboration.specs.ProgramTypes.{arguments_of_constructor, construction_refusals, constructions, constructions_of_sort, constructor_of, hash_of_sort, in_front, instance_of_package, instance_of_sort, instance_refusals, iterator_of_sort, loaded_refusals, thread_instance_of}
use Rattle.ds2_elaboration.specs.Typings.{TypeRefusals}
use Rattle.ds2_elaboration.specs.UnitsBefore.{PackageTypes, UnitsBefore, package_types, typed_thread_named}
use Rattle.ds2_types.specs.Judgements.{first_type_refusal, IsOutcome}
use Rattle.ds2_types.proofs.RefusalOrder.{none_given}
use Rattle.ds2_types.proofs.Outcomes.{none_behind, given_behind, given_before, given_of_both}
use Rattle.ds2_instance_types.specs.Declarations.{declared_of_sort, package_declared, IsDeclared}
use Rattle.ds2_instance_types.specs.FurtherInstances.{instances_and}
use Rattle.ds2_instance_types.specs.HashDeclarations.{hash_declared, hash_sort, hash_variables_of}
use Rattle.ds2_instance_types.specs.PackageInstances.{construction_of, IsInstanceOf}
use Rattle.ds2_instance_types.specs.TypedInstanceLists.{instances_rules, AreDeclared, AreInstancesOf, IsGrownBy}
use Rattle.ds2_instance_types.specs.declared.declarations.TypedDeclaration.{TypedDeclaration}
use Rattle.ds2_instance_types.specs.declared.declarations.TypedDeclaration.TheVariants as declaration
use Rattle.ds2_instance_types.specs.declared.hashes.HashDeclaration.{HashDeclaration}
use Rattle.ds2_instance_types.specs.declared.instances.FurtherInstance.{FurtherInstance}
use Rattle.ds2_instance_types.specs.declared.instances.TypedInstances.{TypedInstances}
use Rattle.ds2_instance_types.proofs.ListForms.{each_last, grown_given, grown_seen}

-- ---- packages

module _ (tables : TableColumns) (before : UnitsBefore) (scope : TypeScope) (i : Instance) (named : Token) (constants : List Constant) where
  abbrev here : Option PackageTypes
  here = package_types before.packages (spelled_name named)

  -- no package of the name
  pub unknown_package : here ≡ None → IsOutcome (IsDeclared tables before scope (declared_of_sort i (AnyPackage named constants))) (construction_refusals i.name.now.place constants here) (Ok declaration.Nothing)
  unknown_package e = (
    ap (construction_refusals i.name.now.place constants) e,
    record {
      packages = sym (ap (instance_of_package (spelled_name i.name.now)) e);
      calls = sym (ap (constructions (declared_of_sort i (AnyPackage named constants)) constants) e);
      hashes = refl;
      iterators = refl;
      threads = refl;
    },
  )

  -- one of it
  known_so : (p : PackageTypes) (outcome : Result typed.Instance (Refusal TypeKind)) → here ≡ Some p
      → IsOutcome (IsInstanceOf i constants p) (arguments_of_constructor i.name.now.place constants (constructor_of p)).refusals outcome
      → IsOutcome (IsDeclared tables before scope (declared_of_sort i (AnyPackage named constants))) (construction_refusals i.name.now.place constants here) (package_declared outcome)
  known_so p (Err r) e h = ap (λ (o : Option PackageTypes). first_type_refusal (construction_refusals i.name.now.place constants o)) e ∙ h
  known_so p (Ok own) e h = (
    ap (construction_refusals i.name.now.place constants) e ∙ h.0,
    record {
      packages = ap (λ t. t ∷ []) h.1.tree ∙ sym (ap (instance_of_package (spelled_name i.name.now)) e);
      calls = ap (λ s. s ∷ []) h.1.call ∙ sym (ap (constructions (declared_of_sort i (AnyPackage named constants)) constants) e);
      hashes = refl;
      iterators = refl;
      threads = refl;
    },
  )

  pub known_package : (p : PackageTypes) (outcome : Result typed.Instance (Refusal TypeKind)) (result : Result TypedDeclaration (Refusal TypeKind)) → here ≡ Some p
      → IsOutcome (IsInstanceOf i constants p) (arguments_of_constructor i.name.now.place constants (constructor_of p)).refusals outcome → result ≡ package_declared outcome
      → IsOutcome (IsDeclared tables before scope (declared_of_sort i (AnyPackage named constants))) (construction_refusals i.name.now.place constants here) result
  known_package p outcome result e h f =
      subst (IsOutcome (IsDeclared tables before scope (declared_of_sort i (AnyPackage named constants))) (construction_refusals i.name.now.place constants here)) (sym f) (known_so p outcome e h)

-- ---- other sorts

-- the sort of an instance is known
pub sort_is : (tables : TableColumns) (before : UnitsBefore) (scope : TypeScope) (i : Instance) (s : InstanceSort) (outcome : Result TypedDeclaration (Refusal TypeKind)) → i.sort ≡ s
    → IsOutcome (IsDeclared tables before scope (declared_of_sort i (instance_sort s))) (instance_refusals tables before scope (declared_of_sort i (instance_sort s)) (instance_sort s)) outcome
    → IsOutcome (IsDeclared tables before scope (source_instance i)) (instance_refusals tables before scope (source_instance i) (source_instance i).sort) outcome
sort_is tables before scope i s outcome e h =
    subst
    (λ (t : InstanceSort). IsOutcome (IsDeclared tables before scope (declared_of_sort i (instance_sort t))) (instance_refusals tables before scope (declared_of_sort i (instance_sort t)) (instance_sort t)) outcome)
    (sym e) h

-- a hash object whose table breaks no rule
pub hash_is : (tables : TableColumns) (made : List MentionedTable) (before : UnitsBefore) (scope : TypeScope) (i : Instance) (hash : HashDeclaration) (clash : Option (Refusal TypeKind)) (own : DeclaredHash)
    → before.names.made ≡ made → clash ≡ first_type_refusal (loaded_refusals tables scope (hash_variables_of hash) (option_copied hash.table)) → clash ≡ None
    → own ≡ hash_declared tables made scope (spelled_name i.name.now) hash
    → IsOutcome (IsDeclared tables before scope (declared_of_sort i (hash_sort hash))) (loaded_refusals tables scope (hash_variables_of hash) (option_copied hash.table)) (Ok (declaration.Hash own))
hash_is tables made before scope i hash clash own m g n h = (
  none_given (loaded_refusals tables scope (hash_variables_of hash) (option_copied hash.table)) (sym g ∙ n),
  record {
    packages = refl;
    calls = refl;
    hashes = ap (λ (d : DeclaredHash). d ∷ []) (h ∙ ap (λ (l : List MentionedTable). hash_declared tables l scope (spelled_name i.name.now) hash) (sym m));
    iterators = refl;
    threads = refl;
  },
)

-- an iterator
pub iterator_is : (tables : TableColumns) (before : UnitsBefore) (scope : TypeScope) (i : Instance) (hash : Token) (own : DeclaredIterator) → own ≡ record { name = spelled_name i.name.now; hash = spelled_text hash }
    → IsDeclared tables before scope (declared_of_sort i (HashIterator hash)) (declaration.Iterator own)
iterator_is tables before scope i hash own e = record { packages = refl; calls = refl; hashes = refl; iterators = ap (λ (d : DeclaredIterator). d ∷ []) e; threads = refl }

module _ (tables : TableColumns) (before : UnitsBefore) (scope : TypeScope) (i : Instance) (named : Token) (found : Option ProgramTree)
    (e : found ≡ typed_thread_named before.threads (spelled_name named)) where
  -- no thread program of the name
  pub unknown_thread : found ≡ None → IsDeclared tables before scope (declared_of_sort i (AnyThread named)) declaration.Nothing
  unknown_thread f = record { packages = refl; calls = refl; hashes = refl; iterators = refl; threads = instances_as (sym e ∙ f) }
    where
      instances_as : typed_thread_named before.threads (spelled_name named) ≡ None → [] ≡ thread_instance_of before (spelled_name i.name.now) (AnyThread named)
      instances_as g = sym (ap (λ (o : Option ProgramTree). option_map_or (λ p. record { name = spelled_name i.name.now; parameters = (reader_of p).parameters } ∷ []) o []) g)

  -- one of it
  pub known_thread : (p : ProgramTree) (own : ThreadInstance) → found ≡ Some p → own ≡ record { name = spelled_name i.name.now; parameters = (reader_of p).parameters }
      → IsDeclared tables before scope (declared_of_sort i (AnyThread named)) (declaration.Thread own)
  known_thread p own f h = record {
    packages = refl;
    calls = refl;
    hashes = refl;
    iterators = refl;
    threads =
        ap (λ (t : ThreadInstance). t ∷ []) h
        ∙ sym (ap (λ (o : Option ProgramTree). option_map_or (λ q. record { name = spelled_name i.name.now; parameters = (reader_of q).parameters } ∷ []) o []) (sym e ∙ f));
  }

-- ---- growth

-- what one more declaration becomes
pub one_more_declared : (tables : TableColumns) (before : UnitsBefore) (scope : TypeScope) (done : List SourceInstance) (i : SourceInstance) (d : TypedDeclaration) (old new : TypedInstances)
    → AreDeclared tables before scope done old → IsDeclared tables before scope i d → IsGrownBy old d new → AreDeclared tables before scope (done ++ i ∷ []) new
one_more_declared tables before scope done i d old new h k g = record {
  packages = grown_seen instance_tree (λ (j : SourceInstance). instance_of_sort before (spelled_name j.name) j.sort) done i old.instances _ new.instances g.instances h.packages k.packages;
  calls = grown_seen construction_of (λ (j : SourceInstance). constructions_of_sort before j j.sort) done i old.instances _ new.instances g.instances h.calls k.calls;
  hashes = grown_given (λ (j : SourceInstance). hash_of_sort tables before.names.made scope (spelled_name j.name) j.sort) done i old.hashes _ new.hashes g.hashes h.hashes k.hashes;
  iterators = grown_given (λ (j : SourceInstance). iterator_of_sort (spelled_name j.name) j.sort) done i old.iterators _ new.iterators g.iterators h.iterators k.iterators;
  threads = grown_given (λ (j : SourceInstance). thread_instance_of before (spelled_name j.name) j.sort) done i old.threads _ new.threads g.threads h.threads k.threads;
}

-- ---- what stands of all

-- instances that stand, and a declaration that does
abbrev AreFurther : (TypedInstances → Type 0) → (TypedDeclaration → Type 0) → FurtherInstance → Type 0
AreFurther AreAll IsOwn f = AreAll f.all × IsOwn f.own

after_instances : (AreAll : TypedInstances → Type 0) (IsOwn : TypedDeclaration → Type 0) (xs ys : TypeRefusals) (all : Result TypedInstances (Refusal TypeKind))
    (d : Result TypedDeclaration (Refusal TypeKind)) → IsOutcome AreAll xs all → IsOutcome IsOwn ys d → IsOutcome (AreFurther AreAll IsOwn) (xs ++ ys) (instances_and all d)
after_instances AreAll IsOwn xs ys (Ok all) (Ok own) h k = (none_behind xs ys h.0 k.0, (h.1, k.1))
after_instances AreAll IsOwn xs ys (Ok all) (Err q) h k = given_behind xs ys q h.0 k
after_instances AreAll IsOwn xs ys (Err r) (Ok own) h k = given_before xs ys r h k.0
after_instances AreAll IsOwn xs ys (Err r) (Err q) h k = given_of_both xs ys r q h k

-- what stands of both
pub further_instance : (AreAll : TypedInstances → Type 0) (IsOwn : TypedDeclaration → Type 0) (xs ys : TypeRefusals) (all : Result TypedInstances (Refusal TypeKind))
    (d : Result TypedDeclaration (Refusal TypeKind)) (result given : Result FurtherInstance (Refusal TypeKind)) → IsOutcome AreAll xs all → IsOutcome IsOwn ys d → result ≡ instances_and all d
    → result ≡ given → IsOutcome (AreFurther AreAll IsOwn) (xs ++ ys) given
further_instance AreAll IsOwn xs ys all d result given h k e g =
    subst (IsOutcome (AreFurther AreAll IsOwn) (xs ++ ys)) (sym e ∙ g) (after_instances AreAll IsOwn xs ys all d h k)

-- ---- in order

sources_last : (xs : List Instance) (x : Instance) → instances_in_source (xs ++ x ∷ []) ≡ instances_in_source xs ++ source_instance x ∷ []
sources_last [] x = refl
sources_last (y ∷ xs) x = ap (λ (l : List SourceInstance). source_instance y ∷ l) (sources_last xs x)

-- the first instances and one more
pub sources_more : (xs : List Instance) (i : ℕ) (x : Instance) → i < length xs → x ≡ get_or xs i x
    → instances_in_source (take i xs) ++ source_instance x ∷ [] ≡ instances_in_source (take (i + 1) xs)
sources_more xs i x h e =
    sym (ap instances_in_source (take_more xs i x h ∙ ap (λ (y : Instance). take i xs ++ y ∷ []) (sym e)) ∙ sources_last (take i xs) x)

pub rules_of_last : (tables : TableColumns) (before : UnitsBefore) (scope : TypeScope) (done : List SourceInstance) (i : SourceInstance)
    → instances_rules tables before scope (done ++ i ∷ []) ≡ instances_rules tables before scope done ++ instance_refusals tables before scope i i.sort
rules_of_last tables before scope done i = each_last (λ (j : SourceInstance). instance_refusals tables before scope j j.sort) done i

-- what stands of the first instances and of one more
pub one_more_stands : (tables : TableColumns) (before : UnitsBefore) (scope : TypeScope) (done all : List SourceInstance) (i : SourceInstance) (outcome : Result TypedInstances (Refusal TypeKind))
    → done ++ i ∷ [] ≡ all → IsOutcome (AreDeclared tables before scope (done ++ i ∷ [])) (instances_rules tables before scope done ++ instance_refusals tables before scope i i.sort) outcome
    → IsOutcome (AreDeclared tables before scope all) (instances_rules tables before scope all) outcome
one_more_stands tables before scope done all i outcome e h =
    subst (λ (l : List SourceInstance). IsOutcome (AreDeclared tables before scope l) (instances_rules tables before scope l) outcome) e
    (subst (λ (rules : TypeRefusals). IsOutcome (AreDeclared tables before scope (done ++ i ∷ [])) rules outcome) (sym (rules_of_last tables before scope done i)) h)

-- what stands of the first instances, where they are all
pub all_stand : (tables : TableColumns) (before : UnitsBefore) (scope : TypeScope) (instances : List Instance) (k : ℕ) (outcome : Result TypedInstances (Refusal TypeKind)) → length instances ≤ k
    → IsOutcome (AreDeclared tables before scope (instances_in_source (take k instances))) (instances_rules tables before scope (instances_in_source (take k instances))) outcome
    → IsOutcome (AreDeclared tables before scope (instances_in_source instances)) (instances_rules tables before scope (instances_in_source instances)) outcome
all_stand tables before scope instances k outcome l h =
    subst (λ (is : List Instance). IsOutcome (AreDeclared tables before scope (instances_in_source is)) (instances_rules tables before scope (instances_in_source is)) outcome) (take_all k instances l) h

-- ---- constructors

constructors_are : (instances : List typed.Instance) (statements : TypedStatements) → constructors_first instances statements ≡ in_front (map construction_of instances) statements
constructors_are [] statements = refl
constructors_are (i ∷ instances) statements = ap (Next (construction_of i)) (constructors_are instances statements)

instances_are : (tables : TableColumns) (before : UnitsBefore) (scope : TypeScope) (instances : List SourceInstance) (t : TypedInstances) → AreDeclared tables before scope instances t
    → AreInstancesOf tables before scope instances t
instances_are tables before scope instances t h = record {
  packages = h.packages;
  constructors = λ statements. constructors_are t.instances statements ∙ ap (λ (l : List TypedStatement). in_front l statements) h.calls;
  hashes = h.hashes;
  iterators = h.iterators;
  threads = h.threads;
}

-- what stands of all instances
pub instances_stand : (tables : TableColumns) (before : UnitsBefore) (scope : TypeScope) (instances : List SourceInstance) (outcome : Result TypedInstances (Refusal TypeKind))
    → IsOutcome (AreDeclared tables before scope instances) (instances_rules tables before scope instances) outcome
    → IsOutcome (AreInstancesOf tables before scope instances) (instances_rules tables before scope instances) outcome
instances_stand tables before scope instances (Ok t) h = (h.0, instances_are tables before scope instances t h.1)
instances_stand tables before scope instances (Err r) h = h
