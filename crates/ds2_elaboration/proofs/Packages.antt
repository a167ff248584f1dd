-- A package that breaks no rule becomes a package whose instances are typed.
use Rattle.std.proofs.Common.{◌≡◌, ℕ, ◌+◌, ◌≤◌, is_some, true, false, List, [], ◌∷◌, ◌++◌, map, filter, Option, Some, None, refl, sym, ap, subst, true≢false, append-nil, arith}
use Rattle.std.specs.List.{AllByRecursion}
use Rattle.ds2_tree.specs.Globals.{Method}
use Rattle.ds2_tree.specs.Units.{Package}
use Rattle.ds2_value.specs.declared.ty.Ty.{Ty}
use Rattle.ds2_meaning.specs.declared.globals.Variable as typed
use Rattle.ds2_meaning.specs.declared.hashes.DeclaredHash.{DeclaredHash}
use Rattle.ds2_meaning.specs.declared.hashes.DeclaredIterator.{DeclaredIterator}
use Rattle.ds2_meaning.specs.declared.hashes.ThreadInstance.{ThreadInstance}
use Rattle.ds2_meaning.specs.HashObjects.{DeclaredObjects}
use Rattle.ds2_meaning.specs.IsTyped.{NamesInScope, type_in, AreInBounds, are_distinct, variable_names, package_globals, package_methods, object_names}
use Rattle.ds2_meaning.specs.Method.{MethodTree}
use Rattle.ds2_meaning.specs.ProgramTree.{InstanceTree}
use Rattle.ds2_names.specs.SourceUnit.{TableColumns, UnitSource, unit_of_package, spelled_name, names_alone, source_methods, InstanceOf, AnyPackage, HashObject, HashIterator, AnyThread, SourceInstance, SourceNames, instance_names}
use Rattle.ds2_names.specs.UnitRules.{is_kept_from_packages, list_keywords, instance_keywords}
use Rattle.ds2_elaboration.specs.ExpressionTypes.{ObjectCalls, InstanceCalls, HashCalls, IteratorCalls, ParameterCalls}
use Rattle.ds2_elaboration.specs.ProgramTypes.{scope_with, scope_of_declarations, method_tree_of, method_trees, unit_objects, typed_package}
use Rattle.ds2_elaboration.specs.SourceTypes.{variables_in_method, returned_type, program_variables, unit_names, vector_variables}
use Rattle.ds2_elaboration.specs.TypedPrograms.{PackageStands}
use Rattle.ds2_elaboration.specs.TypedScopes.{IsBoundedIfAny, ObjectStands, ScopeStands}
use Rattle.ds2_elaboration.specs.UnitsBefore.{UnitsBefore}
use Rattle.ds2_elaboration.proofs.Accepted.{each_of, bounded_in}
use Rattle.ds2_elaboration.proofs.Counts.{times, times_append, distinct_below}
use Rattle.ds2_elaboration.proofs.Facts.{JoinLaws, UnitHolds, once, declared_variable_bounds, vector_bounds, placed_kind}
use Rattle.ds2_elaboration.proofs.Hashes.{objects_typed}
use Rattle.ds2_elaboration.proofs.Methods.{method_stands, methods_typed}
use Rattle.ds2_elaboration.proofs.Objects.{instances_of, threads_of, IsOwnObject, calls_found, hash_stands, iterator_stands, no_parameters_called, no_instance_called, unhidden}
use Rattle.ds2_elaboration.proofs.Orders.{none_left}
use Rattle.ds2_elaboration.proofs.Outcome.{both_empty}
use Rattle.ds2_elaboration.proofs.Programs.{names_counted}
use Rattle.ds2_elaboration.proofs.Stages.{vector_distinct, given_distinct}

nothing_behind : {A B : Type 0} (f : A → B) (xs : List A) → map f xs ≡ [] → xs ≡ []
nothing_behind f [] h = refl
nothing_behind f (x ∷ xs) h = cc

-- the names of three lists, of which two come of instances
three_below : (v h t i s all : List (List ℕ)) (name : List ℕ) → times h name + times t name + times i name + times s name ≤ times all name
    → times (v ++ (h ++ t)) name ≤ times (v ++ all) name
three_below v h t i s all name own =
    let e1 : times (v ++ (h ++ t)) name ≡ times v name + times (h ++ t) name = times_append v (h ++ t) name in
    let e2 : times (h ++ t) name ≡ times h name + times t name = times_append h t name in
    let e3 : times (v ++ all) name ≡ times v name + times all name = times_append v all name in
    omega (arith, own, e1, e2, e3)

method_names_are : (tables : TableColumns) (before : UnitsBefore) (u : UnitSource) (methods : List Method)
    → map (λ (m : MethodTree). m.name) (map (method_tree_of tables before u) methods) ≡ map (λ (m : Method). spelled_name m.name) methods
method_names_are tables before u [] = refl
method_names_are tables before u (m ∷ methods) = ap (λ ns. spelled_name m.name ∷ ns) (method_names_are tables before u methods)

module _ (laws : JoinLaws) (tables : TableColumns) (before : UnitsBefore) (p : Package) (given : UnitHolds tables before (unit_of_package p)) where
  abbrev unit_here : UnitSource
  unit_here = unit_of_package p

  abbrev names_here : SourceNames
  names_here = unit_names tables before unit_here

  abbrev variables_here : List typed.Variable
  variables_here = program_variables unit_here

  abbrev trees_here : List MethodTree
  trees_here = method_trees tables before unit_here

  abbrev objects_here : DeclaredObjects
  objects_here = unit_objects tables before unit_here

  -- the vector of a package is its variables
  vector_is_declared : vector_variables tables before unit_here ≡ variables_here
  vector_is_declared = append-nil variables_here

  -- ---- its instances are hash objects and iterators

  own_object : (sort : InstanceOf) → is_kept_from_packages sort ≡ false → IsOwnObject before sort
  own_object (AnyPackage package' arguments) h = cc
  own_object (HashObject keys items table) h = tt
  own_object (HashIterator hash) h = tt
  own_object (AnyThread thread) h = cc

  own_objects : AllByRecursion (λ (i : SourceInstance). IsOwnObject before i.sort) names_here.instances
  own_objects =
      let test = λ (i : SourceInstance). is_kept_from_packages i.sort in
      let kept = filter test names_here.instances in
      let rule = (both_empty (instance_keywords is_kept_from_packages names_here.instances) (list_keywords unit_here.globals) (placed_kind laws tables before unit_here given)).0 in
      each_of (λ (i : SourceInstance). test i ≡ false) (λ (i : SourceInstance). IsOwnObject before i.sort) (λ i h. own_object i.sort h) names_here.instances
      (none_left test names_here.instances (nothing_behind (λ (i : SourceInstance). i.keyword.place) kept rule))

  -- ---- what its methods may name

  abbrev names_with : List typed.Variable → Option Ty → NamesInScope
  names_with locals returns = record {
    globals = package_globals variables_here;
    locals = locals;
    methods = package_methods trees_here;
    objects = objects_here;
    threads = [];
    is_system = false;
    outputs = 0;
    returns = returns;
  }

  objects_stand : (locals : List typed.Variable) (returns : Option Ty) (name : List ℕ) (calls : ObjectCalls) → calls_found before false name names_here.instances ≡ Some calls
      → ObjectStands (names_with locals returns) name calls
  objects_stand locals returns name (InstanceCalls methods) h = absurd (no_instance_called before false name methods names_here.instances own_objects h)
  objects_stand locals returns name HashCalls h =
      hash_stands before tables before.names.made (scope_of_declarations tables before unit_here) false name names_here.instances h
  objects_stand locals returns name IteratorCalls h = iterator_stands before false name names_here.instances h
  objects_stand locals returns name (ParameterCalls parameters) h = absurd (no_parameters_called before name parameters names_here.instances h)

  scope_stands : (locals : List typed.Variable) (returned : Option Ty) → AreInBounds locals → IsBoundedIfAny returned
      → ScopeStands (scope_with tables before unit_here false locals returned) (names_with locals returned)
  scope_stands locals returned bounds result = record {
    locals = λ name ty h. (h, bounded_in locals bounds name ty h);
    variables = λ name ty h. (
      subst (λ (vs : List typed.Variable). type_in vs name ≡ Some ty) vector_is_declared h,
      bounded_in (vector_variables tables before unit_here) (vector_bounds laws tables before unit_here given) name ty h,
    );
    parameters = λ name ty h. cc;
    objects = λ name calls h. objects_stand locals returned name calls (unhidden (is_some (type_in locals name)) (calls_found before false name names_here.instances) calls h);
    flags = λ name h. cc;
    firsts = λ name h. cc;
    lasts = λ name h. cc;
    methods = λ name m h. method_stands laws tables before unit_here given name m h;
    outputs = λ e. absurd (true≢false (sym e));
    returns = refl;
    return_bounds = result;
  }

  -- ---- its parts

  names_distinct : are_distinct (variable_names variables_here ++ object_names objects_here) ≡ true
  names_distinct =
      let given_names = given_distinct tables before unit_here given.stand given.source (once laws tables before unit_here given).globals in
      distinct_below (variable_names variables_here ++ object_names objects_here) (variable_names variables_here ++ names_alone (instance_names names_here))
      (λ name. three_below (variable_names variables_here) (map (λ (h : DeclaredHash). h.name) objects_here.hashes) (map (λ (i : DeclaredIterator). i.name) objects_here.iterators)
      (map (λ (i : InstanceTree). i.name) (instances_of before names_here.instances)) (map (λ (i : ThreadInstance). i.name) (threads_of before names_here.instances))
      (names_alone (instance_names names_here)) name (names_counted tables before (scope_of_declarations tables before unit_here) names_here.instances name))
      (subst (λ (vs : List typed.Variable). are_distinct (variable_names vs ++ names_alone (instance_names names_here)) ≡ true) vector_is_declared given_names)

  pub package_typed : PackageStands (typed_package tables before unit_here (spelled_name p.name))
  package_typed = record {
    typed = (
      (
        declared_variable_bounds laws tables before unit_here given,
        subst (λ (vs : List typed.Variable). are_distinct (variable_names vs) ≡ true) vector_is_declared
            (vector_distinct tables before unit_here given.stand given.source (once laws tables before unit_here given).globals),
      ),
      names_distinct,
      objects_typed laws tables before unit_here given (names_with [] None) (scope_stands [] None tt tt),
      methods_typed laws tables before unit_here given (package_globals variables_here) (package_methods trees_here) objects_here
          (λ m n bounds. scope_stands (variables_in_method m) (returned_type m.returns) bounds.locals bounds.result),
      tt,
    );
    names = method_names_are tables before unit_here (source_methods p.globals);
    methods = λ name m h. method_stands laws tables before unit_here given name m h;
  }
