-- A data or thread program that breaks no rule becomes a typed program.
use Rattle.std.proofs.Common.{◌≡◌, inr, ℕ, ◌+◌, ◌≤◌, bytes_eq, codes, is_some, cond, Bool, true, false, List, [], ◌∷◌, ◌++◌, length, map, if◌then◌else◌, option_and_then, Option, Some, None, refl, sym, ap, ◌∙◌, subst, true≢false, arith}
use Rattle.std.specs.Option.{option_map_or}
use Rattle.ds2_tree.specs.Globals.{Method}
use Rattle.ds2_tree.specs.declared.readings.Reading as source_reading
use Rattle.ds2_tree.specs.declared.readings.Reading.TheVariants as read_as
use Rattle.ds2_value.specs.Row.{Columns}
use Rattle.ds2_meaning.specs.declared.globals.OutputTable as typed_output
use Rattle.ds2_meaning.specs.declared.globals.Variable as typed
use Rattle.ds2_meaning.specs.declared.hashes.DeclaredHash.{DeclaredHash}
use Rattle.ds2_meaning.specs.declared.hashes.DeclaredIterator.{DeclaredIterator}
use Rattle.ds2_meaning.specs.declared.hashes.ThreadInstance.{ThreadInstance}
use Rattle.ds2_meaning.specs.declared.readings.Reading as typed_reading
use Rattle.ds2_meaning.specs.IsTyped.{are_distinct, variable_names, thread_parameters, names_given, AreTypedInstances, AreTypedThreads, IsTypedHead, IsTypedUnit, ReadsStage, ReadsNoStage, AreStageColumns, IsTypedProgram}
use Rattle.ds2_meaning.specs.ProgramTree.{InstanceTree, UnitTree, ProgramTree, reader_of}
use Rattle.ds2_meaning.specs.Reading.{stage_instance, stage_columns}
use Rattle.ds2_names.specs.NameRules.{from_each}
use Rattle.ds2_names.specs.SourceUnit.{TableColumns, UnitSource, spelled_name, placed_name, names_alone, source_methods, is_package, InstanceOf, AnyPackage, HashObject, HashIterator, AnyThread, SourceInstance, instance_named, stage_token, SourceNames, instance_names}
use Rattle.ds2_names.specs.Uses.{method_named}
use Rattle.ds2_elaboration.specs.ExpressionTypes.{TypeScope}
use Rattle.ds2_elaboration.specs.ProgramTypes.{read_statement, reading_of_method, hash_of_sort, iterator_of_sort, instance_of_package, instance_of_sort, thread_instance_of, scope_of_declarations, typed_unit, over_stage_read, typed_program}
use Rattle.ds2_elaboration.specs.SourceTypes.{unit_names, unit_stage, vector_variables}
use Rattle.ds2_elaboration.specs.TypedPrograms.{PackageStands, IsOneOutput}
use Rattle.ds2_elaboration.specs.UnitsBefore.{PackageTypes, UnitsBefore, package_types, typed_thread_named, thread_of_sort, typed_stage, columns_of_one, typed_stage_columns}
use Rattle.ds2_elaboration.proofs.Constructors.{init_typed}
use Rattle.ds2_elaboration.proofs.Counts.{times, times_append, distinct_below, four_counted}
use Rattle.ds2_elaboration.proofs.Facts.{JoinLaws, UnitHolds, once, vector_bounds, parameter_bounds, stage_known, reading_is}
use Rattle.ds2_elaboration.proofs.Hashes.{parameter_names_of, objects_typed}
use Rattle.ds2_elaboration.proofs.Instances.{parameters_distinct}
use Rattle.ds2_elaboration.proofs.Locals.{map_append}
use Rattle.ds2_elaboration.proofs.Methods.{names_with, declarations_stand, program_methods, run_typed, term_typed}
use Rattle.ds2_elaboration.proofs.Objects.{instances_of, threads_of, package_there, hashes_of, iterators_of, parameters_further}
use Rattle.ds2_elaboration.proofs.Orders.{same_bytes, bytes_are}
use Rattle.ds2_elaboration.proofs.Outputs.{outputs_typed, output_names_distinct}
use Rattle.ds2_elaboration.proofs.Readings.{reading_typed}
use Rattle.ds2_elaboration.proofs.Stages.{ThreadIsThere, thread_there, stage_there, reader_typed, vector_distinct, given_distinct}
use Rattle.ds2_elaboration.proofs.Vectors.{reading_if_any, reading_found}

-- ---- the names that instances give

map_of_each : {A B : Type 0} (f : B → List ℕ) (g : A → List B) (xs : List A) → map f (from_each g xs) ≡ from_each (λ (x : A). map f (g x)) xs
map_of_each f g [] = refl
map_of_each f g (x ∷ xs) = map_append f (g x) (from_each g xs) ∙ ap (λ ns. map f (g x) ++ ns) (map_of_each f g xs)

names_of_each : (is : List SourceInstance) → from_each (λ (i : SourceInstance). spelled_name i.name ∷ []) is ≡ names_alone (map (λ (i : SourceInstance). placed_name i.name) is)
names_of_each [] = refl
names_of_each (i ∷ is) = ap (λ ns. spelled_name i.name ∷ ns) (names_of_each is)

none_of_four : (k : ℕ) → 0 + 0 + 0 + 0 ≤ k
none_of_four k = omega arith

first_of_four : (k : ℕ) → k + 0 + 0 + 0 ≤ k
first_of_four k = omega arith

second_of_four : (k : ℕ) → 0 + k + 0 + 0 ≤ k
second_of_four k = omega arith

third_of_four : (k : ℕ) → 0 + 0 + k + 0 ≤ k
third_of_four k = omega arith

fourth_of_four : (k : ℕ) → 0 + 0 + 0 + k ≤ k
fourth_of_four k = omega arith

module _ (tables : TableColumns) (before : UnitsBefore) (scope : TypeScope) where
  -- the names of what comes of an instance
  abbrev hash_names : List ℕ → InstanceOf → List (List ℕ)
  hash_names own sort = map (λ (h : DeclaredHash). h.name) (hash_of_sort tables before.names.made scope own sort)

  abbrev iterator_names : List ℕ → InstanceOf → List (List ℕ)
  iterator_names own sort = map (λ (i : DeclaredIterator). i.name) (iterator_of_sort own sort)

  abbrev package_names : List ℕ → InstanceOf → List (List ℕ)
  package_names own sort = map (λ (i : InstanceTree). i.name) (instance_of_sort before own sort)

  abbrev thread_names : List ℕ → InstanceOf → List (List ℕ)
  thread_names own sort = map (λ (i : ThreadInstance). i.name) (thread_instance_of before own sort)

  package_counted : (own name : List ℕ) (found : Option PackageTypes)
      → 0 + 0 + times (map (λ (i : InstanceTree). i.name) (instance_of_package own found)) name + 0 ≤ times (own ∷ []) name
  package_counted own name None = none_of_four (times (own ∷ []) name)
  package_counted own name (Some p) = third_of_four (times (own ∷ []) name)

  thread_counted : (own name : List ℕ) (found : Option ProgramTree)
      → 0 + 0 + 0 + times (map (λ (i : ThreadInstance). i.name) (option_map_or (λ p. record { name = own; parameters = (reader_of p).parameters } ∷ []) found [])) name ≤ times (own ∷ []) name
  thread_counted own name None = none_of_four (times (own ∷ []) name)
  thread_counted own name (Some p) = fourth_of_four (times (own ∷ []) name)

  sort_counted : (own name : List ℕ) (sort : InstanceOf)
      → times (hash_names own sort) name + times (iterator_names own sort) name + times (package_names own sort) name + times (thread_names own sort) name ≤ times (own ∷ []) name
  sort_counted own name (AnyPackage package' arguments) = package_counted own name (package_types before.packages (spelled_name package'))
  sort_counted own name (HashObject keys items table) = first_of_four (times (own ∷ []) name)
  sort_counted own name (HashIterator hash) = second_of_four (times (own ∷ []) name)
  sort_counted own name (AnyThread thread) = thread_counted own name (typed_thread_named before.threads (spelled_name thread))

  -- what comes of instances has their names, each at most once
  pub names_counted : (is : List SourceInstance) (name : List ℕ)
      → times (map (λ (h : DeclaredHash). h.name) (hashes_of before tables before.names.made scope is)) name
      + times (map (λ (i : DeclaredIterator). i.name) (iterators_of before is)) name
      + times (map (λ (i : InstanceTree). i.name) (instances_of before is)) name
      + times (map (λ (i : ThreadInstance). i.name) (threads_of before is)) name ≤ times (names_alone (map (λ (i : SourceInstance). placed_name i.name) is)) name
  names_counted is name =
      let a = λ (i : SourceInstance). hash_names (spelled_name i.name) i.sort in
      let b = λ (i : SourceInstance). iterator_names (spelled_name i.name) i.sort in
      let c = λ (i : SourceInstance). package_names (spelled_name i.name) i.sort in
      let d = λ (i : SourceInstance). thread_names (spelled_name i.name) i.sort in
      let e = λ (i : SourceInstance). spelled_name i.name ∷ [] in
      let own = four_counted a b c d e name (λ i. sort_counted (spelled_name i.name) name i.sort) is in
      let ea = ap (λ ns. times ns name) (map_of_each (λ (h : DeclaredHash). h.name) (λ (i : SourceInstance). hash_of_sort tables before.names.made scope (spelled_name i.name) i.sort) is) in
      let eb = ap (λ ns. times ns name) (map_of_each (λ (x : DeclaredIterator). x.name) (λ (i : SourceInstance). iterator_of_sort (spelled_name i.name) i.sort) is) in
      let ec = ap (λ ns. times ns name) (map_of_each (λ (x : InstanceTree). x.name) (λ (i : SourceInstance). instance_of_sort before (spelled_name i.name) i.sort) is) in
      let ed = ap (λ ns. times ns name) (map_of_each (λ (x : ThreadInstance). x.name) (λ (i : SourceInstance). thread_instance_of before (spelled_name i.name) i.sort) is) in
      let ee = ap (λ ns. times ns name) (names_of_each is) in
      in_place (times (from_each a is) name) (times (from_each b is) name) (times (from_each c is) name) (times (from_each d is) name) (times (from_each e is) name)
      (times (map (λ (h : DeclaredHash). h.name) (hashes_of before tables before.names.made scope is)) name) (times (map (λ (i : DeclaredIterator). i.name) (iterators_of before is)) name)
      (times (map (λ (i : InstanceTree). i.name) (instances_of before is)) name) (times (map (λ (i : ThreadInstance). i.name) (threads_of before is)) name)
      (times (names_alone (map (λ (i : SourceInstance). placed_name i.name) is)) name) ea eb ec ed ee own
    where
      in_place : (a b c d e p q r s t : ℕ) → p ≡ a → q ≡ b → r ≡ c → s ≡ d → e ≡ t → a + b + c + d ≤ e → p + q + r + s ≤ t
      in_place a b c d e p q r s t ea eb ec ed ee h = omega (arith, ea, eb, ec, ed, ee, h)

-- the names of five lists, of which four come of instances
five_below : (v h t i s all : List (List ℕ)) (name : List ℕ) → times h name + times t name + times i name + times s name ≤ times all name
    → times (v ++ (h ++ t) ++ i ++ s) name ≤ times (v ++ all) name
five_below v h t i s all name own =
    let e1 : times (v ++ (h ++ t) ++ i ++ s) name ≡ times (v ++ (h ++ t) ++ i) name + times s name = times_append (v ++ (h ++ t) ++ i) s name in
    let e2 : times (v ++ (h ++ t) ++ i) name ≡ times (v ++ (h ++ t)) name + times i name = times_append (v ++ (h ++ t)) i name in
    let e3 : times (v ++ (h ++ t)) name ≡ times v name + times (h ++ t) name = times_append v (h ++ t) name in
    let e4 : times (h ++ t) name ≡ times h name + times t name = times_append h t name in
    let e5 : times (v ++ all) name ≡ times v name + times all name = times_append v all name in
    omega (arith, own, e1, e2, e3, e4, e5)

-- ---- instances

instances_append : (xs ys : List InstanceTree) → AreTypedInstances xs → AreTypedInstances ys → AreTypedInstances (xs ++ ys)
instances_append [] ys f g = g
instances_append (x ∷ xs) ys f g = (f.0, f.1, f.2, f.3, instances_append xs ys f.4 g)

threads_append : (xs ys : List ThreadInstance) → AreTypedThreads xs → AreTypedThreads ys → AreTypedThreads (xs ++ ys)
threads_append [] ys f g = g
threads_append (x ∷ xs) ys f g = (f.0, threads_append xs ys f.1 g)

package_typed : (own : List ℕ) (found : Option PackageTypes) → ((p : PackageTypes) → found ≡ Some p → PackageStands p) → AreTypedInstances (instance_of_package own found)
package_typed own None f = tt
package_typed own (Some p) f = (f p refl).typed

thread_typed : (own : List ℕ) (found : Option ProgramTree) → ((p : ProgramTree) → found ≡ Some p → ThreadIsThere p)
    → AreTypedThreads (option_map_or (λ p. record { name = own; parameters = (reader_of p).parameters } ∷ []) found [])
thread_typed own None f = tt
thread_typed own (Some p) f = ((reader_typed p (f p refl).stands.typed).parameters, tt)

one_columns : (outputs : List typed_output.OutputTable) → IsOneOutput outputs → AreStageColumns (columns_of_one outputs) outputs
one_columns [] o = absurd o
one_columns (output ∷ []) o = refl
one_columns (output ∷ (second ∷ outputs)) o = absurd o

some_is_none : {A : Type 0} (x : A) → None ≡ Some x → ⊥
some_is_none x h = cc

module _ (laws : JoinLaws) (tables : TableColumns) (before : UnitsBefore) (u : UnitSource) (given : UnitHolds tables before u) (runs : is_package u.kind ≡ false) where
  abbrev names_here : SourceNames
  names_here = unit_names tables before u

  abbrev program : UnitTree
  program = typed_unit tables before u

  instance_typed : (own : List ℕ) (sort : InstanceOf) → AreTypedInstances (instance_of_sort before own sort)
  instance_typed own (AnyPackage package' arguments) =
      package_typed own (package_types before.packages (spelled_name package')) (package_there before given.stand.packages (spelled_name package'))
  instance_typed own (HashObject keys items table) = tt
  instance_typed own (HashIterator hash) = tt
  instance_typed own (AnyThread thread) = tt

  all_instances : (is : List SourceInstance) → AreTypedInstances (instances_of before is)
  all_instances [] = tt
  all_instances (i ∷ is) =
      instances_append (instance_of_sort before (spelled_name i.name) i.sort) (instances_of before is) (instance_typed (spelled_name i.name) i.sort) (all_instances is)

  thread_of_typed : (own : List ℕ) (sort : InstanceOf) → AreTypedThreads (thread_instance_of before own sort)
  thread_of_typed own (AnyPackage package' arguments) = tt
  thread_of_typed own (HashObject keys items table) = tt
  thread_of_typed own (HashIterator hash) = tt
  thread_of_typed own (AnyThread thread) =
      thread_typed own (typed_thread_named before.threads (spelled_name thread)) (thread_there before.threads given.stand.threads (spelled_name thread))

  all_threads : (is : List SourceInstance) → AreTypedThreads (threads_of before is)
  all_threads [] = tt
  all_threads (i ∷ is) =
      threads_append (thread_instance_of before (spelled_name i.name) i.sort) (threads_of before is) (thread_of_typed (spelled_name i.name) i.sort) (all_threads is)

  all_names_distinct : are_distinct (names_given program) ≡ true
  all_names_distinct =
      distinct_below (names_given program) (variable_names (vector_variables tables before u) ++ names_alone (instance_names names_here))
      (λ name. five_below (variable_names (vector_variables tables before u))
      (map (λ (h : DeclaredHash). h.name) program.objects.hashes) (map (λ (i : DeclaredIterator). i.name) program.objects.iterators)
      (map (λ (i : InstanceTree). i.name) program.instances) (map (λ (i : ThreadInstance). i.name) program.threads) (names_alone (instance_names names_here)) name
      (names_counted tables before (scope_of_declarations tables before u) names_here.instances name))
      (given_distinct tables before u given.stand given.source (once laws tables before u given).globals)

  pub unit_typed : IsTypedHead program.thread program.parameters → IsTypedUnit program
  unit_typed head = record {
    head = head;
    variables = (vector_bounds laws tables before u given, vector_distinct tables before u given.stand given.source (once laws tables before u given).globals);
    parameters = (
      parameter_bounds laws tables before u given,
      ap are_distinct (sym (parameter_names_of u)) ∙ parameters_distinct tables before.names.known u given.source (once laws tables before u given).globals,
    );
    names = all_names_distinct;
    instances = all_instances names_here.instances;
    objects =
        objects_typed laws tables before u given (names_with laws tables before u given runs [] [] true (length program.outputs) None)
        (declarations_stand laws tables before u given runs);
    threads = all_threads names_here.instances;
    reading = reading_typed laws tables before u given runs;
    outputs = outputs_typed laws tables before u given;
    output_names = output_names_distinct laws tables before u given;
    methods = program_methods laws tables before u given runs;
    init = init_typed laws tables before u given runs;
    run = run_typed laws tables before u given runs;
    term = term_typed laws tables before u given runs;
  }

  -- ---- what it reads from

  abbrev stage_here : Columns
  stage_here = typed_stage_columns (unit_stage tables before u)

  -- the reading statement of `run`
  run_reading : names_here.reading ≡ reading_if_any (method_named (source_methods u.globals) (codes "run"))
  run_reading = reading_is laws tables before u given runs ∙ reading_found (source_methods u.globals)

  no_stage_read : (reading : Option source_reading.Reading) → names_here.reading ≡ reading → unit_stage tables before u ≡ None
      → ReadsNoStage (read_statement tables before.names.made stage_here reading)
  no_stage_read None e n = tt
  no_stage_read (Some (read_as.Set keyword inputs end by)) e n = tt
  no_stage_read (Some (read_as.SetFrom keyword from instance threads end)) e n =
      let there = (stage_known laws tables before u given instance (ap stage_token e)).0 in
      let same = ap (λ (r : Option source_reading.Reading). is_some (typed_stage before.threads names_here.instances (stage_token r))) e in
      absurd (true≢false (sym there ∙ (sym same ∙ ap (λ (s : Option ProgramTree). is_some s) n)))
  no_stage_read (Some (read_as.Merge keyword inputs retain end by)) e n = tt

  reads_no_stage : (found : Option Method) → names_here.reading ≡ reading_if_any found → unit_stage tables before u ≡ None
      → ReadsNoStage (reading_of_method tables before.names.made stage_here found)
  reads_no_stage None e n = tt
  reads_no_stage (Some m) e n = no_stage_read m.reading e n

  -- the parameters of the instance that is read from
  thread_first : (own : List ℕ) (rest : List ThreadInstance) (found : Option ProgramTree) (stage : ProgramTree) → found ≡ Some stage
      → thread_parameters (option_map_or (λ p. record { name = own; parameters = (reader_of p).parameters } ∷ []) found [] ++ rest) own ≡ Some (reader_of stage).parameters
  thread_first own rest None stage h = cc
  thread_first own rest (Some p) stage h =
      ap (λ b. if b then Some (reader_of p).parameters else thread_parameters rest own) (bytes_are own own refl) ∙ ap (λ (found : Option ProgramTree). parameters_of found) h
    where
      parameters_of : Option ProgramTree → Option (List typed.Variable)
      parameters_of None = None
      parameters_of (Some x) = Some (reader_of x).parameters

  sort_first : (own name : List ℕ) (rest : List ThreadInstance) (sort : InstanceOf) (stage : ProgramTree) → bytes_eq own name ≡ true → thread_of_sort before.threads sort ≡ Some stage
      → thread_parameters (thread_instance_of before own sort ++ rest) name ≡ Some (reader_of stage).parameters
  sort_first own name rest (AnyPackage package' arguments) stage e h = cc
  sort_first own name rest (HashObject keys items table) stage e h = cc
  sort_first own name rest (HashIterator hash) stage e h = cc
  sort_first own name rest (AnyThread thread) stage e h =
      subst (λ (n : List ℕ). thread_parameters (thread_instance_of before own (AnyThread thread) ++ rest) n ≡ Some (reader_of stage).parameters) (same_bytes own name e)
      (thread_first own rest (typed_thread_named before.threads (spelled_name thread)) stage h)

  first_if : (b : Bool) (name : List ℕ) (i : SourceInstance) (is : List SourceInstance) (stage : ProgramTree) → bytes_eq (spelled_name i.name) name ≡ b
      → (option_and_then (λ (j : SourceInstance). thread_of_sort before.threads j.sort) (instance_named is name) ≡ Some stage
      → thread_parameters (threads_of before is) name ≡ Some (reader_of stage).parameters)
      → option_and_then (λ (j : SourceInstance). thread_of_sort before.threads j.sort) (cond b (Some i) (instance_named is name)) ≡ Some stage
      → thread_parameters (threads_of before (i ∷ is)) name ≡ Some (reader_of stage).parameters
  first_if true name i is stage e f h = sort_first (spelled_name i.name) name (threads_of before is) i.sort stage e h
  first_if false name i is stage e f h = parameters_further before (spelled_name i.name) name (threads_of before is) i.sort (inr e) ∙ f h

  stage_parameters : (name : List ℕ) (is : List SourceInstance) (stage : ProgramTree)
      → option_and_then (λ (j : SourceInstance). thread_of_sort before.threads j.sort) (instance_named is name) ≡ Some stage
      → thread_parameters (threads_of before is) name ≡ Some (reader_of stage).parameters
  stage_parameters name [] stage h = cc
  stage_parameters name (i ∷ is) stage h = first_if (bytes_eq (spelled_name i.name) name) name i is stage refl (stage_parameters name is stage) h

  -- what a reading statement has of the thread program that it reads from
  abbrev FitsReading : ProgramTree → typed_reading.Reading → Type 0
  FitsReading stage reading =
      ReadsStage reading × ((is_some (reader_of stage).thread ≡ true) × (AreStageColumns (stage_columns reading) (reader_of stage).outputs
      × (thread_parameters program.threads (stage_instance reading) ≡ Some (reader_of stage).parameters)))

  fits_reading : (stage : ProgramTree) → unit_stage tables before u ≡ Some stage → ThreadIsThere stage → (reading : Option source_reading.Reading)
      → typed_stage before.threads names_here.instances (stage_token reading) ≡ Some stage → FitsReading stage (read_statement tables before.names.made stage_here reading)
  fits_reading stage own there None h = absurd (some_is_none stage h)
  fits_reading stage own there (Some (read_as.Set keyword inputs end by)) h = absurd (some_is_none stage h)
  fits_reading stage own there (Some (read_as.SetFrom keyword from instance threads end)) h = (
    tt,
    (
      there.named,
      (
        subst (λ (s : Option ProgramTree). AreStageColumns (typed_stage_columns s) (reader_of stage).outputs) (sym own) (one_columns (reader_of stage).outputs there.stands.output),
        stage_parameters (spelled_name instance) names_here.instances stage h,
      ),
    ),
  )
  fits_reading stage own there (Some (read_as.Merge keyword inputs retain end by)) h = absurd (some_is_none stage h)

  fits_found : (stage : ProgramTree) → unit_stage tables before u ≡ Some stage → ThreadIsThere stage → (found : Option Method)
      → typed_stage before.threads names_here.instances (stage_token (reading_if_any found)) ≡ Some stage → FitsReading stage (reading_of_method tables before.names.made stage_here found)
  fits_found stage own there None h = absurd (some_is_none stage h)
  fits_found stage own there (Some m) h = fits_reading stage own there m.reading h

  over_stage_typed : IsTypedUnit program → (found : Option ProgramTree) → unit_stage tables before u ≡ found → IsTypedProgram (over_stage_read tables before u found)
  over_stage_typed typed None e = (typed, reads_no_stage (method_named (source_methods u.globals) (codes "run")) run_reading e)
  over_stage_typed typed (Some stage) e =
      let there = stage_there before.threads given.stand.threads names_here.instances (stage_token names_here.reading) stage e in
      let run = method_named (source_methods u.globals) (codes "run") in
      let read = sym (ap (λ (r : Option source_reading.Reading). typed_stage before.threads names_here.instances (stage_token r)) run_reading) ∙ e in
      let fits = fits_found stage e there run read in
      (typed, (fits.0, fits.1.0, fits.1.1.0, fits.1.1.1), there.stands.typed)

  -- a program that breaks no rule is typed
  pub program_typed : IsTypedHead program.thread program.parameters → IsTypedProgram (typed_program tables before u)
  program_typed head = over_stage_typed (unit_typed head) (unit_stage tables before u) refl

-- the program without what it reads from
pub reader_is : (tables : TableColumns) (before : UnitsBefore) (u : UnitSource) → reader_of (typed_program tables before u) ≡ typed_unit tables before u
reader_is tables before u = of_stage (unit_stage tables before u)
  where
    of_stage : (found : Option ProgramTree) → reader_of (over_stage_read tables before u found) ≡ typed_unit tables before u
    of_stage None = refl
    of_stage (Some stage) = refl
