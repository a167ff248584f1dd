-- What is known of the programs that a source becomes: each table that they, their instances and the thread programs that they read from
-- name is one of the store, or an earlier program makes it.
use Rattle.std.proofs.Common.{◌≡◌, ◌⊎◌, inl, inr, ◌+◌, ◌==◌, ℕ, Bool, true, false, ◌||◌, List, [], ◌∷◌, ◌++◌, map, filter, length, Option, Some, None, Result, Ok, Err, bytes_eq, codes, cond, refl, sym, ap, subst, ◌∙◌, arith}
use Rattle.std.specs.Prelude.{option_and_then}
use Rattle.std.specs.List.{AllByRecursion, find}
use Rattle.std.specs.Option.{option_map}
use Rattle.std.proofs.lemmas.List.{length-append, map-append}
use Rattle.std.proofs.lemmas.List.Folds.{list_any-append}
use Rattle.std.proofs.lemmas.Slice.Eq.{bytes_eq-Decides}
use Rattle.ds2_token.specs.declared.token.Token.{Token}
use Rattle.ds2_tree.specs.Globals.{Method}
use Rattle.ds2_tree.specs.Units.{DataProgram, SourcePart, Proc, Run, Quit, APackage, AThread, AData}
use Rattle.ds2_tree.specs.declared.readings.Input as source_input
use Rattle.ds2_tree.specs.declared.readings.Reading as source_reading
use Rattle.ds2_tree.specs.declared.readings.Reading.TheVariants as source_read
use Rattle.ds2_value.specs.Row.{Columns}
use Rattle.ds2_meaning.specs.ProgramTree.{InstanceTree, UnitTree, ProgramTree, OverTables, OverStage, is_listed, reader_of}
use Rattle.ds2_meaning.specs.declared.hashes.DeclaredHash.{DeclaredHash}
use Rattle.ds2_meaning.specs.declared.hashes.LoadedTable.{LoadedTable}
use Rattle.ds2_meaning.specs.declared.readings.MentionedTable.{MentionedTable}
use Rattle.ds2_names.specs.NameRules.{from_each}
use Rattle.ds2_names.specs.SourceLimits.{BeforeUnit, behind_part, data_programs_in, first_mentions, globals_in, is_stored, mentioned_table, outputs_in, store_tables, tables_in_item, tables_made_by, tables_of_store}
use Rattle.ds2_names.specs.SourceUnit.{AnyPackage, AnyThread, HashIterator, HashObject, InstanceOf, PlacedName, SourceInstance, TableColumns, UnitSource, instance_named, names_alone, placed_name, source_instances, source_methods, spelled_name, spelled_text, stage_token, unit_of_data, unit_of_package, unit_of_thread}
use Rattle.ds2_names.specs.Uses.{method_named}
use Rattle.ds2_elaboration.specs.Elaboration.{ProgramRefusal, before_source, elaborated_parts, elaborated_source, tables_behind, tables_behind_part, unit_refusal, units_behind, with_programs}
use Rattle.ds2_elaboration.specs.ExpressionTypes.{TypeScope}
use Rattle.ds2_elaboration.specs.ProgramTypes.{hash_of_sort, instance_of_package, instance_of_sort, over_stage_read, read_input, read_statement, reading_of_method, scope_of_declarations, typed_package, typed_program, typed_unit}
use Rattle.ds2_elaboration.specs.SourceTypes.{unit_names, unit_stage}
use Rattle.ds2_elaboration.specs.UnitsBefore.{PackageTypes, UnitsBefore, has_thread_name, package_types, thread_of_sort, typed_stage, typed_stage_columns}
use Rattle.ds2_code.specs.declared.parts.HashPart.{HashPart}
use Rattle.ds2_code.specs.declared.parts.ReadPart.{ReadPart}
use Rattle.ds2_code.specs.declared.parts.TableReference.{TableReference}
use Rattle.ds2_same_meaning.specs.CodeParts.{input_part, reading_part, table_part}
use Rattle.ds2_same_meaning.specs.CodeTables.{reading_references}
use Rattle.ds2_source.specs.InputTables.{source_inputs}
use Rattle.ds2_compile.proofs.TablesMade.{outputs_made}
use Rattle.ds2_compile.proofs.UnitOutcomes.{reader_made}
use Rattle.ds2_compile.specs.CompiledSources.{HasStoreTable}
use Rattle.ds2_compile.proofs.KnownTables.{IsKnownTable, KnowsTables, behind_program, known_later, store_alone}
use Rattle.ds2_compile.proofs.Mentions.{AreAmong, InstancesAmong, IsTableAmong, LoadsAmong, ReadsAmong, instances_load, listed_before, listed_behind, listed_first, method_reads, or_left, or_right, tables_named}

-- ---- lists and options

-- something holds of what is there
abbrev pub IfThere : {A : Type 0} → (A → Type 0) → Option A → Type 0
IfThere P None = Unit {0}
IfThere P (Some x) = P x

all_found : {A : Type 0} (P : A → Type 0) (test : A → Bool) (xs : List A) → AllByRecursion P xs → IfThere P (find test xs)
all_found P test [] all = tt
all_found {A} P test (x ∷ xs) all = by (test x) (all_found P test xs all.1)
  where
    by : (here : Bool) → IfThere P (find test xs) → IfThere P (cond here (Some x) (find test xs))
    by true others = all.0
    by false others = others

pub all_both : {A : Type 0} (P : A → Type 0) (xs ys : List A) → AllByRecursion P xs → AllByRecursion P ys → AllByRecursion P (xs ++ ys)
all_both P [] ys f g = g
all_both P (x ∷ xs) ys f g = (f.0, all_both P xs ys f.1 g)

-- ---- the tables that a program names

-- the table that a reference means
abbrev pub mention_of : TableReference → MentionedTable
mention_of r = record { name = r.name; maker = r.maker }

-- a table that code names: where it is one of the store, one of these names with the columns that it has there; it is known
pub record IsReferred (names : List (List ℕ)) (store : TableColumns) (earlier : List UnitTree) (r : TableReference) : Type 0 where
  pub stored : HasStoreTable names store r
  pub known : IsKnownTable store earlier (mention_of r) r.columns

-- the table of which a hash object has the rows
abbrev pub IsLoadReferred : List (List ℕ) → TableColumns → List UnitTree → LoadedTable → Type 0
IsLoadReferred names store earlier loaded = IsReferred names store earlier (table_part loaded.table loaded.columns)

-- those of hash objects
abbrev pub AreHashesReferred : List (List ℕ) → TableColumns → List UnitTree → List DeclaredHash → Type 0
AreHashesReferred names store earlier hashes = AllByRecursion (λ (h : DeclaredHash). IfThere (IsLoadReferred names store earlier) h.loaded) hashes

-- those of the hash objects of a package
abbrev pub IsPackageSettled : List (List ℕ) → TableColumns → List UnitTree → PackageTypes → Type 0
IsPackageSettled names store earlier p = AreHashesReferred names store earlier p.objects.hashes

-- those of the hash objects of an instance
abbrev pub IsInstanceSettled : List (List ℕ) → TableColumns → List UnitTree → InstanceTree → Type 0
IsInstanceSettled names store earlier i = AreHashesReferred names store earlier i.objects.hashes

-- those of a program without the thread program that it reads from
pub record IsUnitSettled (names : List (List ℕ)) (store : TableColumns) (earlier : List UnitTree) (p : UnitTree) : Type 0 where
  pub hashes : AreHashesReferred names store earlier p.objects.hashes
  pub instances : AllByRecursion (IsInstanceSettled names store earlier) p.instances
  pub reads : AllByRecursion (IsReferred names store earlier) (reading_references (reading_part p p.reading))

-- and with it
abbrev pub IsProgramSettled : List (List ℕ) → TableColumns → List UnitTree → ProgramTree → Type 0
IsProgramSettled names store earlier (OverTables p) = IsUnitSettled names store earlier p
IsProgramSettled names store earlier (OverStage p stage) = IsUnitSettled names store earlier p × IsProgramSettled names store earlier stage

-- ---- behind more programs

module _ (names : List (List ℕ)) (store : TableColumns) (earlier more : List UnitTree) where
  referred_later : (r : TableReference) → IsReferred names store earlier r → IsReferred names store (earlier ++ more) r
  referred_later r is = record { stored = IsReferred.stored is; known = known_later store earlier more (mention_of r) r.columns (IsReferred.known is) }

  all_later : (rs : List TableReference) → AllByRecursion (IsReferred names store earlier) rs → AllByRecursion (IsReferred names store (earlier ++ more)) rs
  all_later [] all = tt
  all_later (r ∷ rs) all = (referred_later r all.0, all_later rs all.1)

  load_later : (loaded : Option LoadedTable) → IfThere (IsLoadReferred names store earlier) loaded → IfThere (IsLoadReferred names store (earlier ++ more)) loaded
  load_later None is = tt
  load_later (Some loaded) is = referred_later (table_part loaded.table loaded.columns) is

  hashes_later : (hashes : List DeclaredHash) → AreHashesReferred names store earlier hashes → AreHashesReferred names store (earlier ++ more) hashes
  hashes_later [] all = tt
  hashes_later (h ∷ hashes) all = (load_later h.loaded all.0, hashes_later hashes all.1)

  instances_later : (instances : List InstanceTree) → AllByRecursion (IsInstanceSettled names store earlier) instances → AllByRecursion (IsInstanceSettled names store (earlier ++ more)) instances
  instances_later [] all = tt
  instances_later (i ∷ instances) all = (hashes_later i.objects.hashes all.0, instances_later instances all.1)

  packages_later : (packages : List PackageTypes) → AllByRecursion (IsPackageSettled names store earlier) packages → AllByRecursion (IsPackageSettled names store (earlier ++ more)) packages
  packages_later [] all = tt
  packages_later (p ∷ packages) all = (hashes_later p.objects.hashes all.0, packages_later packages all.1)

  unit_later : (p : UnitTree) → IsUnitSettled names store earlier p → IsUnitSettled names store (earlier ++ more) p
  unit_later p is = record {
    hashes = hashes_later p.objects.hashes (IsUnitSettled.hashes is);
    instances = instances_later p.instances (IsUnitSettled.instances is);
    reads = all_later (reading_references (reading_part p p.reading)) (IsUnitSettled.reads is);
  }

  program_later : (p : ProgramTree) → IsProgramSettled names store earlier p → IsProgramSettled names store (earlier ++ more) p
  program_later (OverTables p) is = unit_later p is
  program_later (OverStage p stage) is = (unit_later p is.0, program_later stage is.1)

  threads_later : (threads : List ProgramTree) → AllByRecursion (IsProgramSettled names store earlier) threads → AllByRecursion (IsProgramSettled names store (earlier ++ more)) threads
  threads_later [] all = tt
  threads_later (p ∷ threads) all = (program_later p all.0, threads_later threads all.1)

-- ---- a unit

-- the name of a table of the store that is among these
abbrev IsInput : List (List ℕ) → List PlacedName → List MentionedTable → Type 0
IsInput names all made = (name : List ℕ) → is_listed (names_alone all) name ≡ true → is_stored made name ≡ true → is_listed names name ≡ true

columns_stored_there : (store : TableColumns) (earlier : List UnitTree) (table : MentionedTable) (columns : Columns) → IsKnownTable store earlier table columns → (table.maker == 0) ≡ true → columns ≡ store table.name
columns_stored_there store earlier table columns (inl (zero, e)) h = e
columns_stored_there store earlier table columns (inr (not_stored, made)) h = absurd (cc (h, not_stored))

module _ (names : List (List ℕ)) (store tables : TableColumns) (made : List MentionedTable) (earlier : List UnitTree) (knows : KnowsTables store tables made earlier)
    (all : List PlacedName) (inputs_are : IsInput names all made) where
  -- a table that is mentioned
  name_referred : (name : List ℕ) → is_listed (names_alone all) name ≡ true → IsReferred names store earlier (table_part (mentioned_table made name) (tables name))
  name_referred name h =
      let table = mentioned_table made name in
      record {
        stored = λ zero. (
          subst (λ (n : List ℕ). is_listed names n ≡ true) (sym (knows.names name)) (inputs_are name h zero),
          columns_stored_there store earlier table (tables name) (knows.known name) zero,
        );
        known = knows.known name;
      }

  -- ---- its hash objects

  sort_hashes : (scope : TypeScope) (name : List ℕ) (sort : InstanceOf) → LoadsAmong all sort → AreHashesReferred names store earlier (hash_of_sort tables made scope name sort)
  sort_hashes scope name (AnyPackage package' arguments) are = tt
  sort_hashes scope name (HashObject keys items None) are = (tt, tt)
  sort_hashes scope name (HashObject keys items (Some t)) are = (name_referred (spelled_text t) are, tt)
  sort_hashes scope name (HashIterator hash) are = tt
  sort_hashes scope name (AnyThread thread) are = tt

  own_hashes : (scope : TypeScope) (instances : List SourceInstance) → InstancesAmong all instances
      → AreHashesReferred names store earlier (from_each (λ (i : SourceInstance). hash_of_sort tables made scope (spelled_name i.name) i.sort) instances)
  own_hashes scope [] are = tt
  own_hashes scope (i ∷ instances) are =
      all_both (λ (h : DeclaredHash). IfThere (IsLoadReferred names store earlier) h.loaded) (hash_of_sort tables made scope (spelled_name i.name) i.sort)
      (from_each (λ (i : SourceInstance). hash_of_sort tables made scope (spelled_name i.name) i.sort) instances) (sort_hashes scope (spelled_name i.name) i.sort are.0) (own_hashes scope instances are.1)

  -- ---- its reading statement

  module _ (p : UnitTree) (stage : Columns) where
    inputs_referred : (inputs : List source_input.Input) → AreAmong all (map (λ (i : source_input.Input). placed_name i.table) inputs)
        → AllByRecursion (IsReferred names store earlier) (map (λ (r : ReadPart). r.table) (map (input_part p) (map (read_input tables made) inputs)))
    inputs_referred [] are = tt
    inputs_referred (i ∷ inputs) are = (name_referred (spelled_name i.table) are.0, inputs_referred inputs are.1)

    -- each table that is read is known
    abbrev ReadsKnown : Option source_reading.Reading → Type 0
    ReadsKnown reading = AllByRecursion (IsReferred names store earlier) (reading_references (reading_part p (read_statement tables made stage reading)))

    statement_known : (reading : Option source_reading.Reading) → AreAmong all (tables_named reading) → ReadsKnown reading
    statement_known None are = tt
    statement_known (Some (source_read.Set keyword inputs end by)) are = inputs_referred inputs are
    statement_known (Some (source_read.SetFrom keyword from instance threads end)) are = tt
    statement_known (Some (source_read.Merge keyword inputs retain end by)) are = inputs_referred inputs are

    reading_known : (m : Option Method) → ReadsAmong all m → AllByRecursion (IsReferred names store earlier) (reading_references (reading_part p (reading_of_method tables made stage m)))
    reading_known None are = tt
    reading_known (Some m) are = statement_known m.reading are

-- ---- its instances, and the thread program that it reads from

module _ (names : List (List ℕ)) (store : TableColumns) (earlier : List UnitTree) (before : UnitsBefore) (packages : AllByRecursion (IsPackageSettled names store earlier) before.packages) where
  one_instance : (name : List ℕ) (o : Option PackageTypes) → IfThere (IsPackageSettled names store earlier) o → AllByRecursion (IsInstanceSettled names store earlier) (instance_of_package name o)
  one_instance name None is = tt
  one_instance name (Some p) is = (is, tt)

  sort_instances : (name : List ℕ) (sort : InstanceOf) → AllByRecursion (IsInstanceSettled names store earlier) (instance_of_sort before name sort)
  sort_instances name (AnyPackage package' arguments) =
      one_instance name (package_types before.packages (spelled_name package'))
      (all_found (IsPackageSettled names store earlier) (λ (p : PackageTypes). bytes_eq p.name (spelled_name package')) before.packages packages)
  sort_instances name (HashObject keys items table) = tt
  sort_instances name (HashIterator hash) = tt
  sort_instances name (AnyThread thread) = tt

  own_instances : (instances : List SourceInstance)
      → AllByRecursion (IsInstanceSettled names store earlier) (from_each (λ (i : SourceInstance). instance_of_sort before (spelled_name i.name) i.sort) instances)
  own_instances [] = tt
  own_instances (i ∷ instances) =
      all_both (IsInstanceSettled names store earlier) (instance_of_sort before (spelled_name i.name) i.sort)
      (from_each (λ (i : SourceInstance). instance_of_sort before (spelled_name i.name) i.sort) instances) (sort_instances (spelled_name i.name) i.sort) (own_instances instances)

stage_of_sort : (P : ProgramTree → Type 0) (threads : List ProgramTree) → AllByRecursion P threads → (sort : InstanceOf) → IfThere P (thread_of_sort threads sort)
stage_of_sort P threads all (AnyPackage package' arguments) = tt
stage_of_sort P threads all (HashObject keys items table) = tt
stage_of_sort P threads all (HashIterator hash) = tt
stage_of_sort P threads all (AnyThread thread) = all_found P (has_thread_name (spelled_name thread)) threads all

stage_among : (P : ProgramTree → Type 0) (threads : List ProgramTree) → AllByRecursion P threads → (instances : List SourceInstance) (name : Option Token) → IfThere P (typed_stage threads instances name)
stage_among P threads all instances None = tt
stage_among P threads all instances (Some name) = by (instance_named instances (spelled_name name))
  where
    by : (found : Option SourceInstance) → IfThere P (option_and_then (λ (i : SourceInstance). thread_of_sort threads i.sort) found)
    by None = tt
    by (Some i) = stage_of_sort P threads all i.sort

-- ---- a unit among what is settled

-- what is settled before a unit: tables, packages and thread programs
pub record StandsSettled (names : List (List ℕ)) (store tables : TableColumns) (before : UnitsBefore) (earlier : List UnitTree) : Type 0 where
  pub knows : KnowsTables store tables before.names.made earlier
  pub numbered : length earlier ≡ before.names.data_programs
  pub packages : AllByRecursion (IsPackageSettled names store earlier) before.packages
  pub threads : AllByRecursion (IsProgramSettled names store earlier) before.threads

module _ (names : List (List ℕ)) (store tables : TableColumns) (before : UnitsBefore) (earlier : List UnitTree) (stands : StandsSettled names store tables before earlier)
    (u : UnitSource) (inputs_are : IsInput names (from_each tables_in_item u.globals) before.names.made) where
  unit_hashes : AreHashesReferred names store earlier
      (from_each (λ (i : SourceInstance). hash_of_sort tables before.names.made (scope_of_declarations tables before u) (spelled_name i.name) i.sort) (source_instances u.globals))
  unit_hashes =
      own_hashes names store tables before.names.made earlier stands.knows (from_each tables_in_item u.globals) inputs_are (scope_of_declarations tables before u) (source_instances u.globals)
      (instances_load u.globals)

  unit_settled : IsUnitSettled names store earlier (typed_unit tables before u)
  unit_settled = record {
    hashes = unit_hashes;
    instances = own_instances names store earlier before stands.packages (source_instances u.globals);
    reads =
        reading_known names store tables before.names.made earlier stands.knows (from_each tables_in_item u.globals) inputs_are (typed_unit tables before u)
        (typed_stage_columns (unit_stage tables before u)) (method_named (source_methods u.globals) (codes "run")) (method_reads u.globals (codes "run"));
  }

  pub package_settled : (name : List ℕ) → IsPackageSettled names store earlier (typed_package tables before u name)
  package_settled name = unit_hashes

  pub program_settled : IsProgramSettled names store earlier (typed_program tables before u)
  program_settled = by (unit_stage tables before u) (stage_among (IsProgramSettled names store earlier) before.threads stands.threads (source_instances u.globals) (stage_token (unit_names tables before u).reading))
    where
      by : (stage : Option ProgramTree) → IfThere (IsProgramSettled names store earlier) stage → IsProgramSettled names store earlier (over_stage_read tables before u stage)
      by None is = unit_settled
      by (Some stage) is = (unit_settled, is)

-- ---- a source

-- each program is settled behind the ones before it
abbrev pub AreSettled : List (List ℕ) → TableColumns → List ProgramTree → List ProgramTree → Type 0
AreSettled names store earlier [] = Unit {0}
AreSettled names store earlier (p ∷ programs) = IsProgramSettled names store (map reader_of earlier) p × AreSettled names store (earlier ++ p ∷ []) programs

-- so are those of an outcome
abbrev pub HasSettled : List (List ℕ) → TableColumns → List ProgramTree → Result (List ProgramTree) ProgramRefusal → Type 0
HasSettled names store earlier (Ok programs) = AreSettled names store earlier programs
HasSettled names store earlier (Err refusal) = Unit {0}

-- a part that is no data program, before others
settled_past : (names : List (List ℕ)) (store : TableColumns) (earlier : List ProgramTree) (refusal : Option ProgramRefusal) (others : Result (List ProgramTree) ProgramRefusal)
    → HasSettled names store earlier others → HasSettled names store earlier (with_programs refusal [] others)
settled_past names store earlier (Some r) others more = tt
settled_past names store earlier None (Ok programs) more = more
settled_past names store earlier None (Err refusal) more = tt

-- a program that is typed unless it is refused, before others
settled_unless : (names : List (List ℕ)) (store : TableColumns) (earlier : List ProgramTree) (refusal : Option ProgramRefusal) (p : ProgramTree) (others : Result (List ProgramTree) ProgramRefusal)
    → IsProgramSettled names store (map reader_of earlier) p → HasSettled names store (earlier ++ p ∷ []) others → HasSettled names store earlier (with_programs refusal (p ∷ []) others)
settled_unless names store earlier (Some r) p others is more = tt
settled_unless names store earlier None p (Ok programs) is more = (is, more)
settled_unless names store earlier None p (Err refusal) is more = tt

-- a name among tables that means one of the store is among those of the store
stored_listed : (made : List MentionedTable) (name : List ℕ) (all : List PlacedName) → is_listed (names_alone all) name ≡ true → is_stored made name ≡ true
    → is_listed (names_alone (filter (λ (t : PlacedName). is_stored made t.name) all)) name ≡ true
stored_listed made name [] h stored = absurd (cc h)
stored_listed made name (t ∷ all) h stored = by (bytes_eq t.name name) refl (is_stored made t.name) refl h (λ k. stored_listed made name all k stored)
  where
    by : (same : Bool) → bytes_eq t.name name ≡ same → (there : Bool) → is_stored made t.name ≡ there → (same || is_listed (names_alone all) name) ≡ true
        → (is_listed (names_alone all) name ≡ true → is_listed (names_alone (filter (λ (t : PlacedName). is_stored made t.name) all)) name ≡ true)
        → is_listed (names_alone (cond there (t ∷ filter (λ (t : PlacedName). is_stored made t.name) all) (filter (λ (t : PlacedName). is_stored made t.name) all))) name ≡ true
    by true same true kept k later = or_left (bytes_eq t.name name) (is_listed (names_alone (filter (λ (t : PlacedName). is_stored made t.name) all)) name) same
    by true same false kept k later = absurd (cc (kept, stored, (bytes_eq-Decides t.name name).0 same))
    by false same true kept k later = or_right (bytes_eq t.name name) (is_listed (names_alone (filter (λ (t : PlacedName). is_stored made t.name) all)) name) (later k)
    by false same false kept k later = later k

-- one of two lists has a name
in_either : (names own seen : List (List ℕ)) → ((name : List ℕ) → is_listed own name ≡ true → is_listed names name ≡ true) → ((name : List ℕ) → is_listed seen name ≡ true → is_listed names name ≡ true)
    → (name : List ℕ) → is_listed (own ++ seen) name ≡ true → is_listed names name ≡ true
in_either names own seen f g name h =
    by (is_listed own name) refl (sym (list_any-append (λ (other : List ℕ). bytes_eq other name) own seen) ∙ h)
  where
    by : (here : Bool) → is_listed own name ≡ here → (here || is_listed seen name) ≡ true → is_listed names name ≡ true
    by true e k = f name e
    by false e k = g name k

-- what is known of the inputs of a source at a part of it: those seen so far, and those still to come, are among all
pub record HasInputs (names : List (List ℕ)) (before : BeforeUnit) (parts : List SourcePart) : Type 0 where
  pub seen : (name : List ℕ) → is_listed before.mentioned name ≡ true → is_listed names name ≡ true
  pub more : (name : List ℕ) → is_listed (names_alone (store_tables before.data_programs before.made before.mentioned parts)) name ≡ true → is_listed names name ≡ true

module _ (names : List (List ℕ)) (tables : TableColumns) (before : BeforeUnit) (part : SourcePart) (parts : List SourcePart) (inputs : HasInputs names before (part ∷ parts)) where
  abbrev own_mentions : List PlacedName
  own_mentions = first_mentions before.mentioned (tables_of_store before.made (globals_in part))

  abbrev others_there : List PlacedName
  others_there =
      store_tables (before.data_programs + data_programs_in part) (tables_made_by (before.data_programs + 1) (outputs_in part) ++ before.made) (names_alone own_mentions ++ before.mentioned) parts

  own_listed : (name : List ℕ) → is_listed (names_alone own_mentions) name ≡ true → is_listed names name ≡ true
  own_listed name h = inputs.more name (listed_before name own_mentions others_there h)

  pub inputs_of_part : IsInput names (from_each tables_in_item (globals_in part)) before.made
  inputs_of_part name h stored =
      let kept = stored_listed before.made name (from_each tables_in_item (globals_in part)) h stored in
      by (is_listed before.mentioned name) refl (listed_first name before.mentioned (tables_of_store before.made (globals_in part)) kept)
    where
      by : (known : Bool) → is_listed before.mentioned name ≡ known → (known || is_listed (names_alone own_mentions) name) ≡ true → is_listed names name ≡ true
      by true e k = inputs.seen name e
      by false e k = own_listed name k

  pub inputs_behind : HasInputs names (behind_part tables part before) parts
  inputs_behind = record {
    seen = in_either names (names_alone own_mentions) before.mentioned own_listed inputs.seen;
    more = λ name h. inputs.more name (listed_behind name own_mentions others_there h);
  }

one_longer : (earlier : List UnitTree) (p : UnitTree) (n : ℕ) → length earlier ≡ n → length (earlier ++ p ∷ []) ≡ n + 1
one_longer earlier p n e = length-append earlier (p ∷ []) ∙ ap (λ m. m + 1) e

module _ (names : List (List ℕ)) (store : TableColumns) where
  -- behind a part that is no unit
  settled_no_unit : (tables : TableColumns) (before next : UnitsBefore) (earlier : List UnitTree) → StandsSettled names store tables before earlier → next.names.made ≡ before.names.made
      → next.names.data_programs ≡ before.names.data_programs → next.packages ≡ before.packages → next.threads ≡ before.threads → StandsSettled names store tables next earlier
  settled_no_unit tables before next earlier stands made number packages threads = record {
    knows = subst (λ (ts : List MentionedTable). KnowsTables store tables ts earlier) (sym made) (StandsSettled.knows stands);
    numbered = StandsSettled.numbered stands ∙ sym number;
    packages = subst (λ (ps : List PackageTypes). AllByRecursion (IsPackageSettled names store earlier) ps) (sym packages) (StandsSettled.packages stands);
    threads = subst (λ (ps : List ProgramTree). AllByRecursion (IsProgramSettled names store earlier) ps) (sym threads) (StandsSettled.threads stands);
  }

  -- behind a program
  settled_behind : (tables : TableColumns) (before : UnitsBefore) (u : DataProgram) (earlier : List UnitTree) → StandsSettled names store tables before earlier
      → StandsSettled names store (tables_behind tables (typed_unit tables before (unit_of_data u))) (units_behind tables (AData u) before) (earlier ++ typed_unit tables before (unit_of_data u) ∷ [])
  settled_behind tables before u earlier stands =
      let p = typed_unit tables before (unit_of_data u) in
      record {
        knows =
            subst (λ (made : List MentionedTable). KnowsTables store (tables_behind tables p) (made ++ before.names.made) (earlier ++ p ∷ []))
            (outputs_made (length earlier + 1) tables before (unit_of_data u) u.outputs ∙ ap (λ n. tables_made_by (n + 1) u.outputs) (StandsSettled.numbered stands))
            (behind_program store tables before.names.made earlier p (StandsSettled.knows stands));
        numbered = one_longer earlier p before.names.data_programs (StandsSettled.numbered stands);
        packages = packages_later names store earlier (p ∷ []) before.packages (StandsSettled.packages stands);
        threads = threads_later names store earlier (p ∷ []) before.threads (StandsSettled.threads stands);
      }

  -- the same by the program with what it reads from
  settled_behind_program : (tables : TableColumns) (before : UnitsBefore) (u : DataProgram) (earlier : List ProgramTree) → StandsSettled names store tables before (map reader_of earlier)
      → StandsSettled names store (tables_behind tables (reader_of (typed_program tables before (unit_of_data u)))) (units_behind tables (AData u) before)
      (map reader_of (earlier ++ typed_program tables before (unit_of_data u) ∷ []))
  settled_behind_program tables before u earlier stands =
      let q = typed_program tables before (unit_of_data u) in
      subst (λ (es : List UnitTree). StandsSettled names store (tables_behind tables (reader_of q)) (units_behind tables (AData u) before) es) (sym (map-append reader_of earlier (q ∷ [])))
      (subst (λ (p : UnitTree). StandsSettled names store (tables_behind tables p) (units_behind tables (AData u) before) (map reader_of earlier ++ p ∷ []))
      (sym (reader_made tables before (unit_of_data u))) (settled_behind tables before u (map reader_of earlier) stands))

  settled_parts : (tables : TableColumns) (before : UnitsBefore) (parts : List SourcePart) (earlier : List ProgramTree) → StandsSettled names store tables before (map reader_of earlier)
      → HasInputs names before.names parts → HasSettled names store earlier (elaborated_parts tables before parts)
  settled_parts tables before [] earlier stands inputs = tt
  settled_parts tables before (Proc keyword ds2 end ∷ parts) earlier stands inputs =
      let part = Proc keyword ds2 end in
      let behind = units_behind tables part before in
      settled_past names store earlier None (elaborated_parts tables behind parts)
      (settled_parts tables behind parts earlier (settled_no_unit tables before behind (map reader_of earlier) stands refl (omega arith) refl refl) (inputs_behind names tables before.names part parts inputs))
  settled_parts tables before (Run keyword end ∷ parts) earlier stands inputs =
      let part = Run keyword end in
      let behind = units_behind tables part before in
      settled_past names store earlier None (elaborated_parts tables behind parts)
      (settled_parts tables behind parts earlier (settled_no_unit tables before behind (map reader_of earlier) stands refl (omega arith) refl refl) (inputs_behind names tables before.names part parts inputs))
  settled_parts tables before (Quit keyword end ∷ parts) earlier stands inputs =
      let part = Quit keyword end in
      let behind = units_behind tables part before in
      settled_past names store earlier None (elaborated_parts tables behind parts)
      (settled_parts tables behind parts earlier (settled_no_unit tables before behind (map reader_of earlier) stands refl (omega arith) refl refl) (inputs_behind names tables before.names part parts inputs))
  settled_parts tables before (APackage u ∷ parts) earlier stands inputs =
      let part = APackage u in
      let own = unit_of_package u in
      let behind = units_behind tables part before in
      let is = package_settled names store tables before (map reader_of earlier) stands own (inputs_of_part names tables before.names part parts inputs) (spelled_name u.name) in
      settled_past names store earlier (unit_refusal tables before own) (elaborated_parts tables behind parts)
      (settled_parts tables behind parts earlier
      (record {
        knows = StandsSettled.knows stands;
        numbered = StandsSettled.numbered stands ∙ (let e : before.names.data_programs ≡ before.names.data_programs + 0 = omega arith in e);
        packages = (is, StandsSettled.packages stands);
        threads = StandsSettled.threads stands;
      })
      (inputs_behind names tables before.names part parts inputs))
  settled_parts tables before (AThread u ∷ parts) earlier stands inputs =
      let part = AThread u in
      let own = unit_of_thread u in
      let behind = units_behind tables part before in
      let is = program_settled names store tables before (map reader_of earlier) stands own (inputs_of_part names tables before.names part parts inputs) in
      settled_past names store earlier (unit_refusal tables before own) (elaborated_parts tables behind parts)
      (settled_parts tables behind parts earlier
      (record {
        knows = StandsSettled.knows stands;
        numbered = StandsSettled.numbered stands ∙ (let e : before.names.data_programs ≡ before.names.data_programs + 0 = omega arith in e);
        packages = StandsSettled.packages stands;
        threads = (is, StandsSettled.threads stands);
      })
      (inputs_behind names tables before.names part parts inputs))
  settled_parts tables before (AData u ∷ parts) earlier stands inputs =
      let part = AData u in
      let own = unit_of_data u in
      let q = typed_program tables before own in
      let behind = units_behind tables part before in
      settled_unless names store earlier (unit_refusal tables before own) q (elaborated_parts (tables_behind tables (reader_of q)) behind parts)
      (program_settled names store tables before (map reader_of earlier) stands own (inputs_of_part names tables before.names part parts inputs))
      (settled_parts (tables_behind tables (reader_of q)) behind parts (earlier ++ q ∷ []) (settled_behind_program tables before u earlier stands) (inputs_behind names tables before.names part parts inputs))

pub settled_source : (tables : TableColumns) (parts : List SourcePart) → HasSettled (names_alone (source_inputs parts)) tables [] (elaborated_source tables parts)
settled_source tables parts =
    settled_parts (names_alone (source_inputs parts)) tables tables (before_source parts) parts [] (record { knows = store_alone tables; numbered = refl; packages = tt; threads = tt })
    (record { seen = λ name h. absurd (cc h); more = λ name h. h })
