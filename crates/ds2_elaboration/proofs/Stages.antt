-- The thread program that a unit reads from, and the variables of the unit.
use Rattle.std.proofs.Common.{◌≡◌, ℕ, bytes_eq, true, false, not, List, [], ◌∷◌, ◌++◌, map, filter, is_some, option_map, option_and_then, Option, Some, None, refl, sym, ap, ◌∙◌, subst, append-nil}
use Rattle.std.specs.List.{AllByRecursion}
use Rattle.std.specs.Option.{option_map_or}
use Rattle.std.proofs.lemmas.Bool.{and_parts}
use Rattle.ds2_token.specs.declared.token.Token.{Token}
use Rattle.ds2_tree.specs.declared.readings.Reading as source_reading
use Rattle.ds2_tree.specs.declared.readings.Reading.TheVariants as read_as
use Rattle.ds2_value.specs.Row.{Columns}
use Rattle.ds2_value.specs.Schema.{distinct_names, types_in_bounds, is_schema}
use Rattle.ds2_value.specs.declared.schema.Column.{Column}
use Rattle.ds2_meaning.specs.declared.globals.OutputTable as typed_output
use Rattle.ds2_meaning.specs.declared.globals.Variable as typed
use Rattle.ds2_meaning.specs.IsTyped.{are_distinct, variable_names, AreTypedOutputs, IsTypedUnit, IsTypedProgram}
use Rattle.ds2_meaning.specs.ProgramTree.{ProgramTree, OverTables, OverStage, data_vector, is_listed, reader_of}
use Rattle.ds2_names.specs.NameRules.{later_places}
use Rattle.ds2_names.specs.SourceUnit.{TableColumns, UnitSource, spelled_name, names_alone, InstanceOf, AnyPackage, HashObject, HashIterator, AnyThread, SourceInstance, instance_named, KnownThread, thread_of_instance, tables_of_reading, new_columns, stage_token, stage_columns_at, columns_of_stage, SourceNames, PlacedName, instance_names, all_globals}
use Rattle.ds2_elaboration.specs.SourceTypes.{unit_names, unit_stage, vector_variables}
use Rattle.ds2_elaboration.specs.TypedPrograms.{IsOneOutput, ThreadStands, UnitsStand, row_names}
use Rattle.ds2_elaboration.specs.UnitsBefore.{UnitsBefore, has_thread_name, typed_thread_named, thread_of_sort, typed_stage, columns_of_one, typed_stage_columns}
use Rattle.ds2_elaboration.proofs.Distinct.{NoneListed, AreNew, distinct_append, all_columns_new, distinct_kept, unlisted_names, column_names_distinct, vector_variable_names, vector_is}
use Rattle.ds2_elaboration.proofs.Instances.{all_distinct, declared_distinct}
use Rattle.ds2_elaboration.proofs.Lookups.{of_found, found_passes}
use Rattle.ds2_elaboration.proofs.Units.{StandsAsUnit}

-- ---- thread programs by their names

-- a thread program has a name
has_a_name : (found : Option (List ℕ)) (name : List ℕ) → option_map_or (λ (own : List ℕ). bytes_eq own name) found false ≡ true → is_some found ≡ true
has_a_name None name h = cc
has_a_name (Some own) name h = refl

-- a thread program that is there, with its name
pub record ThreadIsThere (p : ProgramTree) : Type 0 where
  pub stands : ThreadStands p
  pub named : is_some (reader_of p).thread ≡ true

pub thread_there : (threads : List ProgramTree) → AllByRecursion ThreadStands threads → (name : List ℕ) (p : ProgramTree) → typed_thread_named threads name ≡ Some p
    → ThreadIsThere p
thread_there threads f name p h = record {
  stands = of_found ThreadStands (has_thread_name name) threads p f h;
  named = has_a_name (reader_of p).thread name (found_passes (has_thread_name name) threads p h);
}

sort_there : (threads : List ProgramTree) → AllByRecursion ThreadStands threads → (sort : InstanceOf) (p : ProgramTree) → thread_of_sort threads sort ≡ Some p → ThreadIsThere p
sort_there threads f (AnyPackage package' arguments) p h = cc
sort_there threads f (HashObject keys items table) p h = cc
sort_there threads f (HashIterator hash) p h = cc
sort_there threads f (AnyThread thread) p h = thread_there threads f (spelled_name thread) p h

instance_there : (threads : List ProgramTree) → AllByRecursion ThreadStands threads → (found : Option SourceInstance) (p : ProgramTree)
    → option_and_then (λ (i : SourceInstance). thread_of_sort threads i.sort) found ≡ Some p → ThreadIsThere p
instance_there threads f None p h = cc
instance_there threads f (Some i) p h = sort_there threads f i.sort p h

-- the thread program that is read from
pub stage_there : (threads : List ProgramTree) → AllByRecursion ThreadStands threads → (instances : List SourceInstance) (token : Option Token) (p : ProgramTree)
    → typed_stage threads instances token ≡ Some p → ThreadIsThere p
stage_there threads f instances None p h = cc
stage_there threads f instances (Some t) p h = instance_there threads f (instance_named instances (spelled_name t)) p h

pub reader_typed : (p : ProgramTree) → IsTypedProgram p → IsTypedUnit (reader_of p)
reader_typed (OverTables p) h = h.0
reader_typed (OverStage p stage) h = h.0

one_schema : (variables : List typed.Variable) (outputs : List typed_output.OutputTable) → AreTypedOutputs variables outputs → IsOneOutput outputs
    → is_schema (columns_of_one outputs) ≡ true
one_schema variables [] h o = absurd o
one_schema variables (output ∷ []) h o = h.1
one_schema variables (output ∷ (second ∷ outputs)) h o = absurd o

found_schema : (found : Option ProgramTree) → ((p : ProgramTree) → found ≡ Some p → ThreadIsThere p) → is_schema (typed_stage_columns found) ≡ true
found_schema None f = refl
found_schema (Some p) f =
    let there = f p refl in one_schema (data_vector (reader_of p)) (reader_of p).outputs (reader_typed p there.stands.typed).outputs there.stands.output

module _ (tables : TableColumns) (before : UnitsBefore) (u : UnitSource) (stand : UnitsStand before) where
  abbrev names_here : SourceNames
  names_here = unit_names tables before u

  pub stage_schema : is_schema (typed_stage_columns (unit_stage tables before u)) ≡ true
  stage_schema =
      found_schema (unit_stage tables before u) (λ p h. stage_there before.threads stand.threads names_here.instances (stage_token names_here.reading) p h)

  pub stage_types : types_in_bounds (typed_stage_columns (unit_stage tables before u)) ≡ true
  stage_types =
      let columns = typed_stage_columns (unit_stage tables before u) in (and_parts (distinct_names columns) (types_in_bounds columns) stage_schema).1

  -- ---- the columns of the thread program, as the rules of names know them

  -- the columns that are known of an instance's thread program, and those that it has
  abbrev known_columns : Option KnownThread → Option (List (List ℕ))
  known_columns found = option_map (λ (t : KnownThread). t.columns) found

  abbrev own_columns : Option ProgramTree → Option (List (List ℕ))
  own_columns found = option_map (λ (p : ProgramTree). row_names (reader_of p)) found

  sort_columns : (keyword name : Token) (sort : InstanceOf)
      → known_columns (thread_of_instance before.names.known (Some (record { keyword = keyword; name = name; sort = sort }))) ≡ own_columns (thread_of_sort before.threads sort)
  sort_columns keyword name (AnyPackage package' arguments) = refl
  sort_columns keyword name (HashObject keys items table) = refl
  sort_columns keyword name (HashIterator hash) = refl
  sort_columns keyword name (AnyThread thread) = stand.thread_columns (spelled_name thread)

  found_columns : (found : Option SourceInstance)
      → known_columns (thread_of_instance before.names.known found) ≡ own_columns (option_and_then (λ (i : SourceInstance). thread_of_sort before.threads i.sort) found)
  found_columns None = refl
  found_columns (Some i) = sort_columns i.keyword i.name i.sort

  abbrev column_names : Columns → List (List ℕ)
  column_names columns = map (λ (c : Column). c.name) columns

  alone_placed : (t : Token) (names : List (List ℕ)) → names_alone (map (λ name. record { name = name; place = t.place }) names) ≡ names
  alone_placed t [] = refl
  alone_placed t (name ∷ names) = ap (λ ns. name ∷ ns) (alone_placed t names)

  by_columns : (declared : List (List ℕ)) (t : Token) (known : Option KnownThread) (own : Option ProgramTree) → known_columns known ≡ own_columns own
      → names_alone (stage_columns_at declared t.place known) ≡ filter (λ name. not (is_listed declared name)) (column_names (typed_stage_columns own))
  by_columns declared t None None e = refl
  by_columns declared t None (Some p) e = cc
  by_columns declared t (Some k) None e = cc
  by_columns declared t (Some k) (Some p) e =
      alone_placed t (filter (λ name. not (is_listed declared name)) k.columns) ∙ ap (λ ns. filter (λ name. not (is_listed declared name)) ns) (same_names k.columns (row_names (reader_of p)) e)
    where
      same_names : (a b : List (List ℕ)) → Some a ≡ Some b → a ≡ b
      same_names a b h = cc

  -- the names that `set from` adds are those of the columns of the thread program that are not declared
  pub stage_names : (declared : List (List ℕ)) (instances : List SourceInstance) (token : Option Token)
      → names_alone (columns_of_stage before.names.known instances declared token)
      ≡ filter (λ name. not (is_listed declared name)) (column_names (typed_stage_columns (typed_stage before.threads instances token)))
  stage_names declared instances None = refl
  stage_names declared instances (Some t) =
      let found = instance_named instances (spelled_name t) in
      by_columns declared t (thread_of_instance before.names.known found) (option_and_then (λ (i : SourceInstance). thread_of_sort before.threads i.sort) found) (found_columns found)

  -- ---- the columns that a unit adds to its declared variables

  abbrev added_columns : List (List ℕ) → Option source_reading.Reading → List PlacedName
  added_columns declared reading =
      new_columns tables declared (tables_of_reading reading) ++ columns_of_stage before.names.known names_here.instances declared (stage_token reading)

  added_new : (declared : List (List ℕ)) (reading : Option source_reading.Reading)
      → is_schema (typed_stage_columns (typed_stage before.threads names_here.instances (stage_token reading))) ≡ true → AreNew declared (added_columns declared reading)
  added_new declared None s = (refl, tt)
  added_new declared (Some (read_as.Set keyword inputs end by)) s =
      let own = new_columns tables declared inputs in subst (λ (ns : List PlacedName). AreNew declared ns) (sym (append-nil own)) (all_columns_new tables declared inputs)
  added_new declared (Some (read_as.SetFrom keyword from instance threads end)) s =
      let columns = typed_stage_columns (typed_stage before.threads names_here.instances (Some instance)) in
      let e = stage_names declared names_here.instances (Some instance) in
      let distinct = column_names_distinct columns (and_parts (distinct_names columns) (types_in_bounds columns) s).0 in (
        ap are_distinct e ∙ distinct_kept (λ name. not (is_listed declared name)) (column_names columns) distinct,
        subst (λ (ns : List (List ℕ)). NoneListed declared ns) (sym e) (unlisted_names declared (column_names columns)),
      )
  added_new declared (Some (read_as.Merge keyword inputs retain end by)) s =
      let own = new_columns tables declared inputs in subst (λ (ns : List PlacedName). AreNew declared ns) (sym (append-nil own)) (all_columns_new tables declared inputs)

  pub columns_added : AreNew (names_alone names_here.declared) names_here.columns
  columns_added = added_new (names_alone names_here.declared) names_here.reading stage_schema

  -- ---- the variables of a unit

  module _ (source : StandsAsUnit u) (once : later_places (all_globals names_here) ≡ []) where
    -- the variables of the vector have distinct names
    pub vector_distinct : are_distinct (variable_names (vector_variables tables before u)) ≡ true
    vector_distinct =
        ap are_distinct (vector_variable_names tables before u)
        ∙ distinct_append (names_alone names_here.declared) (names_alone names_here.columns) (declared_distinct tables before.names.known u source once) columns_added.0 columns_added.1

    -- and no instance has the name of one of them
    pub given_distinct : are_distinct (variable_names (vector_variables tables before u) ++ names_alone (instance_names names_here)) ≡ true
    given_distinct =
        let e = vector_is tables before u in
        ap (λ ns. are_distinct (ns ++ names_alone (instance_names names_here))) (sym e)
        ∙ all_distinct tables before.names.known u source once (ap are_distinct e ∙ vector_distinct)
