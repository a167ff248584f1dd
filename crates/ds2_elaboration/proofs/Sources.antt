-- Units that break no rule become typed, and so do the programs of a source that is not refused.
use Rattle.std.proofs.Common.{◌≡◌, ℕ, bytes_eq, Bool, true, false, List, [], ◌∷◌, ◌++◌, length, map, option_map, if◌then◌else◌, Option, Some, None, Result, Ok, Err, refl, sym, ap, ◌∙◌, subst}
use Rattle.std.specs.List.{AllByRecursion}
use Rattle.std.specs.Option.{option_map_or}
use Rattle.ds2_base.specs.declared.place.Place.{Place}
use Rattle.ds2_token.specs.declared.token.Token.{Token}
use Rattle.ds2_tree.specs.Globals.{Method}
use Rattle.ds2_tree.specs.Units.{Package, Thread, DataProgram, SourcePart, Proc, Run, Quit, APackage, AThread, AData, package_spelling}
use Rattle.ds2_value.specs.Row.{Columns}
use Rattle.ds2_value.specs.Schema.{is_schema}
use Rattle.ds2_value.specs.Types.{JoinTakesBoth, TakesItself, TakesOnward}
use Rattle.ds2_value.specs.declared.schema.Column.{Column}
use Rattle.ds2_meaning.specs.declared.globals.OutputColumn.{OutputColumn}
use Rattle.ds2_meaning.specs.declared.globals.OutputTable as typed_output
use Rattle.ds2_meaning.specs.declared.globals.Variable as typed
use Rattle.ds2_meaning.specs.IsTyped.{IsTypedProgram, IsTypedDataProgram}
use Rattle.ds2_meaning.specs.ProgramMeaning.{output_columns}
use Rattle.ds2_meaning.specs.ProgramTree.{UnitTree, ProgramTree, reader_of}
use Rattle.ds2_names.specs.NameRules.{columns_left}
use Rattle.ds2_names.specs.SourceLimits.{chain_length}
use Rattle.ds2_names.specs.SourceUnit.{TableColumns, UnitSource, KnownPackage, KnownThread, package_named, thread_named, unit_of_package, unit_of_thread, unit_of_data, spelled_name, names_alone, source_methods, is_package}
use Rattle.ds2_elaboration.specs.Elaboration.{ProgramRefusal, made_columns, tables_behind_part, threads_in, program_in, before_source, units_behind, part_refusal, with_programs, elaborated_parts, threads_of_parts}
use Rattle.ds2_elaboration.specs.ElaborationLaws.{BreaksNoRule}
use Rattle.ds2_elaboration.specs.ProgramTypes.{made_column, typed_unit, typed_program, typed_package}
use Rattle.ds2_elaboration.specs.SourceTypes.{unit_names, vector_variables}
use Rattle.ds2_elaboration.specs.TypedPrograms.{StandsInSource, HaveSchemas, PackageStands, IsOneOutput, ThreadStands, known_methods, parameter_names, row_names, UnitsStand, MethodsAreTyped, HasTypedMethods, EveryMethodIsTyped, BecomesTyped, EveryUnitIsTyped, EverySourceIsTyped, EveryThreadIsTyped}
use Rattle.ds2_elaboration.specs.UnitsBefore.{PackageTypes, UnitsBefore, package_types, has_thread_name, typed_thread_named}
use Rattle.ds2_elaboration.proofs.Constructors.{init_typed}
use Rattle.ds2_elaboration.proofs.Facts.{JoinLaws, UnitHolds}
use Rattle.ds2_elaboration.proofs.Hashes.{parameter_names_of}
use Rattle.ds2_elaboration.proofs.Lookups.{all_append}
use Rattle.ds2_elaboration.proofs.Methods.{program_methods, run_typed, term_typed}
use Rattle.ds2_elaboration.proofs.Outcome.{one_outcome}
use Rattle.ds2_elaboration.proofs.Outputs.{HasSchema, output_schemas}
use Rattle.ds2_elaboration.proofs.Packages.{package_typed}
use Rattle.ds2_elaboration.proofs.Programs.{program_typed, reader_is}
use Rattle.ds2_elaboration.proofs.Units.{package_stands, thread_stands, data_stands}

-- ---- the tables behind a program

made_if : (b : Bool) (own others : Columns) → is_schema own ≡ true → is_schema others ≡ true → is_schema (if b then own else others) ≡ true
made_if true own others f g = f
made_if false own others f g = g

made_schema : (outputs : List typed_output.OutputTable) (name : List ℕ) (others : Columns) → AllByRecursion HasSchema outputs → is_schema others ≡ true
    → is_schema (made_columns outputs name others) ≡ true
made_schema [] name others f g = g
made_schema (o ∷ outputs) name others f g =
    made_if (bytes_eq o.name name) (output_columns o) (made_columns outputs name others) f.0 (made_schema outputs name others f.1 g)

-- ---- what is known of units behind others

-- the names of the columns of an output without renamings
column_names_of : (variables : List typed.Variable) (names : List (List ℕ))
    → map (λ (c : Column). c.name) (map (λ (c : OutputColumn). record { name = c.name; ty = c.ty }) (map (made_column variables []) names)) ≡ names
column_names_of variables [] = refl
column_names_of variables (name ∷ names) = ap (λ ns. name ∷ ns) (column_names_of variables names)

found_methods : (b : Bool) (known : KnownPackage) (own : PackageTypes) (others : Option KnownPackage) (further : Option PackageTypes)
    → known.methods ≡ own.sources → known_methods others ≡ option_map (λ (p : PackageTypes). p.sources) further
    → known_methods (if b then Some known else others) ≡ option_map (λ (p : PackageTypes). p.sources) (if b then Some own else further)
found_methods true known own others further e f = ap (λ (ms : List Method). Some ms) e
found_methods false known own others further e f = f

found_threads : {A : Type 0} (f : KnownThread → A) (g : ProgramTree → A) (b c : Bool) (known : KnownThread) (own : ProgramTree) (others : Option KnownThread) (further : Option ProgramTree)
    → b ≡ c → f known ≡ g own → option_map f others ≡ option_map g further
    → option_map f (if b then Some known else others) ≡ option_map g (if c then Some own else further)
found_threads f g true true known own others further s e h = ap (λ x. Some x) e
found_threads f g true false known own others further s e h = cc
found_threads f g false true known own others further s e h = cc
found_threads f g false false known own others further s e h = h

-- what a source becomes where no part is refused
record TypedFrom (refusal : Option ProgramRefusal) (own : List ProgramTree) (others : Result (List ProgramTree) ProgramRefusal) (programs : List ProgramTree) : Type 0 where
  accepted : refusal ≡ None
  rest : List ProgramTree
  there : others ≡ Ok rest
  all : own ++ rest ≡ programs

same_programs : (a b : List ProgramTree) (made : Result (List ProgramTree) ProgramRefusal) → made ≡ Ok a → made ≡ Ok b → a ≡ b
same_programs a b made e f = cc

typed_from : (refusal : Option ProgramRefusal) (own : List ProgramTree) (others : Result (List ProgramTree) ProgramRefusal) (programs : List ProgramTree)
    → with_programs refusal own others ≡ Ok programs → TypedFrom refusal own others programs
typed_from (Some refusal) own others programs h = cc
typed_from None own (Ok rest) programs h = record { accepted = refl; rest = rest; there = refl; all = same_programs (own ++ rest) programs (Ok (own ++ rest)) refl h }
typed_from None own (Err refusal) programs h = cc

module _ (laws : JoinLaws) (tables : TableColumns) (before : UnitsBefore) (schemas : HaveSchemas tables) (stand : UnitsStand before) where
  -- ---- one unit

  package_holds : (u : Package) → StandsInSource (APackage u) → BreaksNoRule tables before (unit_of_package u) → UnitHolds tables before (unit_of_package u)
  package_holds u source rules = record { source = package_stands u source; schemas = schemas; stand = stand; rules = rules }

  thread_holds : (u : Thread) → StandsInSource (AThread u) → BreaksNoRule tables before (unit_of_thread u) → UnitHolds tables before (unit_of_thread u)
  thread_holds u source rules = record { source = thread_stands u source; schemas = schemas; stand = stand; rules = rules }

  data_holds : (u : DataProgram) → StandsInSource (AData u) → BreaksNoRule tables before (unit_of_data u) → UnitHolds tables before (unit_of_data u)
  data_holds u source rules = record { source = data_stands u source; schemas = schemas; stand = stand; rules = rules }

  thread_program : (u : Thread) → StandsInSource (AThread u) → BreaksNoRule tables before (unit_of_thread u) → ThreadStands (typed_program tables before (unit_of_thread u))
  thread_program u source rules = record {
    typed = program_typed laws tables before (unit_of_thread u) (thread_holds u source rules) refl tt;
    output = subst (λ (p : UnitTree). IsOneOutput p.outputs) (sym (reader_is tables before (unit_of_thread u))) tt;
  }

  data_program : (u : DataProgram) → StandsInSource (AData u) → BreaksNoRule tables before (unit_of_data u) → IsTypedDataProgram (typed_program tables before (unit_of_data u))
  data_program u source rules = (
    program_typed laws tables before (unit_of_data u) (data_holds u source rules) refl refl,
    ap (λ (p : UnitTree). p.thread) (reader_is tables before (unit_of_data u)),
  )

  unit_becomes : (part : SourcePart) → StandsInSource part → BecomesTyped tables before part
  unit_becomes (Proc keyword ds2 end) source = tt
  unit_becomes (Run keyword end) source = tt
  unit_becomes (Quit keyword end) source = tt
  unit_becomes (APackage u) source = λ rules. package_typed laws tables before u (package_holds u source rules)
  unit_becomes (AThread u) source = λ rules. thread_program u source rules
  unit_becomes (AData u) source = λ rules. data_program u source rules

  methods_of_program : (u : UnitSource) → UnitHolds tables before u → is_package u.kind ≡ false → MethodsAreTyped (typed_unit tables before u)
  methods_of_program u given runs = record {
    methods = program_methods laws tables before u given runs;
    init = init_typed laws tables before u given runs;
    run = run_typed laws tables before u given runs;
    term = term_typed laws tables before u given runs;
  }

  methods_become : (part : SourcePart) → StandsInSource part → HasTypedMethods tables before part
  methods_become (Proc keyword ds2 end) source = tt
  methods_become (Run keyword end) source = tt
  methods_become (Quit keyword end) source = tt
  methods_become (APackage u) source = tt
  methods_become (AThread u) source = λ rules. methods_of_program (unit_of_thread u) (thread_holds u source rules) refl
  methods_become (AData u) source = λ rules. methods_of_program (unit_of_data u) (data_holds u source rules) refl

  -- ---- what stands behind a unit

  -- what comes of a part of a source that is not refused
  record PartOutcome (part : SourcePart) : Type 0 where
    pub behind : UnitsStand (units_behind tables part before)
    pub columns : HaveSchemas (tables_behind_part tables before part)
    pub programs : AllByRecursion IsTypedDataProgram (program_in tables before part)
    pub threads : AllByRecursion IsTypedProgram (threads_in tables before part)

  nothing_comes : (part : SourcePart) → UnitsStand (units_behind tables part before) → HaveSchemas (tables_behind_part tables before part)
      → program_in tables before part ≡ [] → threads_in tables before part ≡ [] → PartOutcome part
  nothing_comes part f g p t = record {
    behind = f;
    columns = g;
    programs = subst (λ (ps : List ProgramTree). AllByRecursion IsTypedDataProgram ps) (sym p) tt;
    threads = subst (λ (ps : List ProgramTree). AllByRecursion IsTypedProgram ps) (sym t) tt;
  }

  behind_proc : (keyword ds2 : Token) (end : Place) → UnitsStand (units_behind tables (Proc keyword ds2 end) before)
  behind_proc keyword ds2 end = record {
    packages = stand.packages;
    threads = stand.threads;
    package_methods = λ name. stand.package_methods name;
    thread_parameters = λ name. stand.thread_parameters name;
    thread_columns = λ name. stand.thread_columns name;
  }

  behind_run : (keyword : Token) (end : Place) → UnitsStand (units_behind tables (Run keyword end) before)
  behind_run keyword end = record {
    packages = stand.packages;
    threads = stand.threads;
    package_methods = λ name. stand.package_methods name;
    thread_parameters = λ name. stand.thread_parameters name;
    thread_columns = λ name. stand.thread_columns name;
  }

  behind_quit : (keyword : Token) (end : Place) → UnitsStand (units_behind tables (Quit keyword end) before)
  behind_quit keyword end = record {
    packages = stand.packages;
    threads = stand.threads;
    package_methods = λ name. stand.package_methods name;
    thread_parameters = λ name. stand.thread_parameters name;
    thread_columns = λ name. stand.thread_columns name;
  }

  behind_data : (u : DataProgram) → UnitsStand (units_behind tables (AData u) before)
  behind_data u = record {
    packages = stand.packages;
    threads = stand.threads;
    package_methods = λ name. stand.package_methods name;
    thread_parameters = λ name. stand.thread_parameters name;
    thread_columns = λ name. stand.thread_columns name;
  }

  behind_package : (u : Package) → PackageStands (typed_package tables before (unit_of_package u) (spelled_name u.name)) → UnitsStand (units_behind tables (APackage u) before)
  behind_package u typed = record {
    packages = (typed, stand.packages);
    threads = stand.threads;
    package_methods = λ name.
        found_methods (bytes_eq (spelled_name u.name) name) (record { name = spelled_name u.name; methods = source_methods u.globals; tokens = length (package_spelling u) })
        (typed_package tables before (unit_of_package u) (spelled_name u.name)) (package_named before.names.known name) (package_types before.packages name) refl (stand.package_methods name);
    thread_parameters = λ name. stand.thread_parameters name;
    thread_columns = λ name. stand.thread_columns name;
  }

  module _ (u : Thread) where
    abbrev own_unit : UnitSource
    own_unit = unit_of_thread u

    abbrev own_program : ProgramTree
    own_program = typed_program tables before own_unit

    abbrev known_thread : KnownThread
    known_thread = record {
      name = spelled_name u.name;
      parameters = names_alone (unit_names tables before own_unit).parameters;
      columns = columns_left (unit_names tables before own_unit) [];
      chain = chain_length before.names.known (unit_names tables before own_unit).instances;
    }

    -- it is found by its name
    same_name : (name : List ℕ) → bytes_eq (spelled_name u.name) name ≡ has_thread_name name own_program
    same_name name = ap (λ (p : UnitTree). option_map_or (λ (own : List ℕ). bytes_eq own name) p.thread false) (sym (reader_is tables before own_unit))

    same_parameters : known_thread.parameters ≡ parameter_names (reader_of own_program)
    same_parameters = parameter_names_of own_unit ∙ ap (λ (p : UnitTree). parameter_names p) (sym (reader_is tables before own_unit))

    same_columns : known_thread.columns ≡ row_names (reader_of own_program)
    same_columns =
        sym (column_names_of (vector_variables tables before own_unit) (columns_left (unit_names tables before own_unit) []))
        ∙ ap (λ (p : UnitTree). row_names p) (sym (reader_is tables before own_unit))

    behind_thread : ThreadStands own_program → UnitsStand (units_behind tables (AThread u) before)
    behind_thread typed = record {
      packages = stand.packages;
      threads = (typed, stand.threads);
      package_methods = λ name. stand.package_methods name;
      thread_parameters = λ name.
          found_threads (λ (t : KnownThread). t.parameters) (λ (p : ProgramTree). parameter_names (reader_of p)) (bytes_eq (spelled_name u.name) name) (has_thread_name name own_program)
          known_thread own_program (thread_named before.names.known name) (typed_thread_named before.threads name) (same_name name) same_parameters (stand.thread_parameters name);
      thread_columns = λ name.
          found_threads (λ (t : KnownThread). t.columns) (λ (p : ProgramTree). row_names (reader_of p)) (bytes_eq (spelled_name u.name) name) (has_thread_name name own_program)
          known_thread own_program (thread_named before.names.known name) (typed_thread_named before.threads name) (same_name name) same_columns (stand.thread_columns name);
    }

  tables_behind_data : (u : DataProgram) → StandsInSource (AData u) → BreaksNoRule tables before (unit_of_data u) → HaveSchemas (tables_behind_part tables before (AData u))
  tables_behind_data u source rules =
      let made = output_schemas laws tables before (unit_of_data u) (data_holds u source rules) in
      let own = subst (λ (p : UnitTree). AllByRecursion HasSchema p.outputs) (sym (reader_is tables before (unit_of_data u))) made in
      λ name. made_schema (reader_of (typed_program tables before (unit_of_data u))).outputs name (tables name) own (schemas name)

  part_typed : (part : SourcePart) → StandsInSource part → part_refusal tables before part ≡ None → PartOutcome part
  part_typed (Proc keyword ds2 end) source h = nothing_comes (Proc keyword ds2 end) (behind_proc keyword ds2 end) schemas refl refl
  part_typed (Run keyword end) source h = nothing_comes (Run keyword end) (behind_run keyword end) schemas refl refl
  part_typed (Quit keyword end) source h = nothing_comes (Quit keyword end) (behind_quit keyword end) schemas refl refl
  part_typed (APackage u) source h =
      let rules = one_outcome.breaks_no_rule tables before (unit_of_package u) h in
      nothing_comes (APackage u) (behind_package u (package_typed laws tables before u (package_holds u source rules))) schemas refl refl
  part_typed (AThread u) source h =
      let typed = thread_program u source (one_outcome.breaks_no_rule tables before (unit_of_thread u) h) in
      record { behind = behind_thread u typed; columns = schemas; programs = tt; threads = (typed.typed, tt) }
  part_typed (AData u) source h =
      let rules = one_outcome.breaks_no_rule tables before (unit_of_data u) h in
      record {
        behind = behind_data u;
        columns = tables_behind_data u source rules;
        programs = (data_program u source rules, tt);
        threads = tt;
      }

-- ---- a source

-- its data programs and its thread programs
abbrev AreTypedParts : TableColumns → UnitsBefore → List SourcePart → List ProgramTree → Type 0
AreTypedParts tables before parts programs = AllByRecursion IsTypedDataProgram programs × AllByRecursion IsTypedProgram (threads_of_parts tables before parts)

parts_typed : (laws : JoinLaws) (tables : TableColumns) (before : UnitsBefore) (parts : List SourcePart) (programs : List ProgramTree) → HaveSchemas tables → UnitsStand before
    → AllByRecursion StandsInSource parts → elaborated_parts tables before parts ≡ Ok programs → AreTypedParts tables before parts programs
parts_typed laws tables before [] programs schemas stand source h =
    (subst (λ (ps : List ProgramTree). AllByRecursion IsTypedDataProgram ps) (same_programs [] programs (Ok []) refl h) tt, tt)
parts_typed laws tables before (part ∷ parts) programs schemas stand source h =
    let own = program_in tables before part in
    let further = elaborated_parts (tables_behind_part tables before part) (units_behind tables part before) parts in
    let from = typed_from (part_refusal tables before part) own further programs h in
    let outcome = part_typed laws tables before schemas stand part source.0 from.accepted in
    let rest = parts_typed laws (tables_behind_part tables before part) (units_behind tables part before) parts from.rest outcome.columns outcome.behind source.1 from.there in (
      subst (λ (ps : List ProgramTree). AllByRecursion IsTypedDataProgram ps) from.all (all_append IsTypedDataProgram own from.rest outcome.programs rest.0),
      all_append IsTypedProgram (threads_in tables before part) (threads_of_parts (tables_behind_part tables before part) (units_behind tables part before) parts) outcome.threads rest.1,
    )

-- nothing stands before the first unit
none_before : (parts : List SourcePart) → UnitsStand (before_source parts)
none_before parts = record {
  packages = tt;
  threads = tt;
  package_methods = λ name. refl;
  thread_parameters = λ name. refl;
  thread_columns = λ name. refl;
}

-- ---- the laws

abbrev join_laws : JoinTakesBoth → TakesItself → TakesOnward → JoinLaws
join_laws join itself onward = record { join = join; itself = itself; onward = onward }

pub every_method_is_typed : JoinTakesBoth → TakesItself → TakesOnward → EveryMethodIsTyped
every_method_is_typed join itself onward tables before part source schemas stand = methods_become (join_laws join itself onward) tables before schemas stand part source

pub every_unit_is_typed : JoinTakesBoth → TakesItself → TakesOnward → EveryUnitIsTyped
every_unit_is_typed join itself onward tables before part source schemas stand = unit_becomes (join_laws join itself onward) tables before schemas stand part source

pub every_source_is_typed : JoinTakesBoth → TakesItself → TakesOnward → EverySourceIsTyped
every_source_is_typed join itself onward tables parts programs schemas source h =
    (parts_typed (join_laws join itself onward) tables (before_source parts) parts programs schemas (none_before parts) source h).0

pub every_thread_is_typed : JoinTakesBoth → TakesItself → TakesOnward → EveryThreadIsTyped
every_thread_is_typed join itself onward tables parts programs schemas source h =
    (parts_typed (join_laws join itself onward) tables (before_source parts) parts programs schemas (none_before parts) source h).1
