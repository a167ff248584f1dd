-- Behind typed units and one more that is typed, all are.
use Rattle.std.proofs.Common.{◌≡◌, ℕ, Bool, true, false, List, [], ◌∷◌, bytes_eq, length, map, option_map, if◌then◌else◌, Option, Some, None, refl, sym, ap, ◌∙◌}
use Rattle.std.specs.Option.{option_map_or}
use Rattle.ds2_tree.specs.Globals.{Method}
use Rattle.ds2_tree.specs.Units.{Package, Thread, DataProgram, APackage, AThread, AData, package_spelling}
use Rattle.ds2_tree.specs.declared.globals.Parameter as source_parameter
use Rattle.ds2_value.specs.declared.schema.Column.{Column}
use Rattle.ds2_meaning.specs.ProgramTree.{UnitTree, ProgramTree, reader_of}
use Rattle.ds2_meaning.specs.declared.globals.OutputColumn.{OutputColumn}
use Rattle.ds2_meaning.specs.declared.globals.Variable.{Variable}
use Rattle.ds2_names.specs.NameRules.{columns_left}
use Rattle.ds2_names.specs.SourceLimits.{chain_length}
use Rattle.ds2_names.specs.SourceUnit.{TableColumns, UnitSource, KnownPackage, KnownThread, package_named, thread_named, placed_name, names_alone, source_methods, spelled_name, unit_of_package, unit_of_thread}
use Rattle.ds2_elaboration.specs.Elaboration.{units_behind}
use Rattle.ds2_elaboration.specs.ElaborationLaws.{OneOutcome}
use Rattle.ds2_elaboration.specs.Elaboration.{unit_refusal}
use Rattle.ds2_elaboration.specs.ProgramTypes.{made_column, typed_program, typed_package}
use Rattle.ds2_elaboration.specs.SourceTypes.{parameter_variables, spelled_type, unit_names, vector_variables}
use Rattle.ds2_elaboration.specs.TypedPrograms.{EveryUnitIsTyped, HaveSchemas, PackageStands, StandsInSource, ThreadStands, UnitsStand, known_methods, parameter_names, row_names}
use Rattle.ds2_elaboration.specs.UnitsBefore.{PackageTypes, UnitsBefore, has_thread_name, package_types, typed_thread_named}
use Rattle.ds2_compile.proofs.UnitOutcomes.{reader_made}

-- ---- names of columns and parameters

-- the names of the columns of an output without renamings
column_names_are : (variables : List Variable) (names : List (List ℕ))
    → map (λ (c : Column). c.name) (map (λ (c : OutputColumn). record { name = c.name; ty = c.ty }) (map (made_column variables []) names)) ≡ names
column_names_are variables [] = refl
column_names_are variables (name ∷ names) = ap (λ ns. name ∷ ns) (column_names_are variables names)

parameter_names_are : (ps : List source_parameter.Parameter)
    → names_alone (map (λ (p : source_parameter.Parameter). placed_name p.name) ps)
    ≡ map (λ (v : Variable). v.name) (map (λ (p : source_parameter.Parameter). record { name = spelled_name p.name; ty = spelled_type p.ty }) ps)
parameter_names_are [] = refl
parameter_names_are (p ∷ ps) = ap (λ ns. spelled_name p.name ∷ ns) (parameter_names_are ps)

-- ---- one more unit among those of a name

one_more_package : (here : Bool) (known : KnownPackage) (own : PackageTypes) (others : Option KnownPackage) (further : Option PackageTypes)
    → known.methods ≡ own.sources → known_methods others ≡ option_map (λ (p : PackageTypes). p.sources) further
    → known_methods (if here then Some known else others) ≡ option_map (λ (p : PackageTypes). p.sources) (if here then Some own else further)
one_more_package true known own others further e f = ap (λ (ms : List Method). Some ms) e
one_more_package false known own others further e f = f

one_more_thread : {A : Type 0} (f : KnownThread → A) (g : ProgramTree → A) (here there : Bool) (known : KnownThread) (own : ProgramTree) (others : Option KnownThread) (further : Option ProgramTree)
    → here ≡ there → f known ≡ g own → option_map f others ≡ option_map g further
    → option_map f (if here then Some known else others) ≡ option_map g (if there then Some own else further)
one_more_thread f g true true known own others further s e h = ap (λ x. Some x) e
one_more_thread f g true false known own others further s e h = absurd (cc s)
one_more_thread f g false true known own others further s e h = absurd (cc s)
one_more_thread f g false false known own others further s e h = h

-- ---- what stands behind a unit

module _ (tables : TableColumns) (before : UnitsBefore) (stand : UnitsStand before) where
  pub data_behind : (u : DataProgram) → UnitsStand (units_behind tables (AData u) before)
  data_behind u = record {
    packages = stand.packages;
    threads = stand.threads;
    package_methods = λ name. stand.package_methods name;
    thread_parameters = λ name. stand.thread_parameters name;
    thread_columns = λ name. stand.thread_columns name;
  }

  package_added : (u : Package) → PackageStands (typed_package tables before (unit_of_package u) (spelled_name u.name)) → UnitsStand (units_behind tables (APackage u) before)
  package_added u typed = record {
    packages = (typed, stand.packages);
    threads = stand.threads;
    package_methods = λ name.
        one_more_package (bytes_eq (spelled_name u.name) name) (record { name = spelled_name u.name; methods = source_methods u.globals; tokens = length (package_spelling u) })
        (typed_package tables before (unit_of_package u) (spelled_name u.name)) (package_named before.names.known name) (package_types before.packages name) refl (stand.package_methods name);
    thread_parameters = λ name. stand.thread_parameters name;
    thread_columns = λ name. stand.thread_columns name;
  }

  pub package_behind : OneOutcome → EveryUnitIsTyped → (u : Package) → StandsInSource (APackage u) → HaveSchemas tables → unit_refusal tables before (unit_of_package u) ≡ None
      → UnitsStand (units_behind tables (APackage u) before)
  package_behind one every u source schemas none = package_added u (every tables before (APackage u) source schemas stand (one.breaks_no_rule tables before (unit_of_package u) none))

  module _ (u : Thread) where
    abbrev own_unit : UnitSource
    own_unit = unit_of_thread u

    abbrev own_program : ProgramTree
    own_program = typed_program tables before own_unit

    abbrev known_thread : KnownThread
    known_thread = record {
      name = spelled_name u.name;
      parameters = names_alone (unit_names tables before own_unit).parameters;
      columns = columns_left (unit_names tables before own_unit) [];
      chain = chain_length before.names.known (unit_names tables before own_unit).instances;
    }

    same_name : (name : List ℕ) → bytes_eq (spelled_name u.name) name ≡ has_thread_name name own_program
    same_name name = ap (λ (p : UnitTree). option_map_or (λ (own : List ℕ). bytes_eq own name) p.thread false) (sym (reader_made tables before own_unit))

    same_parameters : known_thread.parameters ≡ parameter_names (reader_of own_program)
    same_parameters = parameter_names_are own_unit.parameters ∙ ap (λ (p : UnitTree). parameter_names p) (sym (reader_made tables before own_unit))

    same_columns : known_thread.columns ≡ row_names (reader_of own_program)
    same_columns =
        sym (column_names_are (vector_variables tables before own_unit) (columns_left (unit_names tables before own_unit) []))
        ∙ ap (λ (p : UnitTree). row_names p) (sym (reader_made tables before own_unit))

    thread_added : ThreadStands own_program → UnitsStand (units_behind tables (AThread u) before)
    thread_added typed = record {
      packages = stand.packages;
      threads = (typed, stand.threads);
      package_methods = λ name. stand.package_methods name;
      thread_parameters = λ name.
          one_more_thread (λ (t : KnownThread). t.parameters) (λ (p : ProgramTree). parameter_names (reader_of p)) (bytes_eq (spelled_name u.name) name) (has_thread_name name own_program)
          known_thread own_program (thread_named before.names.known name) (typed_thread_named before.threads name) (same_name name) same_parameters (stand.thread_parameters name);
      thread_columns = λ name.
          one_more_thread (λ (t : KnownThread). t.columns) (λ (p : ProgramTree). row_names (reader_of p)) (bytes_eq (spelled_name u.name) name) (has_thread_name name own_program)
          known_thread own_program (thread_named before.names.known name) (typed_thread_named before.threads name) (same_name name) same_columns (stand.thread_columns name);
    }

    pub thread_behind : OneOutcome → EveryUnitIsTyped → StandsInSource (AThread u) → HaveSchemas tables → unit_refusal tables before (unit_of_thread u) ≡ None
        → UnitsStand (units_behind tables (AThread u) before)
    thread_behind one every source schemas none = thread_added (every tables before (AThread u) source schemas stand (one.breaks_no_rule tables before (unit_of_thread u) none))
