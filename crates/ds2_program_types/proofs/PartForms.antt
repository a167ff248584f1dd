-- A typed program of its parts.
use Rattle.std.proofs.Common.{◌≡◌, cond, Bool, true, false, if◌then◌else◌, bytes_eq, codes, List, [], ◌∷◌, map, Option, Some, None, refl, sym, ap, ◌∙◌}
use Rattle.std.specs.Option.{option_map}
use Rattle.ds2_tree.specs.Globals.{Method}
use Rattle.ds2_tree.specs.declared.readings.Reading as source
use Rattle.ds2_tree.specs.declared.readings.Reading.TheVariants as read_as
use Rattle.ds2_value.specs.Row.{Columns}
use Rattle.ds2_meaning.specs.ProgramTree.{BodyTree}
use Rattle.ds2_meaning.specs.View.{typed_method, system_tree, instance_tree, init_tree, reading_with_run, unit_tree}
use Rattle.ds2_meaning.specs.declared.methods.SystemMethod.{SystemMethod}
use Rattle.ds2_meaning.specs.declared.readings.MentionedTable.{MentionedTable}
use Rattle.ds2_meaning.specs.declared.units.Program.{Program}
use Rattle.ds2_names.specs.SourceUnit.{TableColumns, UnitKind, OfPackage, OfThread, OfData, UnitSource, is_package, names_alone, spelled_name, source_methods, reading_of_run, vector_names}
use Rattle.ds2_names.specs.Uses.{method_named}
use Rattle.ds2_elaboration.specs.ExpressionTypes.{callable_methods}
use Rattle.ds2_elaboration.specs.ProgramTypes.{method_tree_of, methods_to_call, read_statement, reading_of_method, scope_of_declarations, system_body, typed_unit, unit_outputs}
use Rattle.ds2_elaboration.specs.SourceTypes.{parameter_variables, unit_names, unit_stage, vector_variables}
use Rattle.ds2_elaboration.specs.UnitsBefore.{UnitsBefore, typed_stage_columns}
use Rattle.ds2_instance_types.specs.TypedInstanceLists.{AreInstancesOf}
use Rattle.ds2_instance_types.specs.declared.instances.TypedInstances.{TypedInstances}
use Rattle.ds2_unit_parts.specs.TypedOutputs.{outputs_over}
use Rattle.ds2_program_types.specs.ProgramParts.{ArePartsOf, IsMadeOf}
use Rattle.ds2_program_types.specs.TypedMethodLists.{AreMethodsOf, kept_place, place_of_name}
use Rattle.ds2_program_types.specs.TypedPrograms.{HavePlaces}
use Rattle.ds2_program_types.specs.declared.methods.TypedMethods.{TypedMethods}
use Rattle.ds2_program_types.specs.declared.parts.ProgramParts.{ProgramParts}

-- ---- the reading statement

-- the reading statement of a method, where there is one
abbrev read_in : Option Method → Option source.Reading
read_in None = None
read_in (Some m) = m.reading

-- it is that of the first `run`
first_run : (methods : List Method) → reading_of_run methods ≡ read_in (method_named methods (codes "run"))
first_run [] = refl
first_run (m ∷ methods) = by (bytes_eq (spelled_name m.name) (codes "run")) (first_run methods)
  where
    by : (b : Bool) → reading_of_run methods ≡ read_in (method_named methods (codes "run"))
        → (if b then m.reading else reading_of_run methods) ≡ read_in (cond b (Some m) (method_named methods (codes "run")))
    by true h = refl
    by false h = h

module _ (tables : TableColumns) (made : List MentionedTable) (columns : Columns) where
  with_run : (run : SystemMethod) (x : Option source.Reading) → reading_with_run (Some run) (read_statement tables made columns x) ≡ read_statement tables made columns x
  with_run run None = refl
  with_run run (Some (read_as.Set keyword inputs end by)) = refl
  with_run run (Some (read_as.SetFrom keyword from instance threads end)) = refl
  with_run run (Some (read_as.Merge keyword inputs retain end by)) = refl

  if_run : (run : Option SystemMethod) (m : Option Method) → kept_place run ≡ place_of_name m
      → reading_with_run run (read_statement tables made columns (read_in m)) ≡ reading_of_method tables made columns m
  if_run None None e = refl
  if_run (Some run) (Some m) e = with_run run m.reading
  if_run None (Some m) e = cc
  if_run (Some run) None e = cc

  -- what is read where there is a `run`
  pub read_with_run : (methods : List Method) (run : Option SystemMethod) → kept_place run ≡ place_of_name (method_named methods (codes "run"))
      → reading_with_run run (read_statement tables made columns (reading_of_run methods)) ≡ reading_of_method tables made columns (method_named methods (codes "run"))
  read_with_run methods run e =
      ap (λ (x : Option source.Reading). reading_with_run run (read_statement tables made columns x)) (first_run methods) ∙ if_run run (method_named methods (codes "run")) e

-- ---- outputs and methods

-- the outputs of a unit over its vector
pub outputs_told : (tables : TableColumns) (before : UnitsBefore) (u : UnitSource) (k : UnitKind)
    → outputs_over (vector_variables tables before u) u (names_alone (vector_names (unit_names tables before u))) k ≡ unit_outputs tables before u k
outputs_told tables before u OfPackage = refl
outputs_told tables before u OfThread = refl
outputs_told tables before u OfData = refl

-- the methods of a program that can be called
called_told : (k : UnitKind) (methods : List Method) → is_package k ≡ false → methods_to_call k methods ≡ callable_methods methods
called_told OfPackage methods e = cc
called_told OfThread methods e = refl
called_told OfData methods e = refl

-- ---- the whole

module _ (tables : TableColumns) (before : UnitsBefore) (u : UnitSource) where
  abbrev first_body : BodyTree
  first_body = system_body tables before u (codes "init")

  abbrev stage_columns : Columns
  stage_columns = typed_stage_columns (unit_stage tables before u)

  -- a program of these parts, instances and methods is the typed program
  pub same_program : is_package u.kind ≡ false → (p : Program) (q : ProgramParts) (i : TypedInstances) (t : TypedMethods) → IsMadeOf p q i t → ArePartsOf tables before u q
      → AreInstancesOf tables before (scope_of_declarations tables before u) (unit_names tables before u).instances i
      → AreMethodsOf tables before u (source_methods u.globals) t → unit_tree (option_map spelled_name u.name) (parameter_variables u) p ≡ typed_unit tables before u
  same_program n p q i t m k a h = λ j. record {
    thread = option_map spelled_name u.name;
    parameters = parameter_variables u;
    declared = (m.declared ∙ k.declared) j;
    columns = (m.columns ∙ k.columns) j;
    retained = (m.retained ∙ k.retained) j;
    instances = (ap (map instance_tree) m.instances ∙ a.packages) j;
    objects = record { hashes = (m.hashes ∙ a.hashes) j; iterators = (m.iterators ∙ a.iterators) j };
    threads = (m.threads ∙ a.threads) j;
    reading = ((λ l. reading_with_run (m.run l) ((m.reading ∙ k.reading) l)) ∙ read_with_run tables before.names.made stage_columns (source_methods u.globals) t.run h.run.place) j;
    outputs = (m.outputs ∙ k.outputs) j;
    methods = (ap (map typed_method) m.methods ∙ h.callable ∙ ap (map (method_tree_of tables before u)) (sym (called_told u.kind (source_methods u.globals) n))) j;
    init =
        ((λ l. init_tree (m.instances l) (system_tree (m.init l))) ∙ ap (init_tree i.instances) h.init.body
        ∙ (λ l. record { locals = first_body.locals; statements = a.constructors first_body.statements l })) j;
    run = (ap system_tree m.run ∙ h.run.body) j;
    term = (ap system_tree m.term ∙ h.term.body) j;
  }

  -- each of its system methods keeps the place of its name
  pub same_places : (p : Program) (q : ProgramParts) (i : TypedInstances) (t : TypedMethods) → IsMadeOf p q i t
      → AreMethodsOf tables before u (source_methods u.globals) t → HavePlaces (source_methods u.globals) p
  same_places p q i t m h = record {
    init = ap kept_place m.init ∙ h.init.place;
    run = ap kept_place m.run ∙ h.run.place;
    term = ap kept_place m.term ∙ h.term.place;
  }
