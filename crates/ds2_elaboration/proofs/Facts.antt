-- What holds of a unit that breaks no rule: its names, its types in bounds, and its rules one by one.
use Rattle.std.proofs.Common.{◌≡◌, ℕ, bytes_eq, Bool, true, false, not, ◌&&◌, ◌||◌, List, [], ◌∷◌, ◌++◌, codes, map, is_none, is_some, if◌then◌else◌, option_map, option_and_then, Option, Some, None, refl, sym, ap, ◌∙◌, subst}
use Rattle.std.specs.List.{AllByRecursion}
use Rattle.std.specs.Option.{option_map_or}
use Rattle.ds2_base.specs.declared.place.Place.{Place}
use Rattle.ds2_token.specs.declared.token.Token.{Token}
use Rattle.ds2_tree.specs.Globals.{Method}
use Rattle.ds2_tree.specs.declared.globals.Parameter as source_parameter
use Rattle.ds2_tree.specs.declared.readings.Reading as source_reading
use Rattle.ds2_tree.specs.declared.units.OutputTable as source_output
use Rattle.ds2_value.specs.Types.{JoinTakesBoth, TakesItself, TakesOnward}
use Rattle.ds2_value.specs.declared.ty.Ty.{Ty}
use Rattle.ds2_meaning.specs.declared.globals.Variable as typed
use Rattle.ds2_meaning.specs.declared.refusals.TypeKind.TheVariants.{TypeClash}
use Rattle.ds2_meaning.specs.IsTyped.{type_in, AreInBounds, variable_names}
use Rattle.ds2_meaning.specs.ProgramTree.{ProgramTree, is_listed, reader_of}
use Rattle.ds2_names.specs.NameRules.{from_each, place_unless, from_uses, columns_are_known, unknown_in_use, may_be_column, may_be_global, options_of, all_listed_tokens, is_in_all_tables, unknown_in_instance, is_stage_name, is_thread_instance, unknown_stage, later_places, not_variable_in_use, not_variable_in_instance, uses_in}
use Rattle.ds2_names.specs.Refusals.{broken_at}
use Rattle.ds2_names.specs.SourceUnit.{TableColumns, UnitSource, spelled_name, PlacedName, names_alone, variable_declarations, source_methods, UnitKind, OfPackage, OfThread, OfData, is_package, is_thread, InstanceOf, AnyPackage, HashObject, HashIterator, AnyThread, SourceInstance, instance_named, KnownThread, thread_named, thread_of_instance, reading_of_run, reads_thread, reading_by_kind, tables_of_reading, stage_token, stage_read, SourceNames, all_globals, is_named}
use Rattle.ds2_names.specs.UnitRules.{bad_type_numbers, declared_types, method_types, bad_reading_number, unit_types, reading_place, misplaced_reading, misplaced_head, misplaced_in_all, misplaced_setting, is_system_method, may_write, may_read, misplaced_in_method, misplaced_in_kind, misplaced_null, option_word}
use Rattle.ds2_elaboration.specs.ElaborationLaws.{BreaksNoRule}
use Rattle.ds2_elaboration.specs.ProgramTypes.{instance_refusals, scope_of_declarations, method_refusals}
use Rattle.ds2_elaboration.specs.SourceTypes.{spelled_type, program_variables, parameter_variables, unit_names, program_inputs, unit_stage, stage_typing, column_variables, unjoined_columns, clashing_at, clashing_tables, vector_variables}
use Rattle.ds2_elaboration.specs.TypedPrograms.{HaveSchemas, UnitsStand, row_names}
use Rattle.ds2_elaboration.specs.UnitsBefore.{UnitsBefore, typed_thread_named, thread_of_sort, typed_stage, typed_stage_columns}
use Rattle.ds2_elaboration.proofs.Accepted.{nowhere, each_empty, each_of, halves_empty, nested_empty, NamesHold, names_hold, NamesOnce, names_once, spelled_bounds, bounds_append, declared_bounds, MethodBounds, method_bounds}
use Rattle.ds2_elaboration.proofs.Locals.{declared_variable_names}
use Rattle.ds2_elaboration.proofs.Lookups.{of_found}
use Rattle.ds2_elaboration.proofs.Objects.{HasThread}
use Rattle.ds2_elaboration.proofs.Outcome.{both_empty, unplaced}
use Rattle.ds2_elaboration.proofs.Stages.{stage_types, columns_added}
use Rattle.ds2_elaboration.proofs.Units.{StandsAsUnit}
use Rattle.ds2_elaboration.proofs.Vectors.{stage_bounded, columns_bounded}

-- the laws of joined types
pub record JoinLaws : Type 0 where
  pub join : JoinTakesBoth
  pub itself : TakesItself
  pub onward : TakesOnward

-- a unit that breaks no rule, behind typed units
pub record UnitHolds (tables : TableColumns) (before : UnitsBefore) (u : UnitSource) : Type 0 where
  pub source : StandsAsUnit u
  pub schemas : HaveSchemas tables
  pub stand : UnitsStand before
  pub rules : BreaksNoRule tables before u

-- ---- types in bounds

pub variable_bounds : (ps : List source_parameter.Parameter) → from_each bad_type_numbers (map (λ (p : source_parameter.Parameter). p.ty) ps) ≡ []
    → AreInBounds (map (λ (p : source_parameter.Parameter). record { name = spelled_name p.name; ty = spelled_type p.ty }) ps)
variable_bounds [] h = tt
variable_bounds (p ∷ ps) h =
    let q = both_empty (bad_type_numbers p.ty) (from_each bad_type_numbers (map (λ (x : source_parameter.Parameter). x.ty) ps)) h in
    (spelled_bounds p.ty q.0, variable_bounds ps q.1)

-- ---- names without a type

none_typed_if : (b listed : Bool) (own : Ty) (rest : Option Ty) → (b || listed) ≡ false → (listed ≡ false → rest ≡ None) → (if b then Some own else rest) ≡ None
none_typed_if true listed own rest h f = cc
none_typed_if false listed own rest h f = f h

pub unlisted_untyped : (variables : List typed.Variable) (name : List ℕ) → is_listed (variable_names variables) name ≡ false → type_in variables name ≡ None
unlisted_untyped [] name h = refl
unlisted_untyped (v ∷ variables) name h =
    none_typed_if (bytes_eq v.name name) (is_listed (variable_names variables) name) v.ty (type_in variables name) h (unlisted_untyped variables name)

nothing_from : {A B : Type 0} (f : A → List B) (xs : List A) → AllByRecursion (λ (x : A). f x ≡ []) xs → from_each f xs ≡ []
nothing_from f [] h = refl
nothing_from f (x ∷ xs) h = ap (λ ys. ys ++ from_each f xs) h.0 ∙ nothing_from f xs h.1

nothing_mapped : {A B : Type 0} (f : A → B) (xs : List A) → xs ≡ [] → map f xs ≡ []
nothing_mapped f xs e = ap (λ ys. map f ys) e

-- a name at a place
abbrev placed_at : List ℕ → Place → PlacedName
placed_at name place = record { name = name; place = place }

-- ---- reading statements

tables_kept : (b run : Bool) (reading : source_reading.Reading) (place : Place) → place_unless (not b && run) place ≡ [] → (if b then None else Some reading) ≡ Some reading
tables_kept true run reading place h = cc
tables_kept false run reading place h = refl

-- a reading statement of a program that stands where it may stand gives it names
stands_kept : (kind : UnitKind) (run : Bool) (reading : Option source_reading.Reading) → is_package kind ≡ false
    → misplaced_reading (λ r. (not (is_thread kind) || not (reads_thread r)) && run) reading ≡ [] → reading_by_kind kind reading ≡ reading
stands_kept OfPackage run reading p h = cc
stands_kept OfThread run None p h = refl
stands_kept OfThread run (Some reading) p h = tables_kept (reads_thread reading) run reading (reading_place reading) h
stands_kept OfData run reading p h = refl

kept_if : (b : Bool) (kind : UnitKind) (own rest : Option source_reading.Reading) → reading_by_kind kind own ≡ own → reading_by_kind kind rest ≡ rest
    → reading_by_kind kind (if b then own else rest) ≡ (if b then own else rest)
kept_if true kind own rest f g = f
kept_if false kind own rest f g = g

-- so does that of `run`
run_kept : (names : SourceNames) (methods : List Method) → is_package names.unit.kind ≡ false → from_each (misplaced_in_method names) methods ≡ []
    → reading_by_kind names.unit.kind (reading_of_run methods) ≡ reading_of_run methods
run_kept names [] p h = stands_kept names.unit.kind false None p refl
run_kept names (m ∷ methods) p h =
    let kind = names.unit.kind in
    let head = misplaced_head names m in
    let reading = misplaced_reading (may_read names m) m.reading in
    let body = misplaced_in_all (may_write names m) (is_some m.returns) false m.body in
    let settings = from_each (misplaced_setting names m) (uses_in names m) in
    let q = both_empty (misplaced_in_method names m) (from_each (misplaced_in_method names) methods) h in
    let own = (both_empty head reading (both_empty (head ++ reading) body (both_empty (head ++ reading ++ body) settings q.0).0).0).1 in
    kept_if (bytes_eq (spelled_name m.name) (codes "run")) kind m.reading (reading_of_run methods)
    (stands_kept kind (is_system_method (codes "run") names m) m.reading p own) (run_kept names methods p q.1)

module _ (laws : JoinLaws) (tables : TableColumns) (before : UnitsBefore) (u : UnitSource) (given : UnitHolds tables before u) where
  abbrev names_here : SourceNames
  names_here = unit_names tables before u

  abbrev methods_here : List Method
  methods_here = source_methods u.globals

  pub held : NamesHold tables names_here
  held = names_hold tables names_here given.rules.names

  pub once : NamesOnce names_here
  once = names_once names_here held.duplicate

  -- ---- types in bounds

  type_numbers : from_each bad_type_numbers (unit_types names_here) ≡ []
  type_numbers =
      (both_empty (from_each bad_type_numbers (unit_types names_here)) (from_each (λ (m : Method). bad_reading_number m.reading) methods_here) held.numbers).0

  pub reading_numbers : from_each (λ (m : Method). bad_reading_number m.reading) methods_here ≡ []
  reading_numbers =
      (both_empty (from_each bad_type_numbers (unit_types names_here)) (from_each (λ (m : Method). bad_reading_number m.reading) methods_here) held.numbers).1

  -- the types of declared variables, of parameters and of methods
  record TypesOfParts : Type 0 where
    declared : from_each bad_type_numbers (declared_types (variable_declarations u.globals)) ≡ []
    parameters : from_each bad_type_numbers (map (λ (p : source_parameter.Parameter). p.ty) u.parameters) ≡ []
    methods : from_each bad_type_numbers (from_each method_types methods_here) ≡ []

  types_of_parts : TypesOfParts
  types_of_parts =
      let own = declared_types (variable_declarations u.globals) in
      let parameters = map (λ (p : source_parameter.Parameter). p.ty) u.parameters in
      let p = halves_empty bad_type_numbers (own ++ parameters) (from_each method_types methods_here) type_numbers in
      let q = halves_empty bad_type_numbers own parameters p.0 in
      record { declared = q.0; parameters = q.1; methods = p.1 }

  pub declared_variable_bounds : AreInBounds (program_variables u)
  declared_variable_bounds = declared_bounds (variable_declarations u.globals) types_of_parts.declared

  pub parameter_bounds : AreInBounds (parameter_variables u)
  parameter_bounds = variable_bounds u.parameters types_of_parts.parameters

  pub vector_bounds : AreInBounds (vector_variables tables before u)
  vector_bounds =
      bounds_append (program_variables u) (column_variables tables before u) declared_variable_bounds
      (columns_bounded laws.join tables given.schemas (λ name. stage_typing tables before u None name)
      (λ name. stage_bounded laws.join (typed_stage_columns (unit_stage tables before u)) (stage_types tables before u given.stand) None name)
      (program_inputs tables before u) names_here.columns)

  pub bounds_of_methods : AllByRecursion MethodBounds methods_here
  bounds_of_methods =
      each_of (λ (m : Method). from_each bad_type_numbers (method_types m) ≡ []) MethodBounds method_bounds methods_here
      (nested_empty bad_type_numbers method_types methods_here types_of_parts.methods)

  -- ---- places

  -- the places of what methods and a unit of its kind may not hold
  record PlacesOfParts : Type 0 where
    methods : from_each (misplaced_in_method names_here) methods_here ≡ []
    kind : misplaced_in_kind u.kind names_here ≡ []

  places_of_parts : PlacesOfParts
  places_of_parts =
      let own = from_each (misplaced_in_method names_here) methods_here in
      let kinds = misplaced_in_kind u.kind names_here in
      let nulls = misplaced_null u.outputs in
      let options = from_each (λ (o : source_output.OutputTable). later_places (map option_word (options_of o.options))) u.outputs in
      let p = both_empty own kinds (both_empty (own ++ kinds) nulls (both_empty (own ++ kinds ++ nulls) options held.places).0).0 in
      record { methods = p.0; kind = p.1 }

  pub placed_methods : from_each (misplaced_in_method names_here) methods_here ≡ []
  placed_methods = places_of_parts.methods

  pub placed_kind : misplaced_in_kind u.kind names_here ≡ []
  placed_kind = places_of_parts.kind

  -- ---- rules of types

  -- what columns, instances and methods break
  record TypeRules : Type 0 where
    tables_join : clashing_tables tables before u ≡ []
    instances : from_each (λ (i : SourceInstance). instance_refusals tables before (scope_of_declarations tables before u) i i.sort) names_here.instances ≡ []
    methods : from_each (method_refusals tables before u) methods_here ≡ []

  type_rules : TypeRules
  type_rules =
      let clashes = clashing_tables tables before u in
      let instances = from_each (λ (i : SourceInstance). instance_refusals tables before (scope_of_declarations tables before u) i i.sort) names_here.instances in
      let methods = from_each (method_refusals tables before u) methods_here in
      let p = both_empty (broken_at TypeClash clashes ++ instances) methods given.rules.types in
      let q = both_empty (broken_at TypeClash clashes) instances p.0 in
      record { tables_join = nowhere TypeClash clashes q.0; instances = q.1; methods = p.1 }

  pub unclashed_tables : clashing_tables tables before u ≡ []
  unclashed_tables = type_rules.tables_join

  pub instance_rules : AllByRecursion (λ (i : SourceInstance). instance_refusals tables before (scope_of_declarations tables before u) i i.sort ≡ []) names_here.instances
  instance_rules =
      each_empty (λ (i : SourceInstance). instance_refusals tables before (scope_of_declarations tables before u) i i.sort) names_here.instances type_rules.instances

  pub method_rules : from_each (method_refusals tables before u) methods_here ≡ []
  method_rules = type_rules.methods

  -- ---- names that are there

  -- the BY variables, the instances, and the instance that is read from
  record UnknownParts : Type 0 where
    bys : from_each (λ (b : PlacedName). place_unless (is_in_all_tables tables (tables_of_reading names_here.reading) b.name) b.place) names_here.bys ≡ []
    instances : from_each (λ (i : SourceInstance). unknown_in_instance tables names_here i.sort) names_here.instances ≡ []
    stage : unknown_stage names_here (stage_token names_here.reading) ≡ []

  unknown_parts : UnknownParts
  unknown_parts =
      let uses = from_uses names_here (unknown_in_use names_here) in
      let listed = from_each (λ (t : Token). place_unless (may_be_global names_here (spelled_name t)) t.place) (all_listed_tokens names_here.unit) in
      let bys = from_each (λ (b : PlacedName). place_unless (is_in_all_tables tables (tables_of_reading names_here.reading) b.name) b.place) names_here.bys in
      let instances = from_each (λ (i : SourceInstance). unknown_in_instance tables names_here i.sort) names_here.instances in
      let p = both_empty (uses ++ listed ++ bys ++ instances) (unknown_stage names_here (stage_token names_here.reading)) held.unknown in
      let q = both_empty (uses ++ listed ++ bys) instances p.0 in
      record { bys = (both_empty (uses ++ listed) bys q.0).1; instances = q.1; stage = p.1 }

  pub known_bys : from_each (λ (b : PlacedName). place_unless (is_in_all_tables tables (tables_of_reading names_here.reading) b.name) b.place) names_here.bys ≡ []
  known_bys = unknown_parts.bys

  pub known_instances : AllByRecursion (λ (i : SourceInstance). unknown_in_instance tables names_here i.sort ≡ []) names_here.instances
  known_instances = each_empty (λ (i : SourceInstance). unknown_in_instance tables names_here i.sort) names_here.instances unknown_parts.instances

  -- a thread program that the rules of names know is there
  same_there : {A B C : Type 0} (f : A → C) (g : B → C) (a : Option A) (b : Option B) → option_map f a ≡ option_map g b → is_some a ≡ true → is_some b ≡ true
  same_there f g None b e h = cc
  same_there f g (Some x) None e h = cc
  same_there f g (Some x) (Some y) e h = refl

  thread_known : (sort : InstanceOf) → unknown_in_instance tables names_here sort ≡ [] → HasThread before sort
  thread_known (AnyPackage package' arguments) h = tt
  thread_known (HashObject keys items table) h = tt
  thread_known (HashIterator hash) h = tt
  thread_known (AnyThread thread) h =
      let known = unplaced (is_some (thread_named before.names.known (spelled_name thread))) thread.place h in
      same_there (λ (t : KnownThread). t.columns) (λ (p : ProgramTree). row_names (reader_of p)) (thread_named before.names.known (spelled_name thread))
      (typed_thread_named before.threads (spelled_name thread)) (given.stand.thread_columns (spelled_name thread)) known

  pub threads_known : AllByRecursion (λ (i : SourceInstance). HasThread before i.sort) names_here.instances
  threads_known =
      each_of (λ (i : SourceInstance). unknown_in_instance tables names_here i.sort ≡ []) (λ (i : SourceInstance). HasThread before i.sort) (λ i h. thread_known i.sort h)
      names_here.instances known_instances

  -- ---- the columns are known

  -- what `set from` reads from is there
  stage_sort : (keyword name : Token) (sort : InstanceOf) → is_thread_instance sort ≡ true → HasThread before sort
      → (is_some (thread_of_sort before.threads sort) ≡ true)
      × (is_some (thread_of_instance before.names.known (Some (record { keyword = keyword; name = name; sort = sort }))) ≡ true)
  stage_sort keyword name (AnyPackage package' arguments) t k = cc
  stage_sort keyword name (HashObject keys items table) t k = cc
  stage_sort keyword name (HashIterator hash) t k = cc
  stage_sort keyword name (AnyThread thread) t k = (
    k,
    same_there (λ (p : ProgramTree). row_names (reader_of p)) (λ (x : KnownThread). x.columns) (typed_thread_named before.threads (spelled_name thread))
        (thread_named before.names.known (spelled_name thread)) (sym (given.stand.thread_columns (spelled_name thread))) k,
  )

  found_holds : (P : SourceInstance → Type 0) (found : Option SourceInstance) → ((i : SourceInstance) → found ≡ Some i → P i)
      → option_map_or (λ (i : SourceInstance). is_thread_instance i.sort) found false ≡ true → (i : SourceInstance) × ((found ≡ Some i) × (P i × (is_thread_instance i.sort ≡ true)))
  found_holds P None f h = cc
  found_holds P (Some i) f h = (i, (refl, (f i refl, h)))

  -- the instance behind `set from` is one of a thread program that is there
  pub stage_known : (t : Token) → stage_token names_here.reading ≡ Some t → (is_some (typed_stage before.threads names_here.instances (Some t)) ≡ true)
      × (is_some (stage_read before.names.known names_here.instances (Some t)) ≡ true)
  stage_known t e =
      let rule = subst (λ (token : Option Token). unknown_stage names_here token ≡ []) e unknown_parts.stage in
      let is_stage = unplaced (is_stage_name names_here (spelled_name t)) t.place rule in
      let test = λ (i : SourceInstance). bytes_eq (spelled_name i.name) (spelled_name t) in
      let r = found_holds (λ (i : SourceInstance). HasThread before i.sort) (instance_named names_here.instances (spelled_name t))
      (λ i h. of_found (λ (j : SourceInstance). HasThread before j.sort) test names_here.instances i threads_known h) is_stage in
      let s = stage_sort r.0.keyword r.0.name r.0.sort r.1.1.1 r.1.1.0 in (
        ap (λ (found : Option SourceInstance). is_some (option_and_then (λ (i : SourceInstance). thread_of_sort before.threads i.sort) found)) r.1.0 ∙ s.0,
        ap (λ (found : Option SourceInstance). is_some (thread_of_instance before.names.known found)) r.1.0 ∙ s.1,
      )

  known_if : (token : Option Token) → stage_token names_here.reading ≡ token
      → (is_none token || is_some (stage_read before.names.known names_here.instances token)) ≡ true
  known_if None e = refl
  known_if (Some t) e = (stage_known t e).1

  pub columns_known : columns_are_known names_here ≡ true
  columns_known = known_if (stage_token names_here.reading) refl

  pub no_further_column : (name : List ℕ) → may_be_column names_here name ≡ false
  no_further_column name = ap (λ b. not b && not (is_named (all_globals names_here) name)) columns_known

  -- ---- no column whose tables do not join

  declared_types_of : (n : PlacedName) → is_listed (names_alone names_here.declared) n.name ≡ false → type_in (program_variables u) n.name ≡ None
  declared_types_of n h =
      unlisted_untyped (program_variables u) n.name (ap (λ ns. is_listed ns n.name) (declared_variable_names (variable_declarations u.globals)) ∙ h)

  pub column_rules : AllByRecursion (λ (n : PlacedName). clashing_at tables before u (type_in (program_variables u) n.name) n.name ≡ []) names_here.columns
  column_rules =
      let own = from_each (λ (v : typed.Variable). clashing_at tables before u (type_in (program_variables u) v.name) v.name) (program_variables u) in
      let columns = from_each (λ (n : PlacedName). clashing_at tables before u (type_in (program_variables u) n.name) n.name) names_here.columns in
      each_empty (λ (n : PlacedName). clashing_at tables before u (type_in (program_variables u) n.name) n.name) names_here.columns (both_empty own columns unclashed_tables).1

  unjoined_from : (columns : List PlacedName) → AllByRecursion (λ (n : PlacedName). clashing_at tables before u (type_in (program_variables u) n.name) n.name ≡ []) columns
      → AllByRecursion (λ (name : List ℕ). is_listed (names_alone names_here.declared) name ≡ false) (names_alone columns)
      → AllByRecursion (λ (n : PlacedName). map (placed_at n.name) (clashing_at tables before u None n.name) ≡ []) columns
  unjoined_from [] f g = tt
  unjoined_from (n ∷ columns) f g = (
    nothing_mapped (placed_at n.name) (clashing_at tables before u None n.name)
        (subst (λ (d : Option Ty). clashing_at tables before u d n.name ≡ []) (declared_types_of n g.0) f.0),
    unjoined_from columns f.1 g.1,
  )

  pub none_unjoined : unjoined_columns tables before u ≡ []
  none_unjoined =
      nothing_from (λ (n : PlacedName). map (placed_at n.name) (clashing_at tables before u None n.name)) names_here.columns
      (unjoined_from names_here.columns column_rules (columns_added tables before u given.stand).1)

  -- ---- what may not be set

  pub settable_instances : AllByRecursion (λ (i : SourceInstance). not_variable_in_instance names_here i.sort ≡ []) names_here.instances
  settable_instances =
      let uses = from_uses names_here (not_variable_in_use names_here) in
      let instances = from_each (λ (i : SourceInstance). not_variable_in_instance names_here i.sort) names_here.instances in
      each_empty (λ (i : SourceInstance). not_variable_in_instance names_here i.sort) names_here.instances (both_empty uses instances held.variables).1

  -- ---- the reading statement of a program

  pub reading_is : is_package u.kind ≡ false → names_here.reading ≡ reading_of_run methods_here
  reading_is p = run_kept names_here methods_here p placed_methods
