-- The methods of a unit that breaks no rule become typed methods.
use Rattle.std.proofs.Common.{◌≡◌, ℕ, bytes_eq, codes, nat_eq, is_some, is_none, Bool, true, false, not, ◌&&◌, ◌||◌, List, [], ◌∷◌, ◌++◌, length, map, if◌then◌else◌, Option, Some, None, refl, sym, ap, ◌∙◌, subst, true≢false, arith}
use Rattle.std.specs.List.{AllByRecursion}
use Rattle.std.specs.Option.{option_map_or}
use Rattle.std.proofs.lemmas.Bool.{and_parts, and_from, or_left, not_from_false, eqb-true}
use Rattle.std.proofs.lemmas.List.{length-map}
use Rattle.ds2_base.specs.declared.place.Place.{Place}
use Rattle.ds2_token.specs.declared.token.Token.{Token}
use Rattle.ds2_tree.specs.Globals.{Method, GlobalItem, Declared, Listed, Defined, method_spelling, global_spelling, IsGlobal}
use Rattle.ds2_tree.specs.Lists.{if_any, all_spelled, Each, IfAny}
use Rattle.ds2_tree.specs.Readings.{reading_spelling, IsReading}
use Rattle.ds2_tree.specs.Statements.{AreStatements}
use Rattle.ds2_tree.specs.declared.globals.Returns.{Returns}
use Rattle.ds2_tree.specs.declared.readings.ByVariable as source_by
use Rattle.ds2_tree.specs.declared.readings.Reading as source_reading
use Rattle.ds2_tree.specs.declared.units.OutputTable as source_output
use Rattle.ds2_value.specs.declared.ty.Ty.{Ty}
use Rattle.ds2_meaning.specs.declared.globals.Variable as typed
use Rattle.ds2_meaning.specs.declared.hashes.ThreadInstance.{ThreadInstance}
use Rattle.ds2_meaning.specs.declared.location.Global.{Global}
use Rattle.ds2_meaning.specs.declared.refusals.TypeKind.TheVariants.{NoReturn}
use Rattle.ds2_meaning.specs.HashObjects.{DeclaredObjects}
use Rattle.ds2_meaning.specs.IsTyped.{NamesInScope, type_in, thread_parameters, with_parameters_of, AreInBounds, are_distinct, variable_names, AreTypedVariables, AreTypedStatements, ReturnsWhatItSays, names_in_method, IsTypedMethod, AreTypedMethods, IsTypedBody, flag_type, is_by, is_present, globals_of}
use Rattle.ds2_meaning.specs.Method.{MethodTree}
use Rattle.ds2_meaning.specs.ProgramTree.{UnitTree, is_listed, methods_of}
use Rattle.ds2_meaning.specs.Reading.{inputs_of, bys_of}
use Rattle.ds2_names.specs.NameRules.{from_each, later_places, is_system, uses_in}
use Rattle.ds2_names.specs.SourceUnit.{TableColumns, UnitKind, OfPackage, OfThread, OfData, is_package, is_thread, UnitSource, spelled_name, placed_name, names_alone, source_methods, is_system_name, local_names, reading_of_run, tables_of_reading, bys_of_reading, flag_names, SourceNames}
use Rattle.ds2_names.specs.UnitRules.{misplaced_in_all, misplaced_head, misplaced_reading, may_write, may_read, misplaced_setting, misplaced_in_method}
use Rattle.ds2_names.specs.Uses.{method_named}
use Rattle.ds2_elaboration.specs.ExpressionTypes.{ObjectCalls, InstanceCalls, HashCalls, IteratorCalls, ParameterCalls, callable_methods, number_of_method}
use Rattle.ds2_elaboration.specs.ProgramTypes.{made_outputs, made_names, return_rule, methods_to_call, is_init_method, scope_with, scope_of_method, scope_of_declarations, method_refusals, method_tree_of, method_trees, body_of_method, made_output, thread_output, unit_outputs, typed_unit}
use Rattle.ds2_elaboration.specs.SourceTypes.{declared_variables, elaborated_parameter, variables_in_method, returned_type, parameter_variables, unit_names, unit_stage, vector_variables}
use Rattle.ds2_elaboration.specs.StatementTypes.{statements_refusals, statements_node, list_surely_returns}
use Rattle.ds2_elaboration.specs.TypedPrograms.{StandInOrder}
use Rattle.ds2_elaboration.specs.TypedScopes.{IsBoundedIfAny, MethodStands, ObjectStands, ScopeStands}
use Rattle.ds2_elaboration.specs.Typings.{type_refusal_at}
use Rattle.ds2_elaboration.specs.UnitsBefore.{UnitsBefore, typed_stage_columns}
use Rattle.ds2_elaboration.proofs.Accepted.{each_empty, both_all, each_of, MethodBounds, bounded_in, same_item, number_stands, of_named, of_kept, all_pass}
use Rattle.ds2_elaboration.proofs.Distinct.{not_true}
use Rattle.ds2_elaboration.proofs.Facts.{JoinLaws, UnitHolds, once, vector_bounds, parameter_bounds, bounds_of_methods, placed_methods, method_rules, threads_known, reading_is}
use Rattle.ds2_elaboration.proofs.Locals.{local_tokens, locals_within, locals_as_tokens, local_variable_names, reading_within}
use Rattle.ds2_elaboration.proofs.Objects.{calls_found, methods_stand, hash_stands, iterator_stands, parameters_stand, no_parameters_called, unhidden}
use Rattle.ds2_elaboration.proofs.Orders.{itself_within, behind_others, before_others, order_within, same_bytes, not_given_before, distinct_tokens}
use Rattle.ds2_elaboration.proofs.Outcome.{both_empty, unplaced}
use Rattle.ds2_elaboration.proofs.Returning.{list_kept}
use Rattle.ds2_elaboration.proofs.Statements.{statements_typed}
use Rattle.ds2_elaboration.proofs.Vectors.{flag_stands, by_stands}

-- ---- what holds of a method

-- a method of the grammar that breaks no rule of names or of types
pub record MethodHolds (tables : TableColumns) (before : UnitsBefore) (u : UnitSource) (names : SourceNames) (m : Method) : Type 0 where
  pub bounds : MethodBounds m
  pub head : misplaced_head names m ≡ []
  pub body : misplaced_in_all (may_write names m) (is_some m.returns) false m.body ≡ []
  pub once : later_places (local_names m) ≡ []
  pub grammar : AreStatements m.body
  pub order : StandInOrder (method_spelling m)
  pub returns : return_rule m ≡ []
  pub types : statements_refusals (scope_of_method tables before u m) m.body ≡ []

pub methods_of_grammar : (globals : List GlobalItem) → Each IsGlobal globals → AllByRecursion (λ (m : Method). AreStatements m.body) (source_methods globals)
methods_of_grammar [] g = tt
methods_of_grammar (Declared d ∷ globals) g = methods_of_grammar globals g.1
methods_of_grammar (Listed keyword names end ∷ globals) g = methods_of_grammar globals g.1
methods_of_grammar (Defined m ∷ globals) g = (g.0.6, methods_of_grammar globals g.1)

pub readings_of_grammar : (globals : List GlobalItem) → Each IsGlobal globals → AllByRecursion (λ (m : Method). IfAny IsReading m.reading) (source_methods globals)
readings_of_grammar [] g = tt
readings_of_grammar (Declared d ∷ globals) g = readings_of_grammar globals g.1
readings_of_grammar (Listed keyword names end ∷ globals) g = readings_of_grammar globals g.1
readings_of_grammar (Defined m ∷ globals) g = (g.0.5, readings_of_grammar globals g.1)

pub methods_in_order : (globals : List GlobalItem) → StandInOrder (all_spelled global_spelling globals)
    → AllByRecursion (λ (m : Method). StandInOrder (method_spelling m)) (source_methods globals)
methods_in_order [] o = tt
methods_in_order (Declared d ∷ globals) o =
    methods_in_order globals (order_within (behind_others (global_spelling (Declared d)) (itself_within (all_spelled global_spelling globals))) o)
methods_in_order (Listed keyword names end ∷ globals) o =
    methods_in_order globals (order_within (behind_others (global_spelling (Listed keyword names end)) (itself_within (all_spelled global_spelling globals))) o)
methods_in_order (Defined m ∷ globals) o = (
  order_within (before_others (all_spelled global_spelling globals) (itself_within (method_spelling m))) o,
  methods_in_order globals (order_within (behind_others (method_spelling m) (itself_within (all_spelled global_spelling globals))) o),
)

order_if : (b : Bool) (own rest : Option source_reading.Reading) → StandInOrder (if_any reading_spelling own) → StandInOrder (if_any reading_spelling rest)
    → StandInOrder (if_any reading_spelling (if b then own else rest))
order_if true own rest f g = f
order_if false own rest f g = g

-- the tokens of the reading statement of `run` stand in order
pub run_in_order : (methods : List Method) → AllByRecursion (λ (m : Method). StandInOrder (method_spelling m)) methods
    → StandInOrder (if_any reading_spelling (reading_of_run methods))
run_in_order [] f = tt
run_in_order (m ∷ methods) f =
    order_if (bytes_eq (spelled_name m.name) (codes "run")) m.reading (reading_of_run methods) (order_within (reading_within m) f.0) (run_in_order methods f.1)

-- the locals of a method have distinct names
locals_distinct : (m : Method) → later_places (local_names m) ≡ [] → StandInOrder (method_spelling m) → are_distinct (variable_names (variables_in_method m)) ≡ true
locals_distinct m once order =
    let tokens = local_tokens m in
    let e = locals_as_tokens m in
    ap are_distinct (local_variable_names m ∙ ap names_alone e)
    ∙ distinct_tokens tokens (order_within (locals_within m) order) (not_given_before (map placed_name tokens) (subst (λ ns. later_places ns ≡ []) e once))

returns_there : (returns : Option Returns) → is_some (returned_type returns) ≡ is_some returns
returns_there None = refl
returns_there (Some returns) = refl

kept_or : (b c : Bool) (place : Place) → (if not b || c then [] else type_refusal_at NoReturn place) ≡ [] → b ≡ true → c ≡ true
kept_or true true place h e = refl
kept_or true false place h e = cc
kept_or false c place h e = cc

no_items : {A : Type 0} (xs : List A) → nat_eq (length xs) 0 ≡ true → xs ≡ []
no_items [] h = refl
no_items (x ∷ xs) h = absurd (omega (arith, eqb-true (length (x ∷ xs)) 0 h))

behind_not : (b c : Bool) → (not b || c) ≡ true → b ≡ true → c ≡ true
behind_not true c h e = h
behind_not false c h e = cc

no_result : (returns : Option Returns) → is_none returns ≡ true → returned_type returns ≡ None
no_result None h = refl
no_result (Some returns) h = cc

-- ---- methods that can be called

-- what holds of all methods holds of those that can be called
pub of_called : (P : Method → Type 0) (kind : UnitKind) (methods : List Method) → AllByRecursion P methods → AllByRecursion P (methods_to_call kind methods)
of_called P OfPackage methods f = f
of_called P OfThread methods f = of_kept P (λ (m : Method). not (is_system_name (spelled_name m.name))) methods f
of_called P OfData methods f = of_kept P (λ (m : Method). not (is_system_name (spelled_name m.name))) methods f

-- none of them is a system method
all_in_package : (methods : List Method) → AllByRecursion (λ (m : Method). (not true && is_system_name (spelled_name m.name)) ≡ false) methods
all_in_package [] = tt
all_in_package (m ∷ methods) = (refl, all_in_package methods)

none_of_program : (methods : List Method) → AllByRecursion (λ (m : Method). is_system_name (spelled_name m.name) ≡ false) (callable_methods methods)
none_of_program methods =
    each_of (λ (m : Method). not (is_system_name (spelled_name m.name)) ≡ true) (λ (m : Method). is_system_name (spelled_name m.name) ≡ false)
    (λ m h. not_true (is_system_name (spelled_name m.name)) h) (callable_methods methods) (all_pass (λ (m : Method). not (is_system_name (spelled_name m.name))) methods)

pub none_is_system : (kind : UnitKind) (methods : List Method)
    → AllByRecursion (λ (m : Method). (not (is_package kind) && is_system_name (spelled_name m.name)) ≡ false) (methods_to_call kind methods)
none_is_system OfPackage methods = all_in_package methods
none_is_system OfThread methods = none_of_program methods
none_is_system OfData methods = none_of_program methods

both_not : (p s i : Bool) → (not p && s) ≡ false → (i ≡ true → s ≡ true) → (not p && i) ≡ true → true ≡ false
both_not true s i h f g = cc
both_not false s i h f g = sym (f g) ∙ h

-- `init` is a system method
pub no_init : (kind : UnitKind) (m : Method) → (not (is_package kind) && is_system_name (spelled_name m.name)) ≡ false → is_init_method kind m ≡ true → true ≡ false
no_init kind m h g =
    let name = spelled_name m.name in
    let init = bytes_eq name (codes "init") in
    let run = bytes_eq name (codes "run") in
    both_not (is_package kind) (is_system_name name) init h (λ e. or_left (init || run) (bytes_eq name (codes "term")) (or_left init run e)) g

module _ (laws : JoinLaws) (tables : TableColumns) (before : UnitsBefore) (u : UnitSource) (given : UnitHolds tables before u) where
  abbrev names_here : SourceNames
  names_here = unit_names tables before u

  abbrev methods_here : List Method
  methods_here = source_methods u.globals

  abbrev program : UnitTree
  program = typed_unit tables before u

  -- the rules of places of a method
  abbrev PlacesHold : Method → Type 0
  PlacesHold m = (misplaced_head names_here m ≡ []) × (misplaced_in_all (may_write names_here m) (is_some m.returns) false m.body ≡ [])

  places_hold : (m : Method) → misplaced_in_method names_here m ≡ [] → PlacesHold m
  places_hold m h =
      let head = misplaced_head names_here m in
      let reading = misplaced_reading (may_read names_here m) m.reading in
      let body = misplaced_in_all (may_write names_here m) (is_some m.returns) false m.body in
      let settings = from_each (misplaced_setting names_here m) (uses_in names_here m) in
      let p = both_empty (head ++ reading ++ body) settings h in
      let q = both_empty (head ++ reading) body p.0 in
      ((both_empty head reading q.0).0, q.1)

  -- the rules of types of a method
  abbrev TypesHold : Method → Type 0
  TypesHold m = (return_rule m ≡ []) × (statements_refusals (scope_of_method tables before u m) m.body ≡ [])

  abbrev FactsOf : Method → Type 0
  FactsOf m =
      ((MethodBounds m × PlacesHold m) × ((later_places (local_names m) ≡ []) × AreStatements m.body)) × (StandInOrder (method_spelling m) × TypesHold m)

  facts : AllByRecursion FactsOf methods_here
  facts =
      let places = each_of (λ (m : Method). misplaced_in_method names_here m ≡ []) PlacesHold places_hold methods_here
      (each_empty (misplaced_in_method names_here) methods_here (placed_methods laws tables before u given)) in
      let types = each_of (λ (m : Method). method_refusals tables before u m ≡ []) TypesHold
      (λ m h. both_empty (return_rule m) (statements_refusals (scope_of_method tables before u m) m.body) h) methods_here
      (each_empty (method_refusals tables before u) methods_here (method_rules laws tables before u given)) in
      let locals = each_empty (λ (m : Method). later_places (local_names m)) methods_here (once laws tables before u given).locals in
      let grammar = methods_of_grammar u.globals given.source.grammar in
      let order = methods_in_order u.globals given.source.order in
      both_all (λ (m : Method). (MethodBounds m × PlacesHold m) × ((later_places (local_names m) ≡ []) × AreStatements m.body))
      (λ (m : Method). StandInOrder (method_spelling m) × TypesHold m) methods_here
      (both_all (λ (m : Method). MethodBounds m × PlacesHold m) (λ (m : Method). (later_places (local_names m) ≡ []) × AreStatements m.body) methods_here
      (both_all MethodBounds PlacesHold methods_here (bounds_of_methods laws tables before u given) places)
      (both_all (λ (m : Method). later_places (local_names m) ≡ []) (λ (m : Method). AreStatements m.body) methods_here locals grammar))
      (both_all (λ (m : Method). StandInOrder (method_spelling m)) TypesHold methods_here order types)

  method_holds : (m : Method) → FactsOf m → MethodHolds tables before u names_here m
  method_holds m f = record {
    bounds = f.0.0.0;
    head = f.0.0.1.0;
    body = f.0.0.1.1;
    once = f.0.1.0;
    grammar = f.0.1.1;
    order = f.1.0;
    returns = f.1.1.0;
    types = f.1.1.1;
  }

  pub all_hold : AllByRecursion (MethodHolds tables before u names_here) methods_here
  all_hold = each_of FactsOf (MethodHolds tables before u names_here) method_holds methods_here facts

  -- a method that can be called stands at its number
  pub method_stands : (name : List ℕ) (m : Method) → method_named (methods_to_call u.kind methods_here) name ≡ Some m
      → MethodStands (method_trees tables before u) (number_of_method (methods_to_call u.kind methods_here) name) m
  method_stands name m h =
      let own = of_named MethodBounds (methods_to_call u.kind methods_here)
      (of_called MethodBounds u.kind methods_here (bounds_of_methods laws tables before u given)) name m h in
      record {
        method = method_tree_of tables before u m;
        there = number_stands (method_tree_of tables before u) (methods_to_call u.kind methods_here) name m h;
        parameters = refl;
        returns = refl;
        parameter_bounds = own.parameters;
        result_bounds = own.result;
      }

  -- a method that returns a value surely returns
  surely : (m : Method) → return_rule m ≡ [] → (returns : Option Returns) → m.returns ≡ returns
      → ReturnsWhatItSays (method_tree_of tables before u m) (returned_type returns)
  surely m h None e = tt
  surely m h (Some returns) e =
      list_kept (scope_of_method tables before u m) m.body (kept_or (is_some m.returns) (list_surely_returns m.body) m.name.place h (ap (λ r. is_some r) e))

  no_output : (m : Method) → is_system names_here (spelled_name m.name) ≡ false → (outputs : List Token) → may_write names_here m outputs ≡ true → false ≡ true
  no_output m n outputs h =
      let p = and_parts (is_system names_here (spelled_name m.name)) (not (is_thread u.kind) || nat_eq (length outputs) 0) h in sym n ∙ p.0

  -- a method that is no system method, among these globals, methods and objects
  module _ (globals : Global → Option Ty) (methods : Option (List ℕ) → List MethodTree) (objects : DeclaredObjects)
      (stands : (m : Method) → is_system names_here (spelled_name m.name) ≡ false → MethodBounds m
      → ScopeStands (scope_of_method tables before u m) (names_in_method globals methods objects (method_tree_of tables before u m))) where
    typed_method : (m : Method) → is_system names_here (spelled_name m.name) ≡ false → MethodHolds tables before u names_here m
        → IsTypedMethod globals methods objects (method_tree_of tables before u m)
    typed_method m n h =
        let scope = scope_of_method tables before u m in
        let body = subst (λ b. misplaced_in_all (may_write names_here m) b false m.body ≡ []) (sym (returns_there m.returns)) h.body in (
          (h.bounds.locals, locals_distinct m h.once h.order),
          statements_typed scope (names_in_method globals methods objects (method_tree_of tables before u m)) (stands m n h.bounds) (may_write names_here m) (no_output m n)
              false m.body h.grammar body h.types,
          surely m h.returns m.returns refl,
        )

    typed_methods : (all : List Method) → AllByRecursion (λ (m : Method). is_system names_here (spelled_name m.name) ≡ false) all
        → AllByRecursion (MethodHolds tables before u names_here) all → AreTypedMethods globals methods objects (map (method_tree_of tables before u) all)
    typed_methods [] n h = tt
    typed_methods (m ∷ all) n h = (typed_method m n.0 h.0, typed_methods all n.1 h.1)

    -- the methods of the unit that can be called
    pub methods_typed : AreTypedMethods globals methods objects (method_trees tables before u)
    methods_typed =
        typed_methods (methods_to_call u.kind methods_here) (none_is_system u.kind methods_here)
        (of_called (MethodHolds tables before u names_here) u.kind methods_here all_hold)

  -- ---- the methods of a program

  module _ (runs : is_package u.kind ≡ false) where
    -- what a method of the program may name, with these locals
    abbrev pub names_with : List typed.Variable → List ThreadInstance → Bool → ℕ → Option Ty → NamesInScope
    names_with locals threads system outputs returns = record {
      globals = globals_of program;
      locals = locals;
      methods = methods_of program;
      objects = program.objects;
      threads = threads;
      is_system = system;
      outputs = outputs;
      returns = returns;
    }

    objects_stand : (in_init : Bool) (locals : List typed.Variable) (threads : List ThreadInstance) → (in_init ≡ true → threads ≡ program.threads) → (system : Bool) (outputs : ℕ)
        (returns : Option Ty) (name : List ℕ) (calls : ObjectCalls) → calls_found before in_init name names_here.instances ≡ Some calls
        → ObjectStands (names_with locals threads system outputs returns) name calls
    objects_stand in_init locals threads t system outputs returns name (InstanceCalls methods) h =
        methods_stand before given.stand.packages in_init name methods names_here.instances h
    objects_stand in_init locals threads t system outputs returns name HashCalls h =
        hash_stands before tables before.names.made (scope_of_declarations tables before u) in_init name names_here.instances h
    objects_stand in_init locals threads t system outputs returns name IteratorCalls h = iterator_stands before in_init name names_here.instances h
    objects_stand true locals threads t system outputs returns name (ParameterCalls parameters) h =
        let p = parameters_stand before given.stand name parameters names_here.instances (threads_known laws tables before u given) h in
        (ap (λ (is : List ThreadInstance). thread_parameters is name) (t refl) ∙ p.0, p.1)
    objects_stand false locals threads t system outputs returns name (ParameterCalls parameters) h =
        absurd (no_parameters_called before name parameters names_here.instances h)

    -- a flag or a BY variable of the reading statement of `run`
    flag_here : (name : List ℕ) → is_listed (names_alone names_here.flags) name ≡ true → is_present (inputs_of program.reading) name ≡ true
    flag_here name h =
        flag_stands tables before.names.made (typed_stage_columns (unit_stage tables before u)) methods_here name
        (subst (λ (r : Option source_reading.Reading). is_listed (names_alone (flag_names (tables_of_reading r))) name ≡ true) (reading_is laws tables before u given runs) h)

    by_here : (name : List ℕ) → is_listed (names_alone names_here.bys) name ≡ true → is_by (bys_of program.reading) name ≡ true
    by_here name h =
        by_stands tables before.names.made (typed_stage_columns (unit_stage tables before u)) methods_here name
        (subst (λ (r : Option source_reading.Reading). is_listed (names_alone (map (λ (b : source_by.ByVariable). placed_name b.name) (bys_of_reading r))) name ≡ true)
        (reading_is laws tables before u given runs) h)

    pub scope_stands : (in_init : Bool) (locals : List typed.Variable) (returned : Option Ty) → AreInBounds locals → IsBoundedIfAny returned
        → (here : List typed.Variable) → locals ≡ here → (threads : List ThreadInstance) → (in_init ≡ true → threads ≡ program.threads) → (system : Bool) (outputs : ℕ)
        → (system ≡ true → length (made_names u.kind u) ≡ outputs) → (returns : Option Ty) → returns ≡ returned
        → ScopeStands (scope_with tables before u in_init locals returned) (names_with here threads system outputs returns)
    scope_stands in_init locals returned bounds result here e threads t system outputs o returns r = record {
      locals = λ name ty h. (subst (λ (vs : List typed.Variable). type_in vs name ≡ Some ty) e h, bounded_in locals bounds name ty h);
      variables = λ name ty h. (h, bounded_in (vector_variables tables before u) (vector_bounds laws tables before u given) name ty h);
      parameters = λ name ty h. (h, bounded_in (parameter_variables u) (parameter_bounds laws tables before u given) name ty h);
      objects = λ name calls h.
          objects_stand in_init here threads t system outputs returns name calls (unhidden (is_some (type_in locals name)) (calls_found before in_init name names_here.instances) calls h);
      flags = λ name h. ap flag_type (flag_here name h);
      firsts = λ name h. ap flag_type (by_here name h);
      lasts = λ name h. ap flag_type (by_here name h);
      methods = λ name m h. method_stands name m h;
      outputs = o;
      returns = r;
      return_bounds = result;
    }

    -- as many outputs are named as are made
    one_if_named : (name : Option Token) → length (option_map_or (λ (t : Token). spelled_name t ∷ []) name []) ≡ length (option_map_or (λ (t : Token). thread_output tables before u t ∷ []) name [])
    one_if_named None = refl
    one_if_named (Some t) = refl

    outputs_of_kind : (kind : UnitKind) → length (made_names kind u) ≡ length (unit_outputs tables before u kind)
    outputs_of_kind OfPackage = refl
    outputs_of_kind OfThread = one_if_named u.name
    outputs_of_kind OfData =
        length-map (made_outputs u) (λ (o : source_output.OutputTable). spelled_name o.table) ∙ sym (length-map (made_outputs u) (made_output tables before u))

    -- what the declarations of the program see
    pub declarations_stand : ScopeStands (scope_of_declarations tables before u) (names_with [] [] true (length program.outputs) None)
    declarations_stand =
        scope_stands false [] None tt tt [] refl [] (λ e. absurd (true≢false (sym e))) true (length program.outputs) (λ x. outputs_of_kind u.kind) None refl

    -- ---- methods that can be called

    callable_stands : (m : Method) → is_system names_here (spelled_name m.name) ≡ false → MethodBounds m
        → ScopeStands (scope_of_method tables before u m) (names_in_method (globals_of program) (methods_of program) program.objects (method_tree_of tables before u m))
    callable_stands m n bounds =
        scope_stands (is_init_method u.kind m) (variables_in_method m) (returned_type m.returns) bounds.locals bounds.result (variables_in_method m) refl []
        (λ e. absurd (true≢false (no_init u.kind m n e))) false 0 (λ e. absurd (true≢false (sym e))) (returned_type m.returns) refl

    pub program_methods : AreTypedMethods (globals_of program) (methods_of program) program.objects program.methods
    program_methods = methods_typed (globals_of program) (methods_of program) program.objects callable_stands

    -- ---- system methods

    is_system_here : (name : List ℕ) → is_system_name name ≡ true → is_system names_here name ≡ true
    is_system_here name h = and_from (not (is_package u.kind)) (is_system_name name) (not_from_false (is_package u.kind) runs) h

    system_parts : (m : Method) → is_system_name (spelled_name m.name) ≡ true → misplaced_head names_here m ≡ []
        → (m.parameters.list ≡ []) × (returned_type m.returns ≡ None)
    system_parts m s h =
        let own = nat_eq (length m.parameters.list) 0 && is_none m.returns in
        let system = is_system names_here (spelled_name m.name) in
        let holds = behind_not system own (unplaced (not system || own) m.keyword.place h) (is_system_here (spelled_name m.name) s) in
        let p = and_parts (nat_eq (length m.parameters.list) 0) (is_none m.returns) holds in
        (no_items m.parameters.list p.0, no_result m.returns p.1)

    no_parameters : (m : Method) → m.parameters.list ≡ [] → variables_in_method m ≡ declared_variables m.locals
    no_parameters m e = ap (λ ps. with_parameters_of (map elaborated_parameter ps) (declared_variables m.locals)) e

    -- the statements of a system method, which may set the parameters of these instances of thread programs
    typed_system : (m : Method) → is_system_name (spelled_name m.name) ≡ true → MethodHolds tables before u names_here m → (threads : List ThreadInstance)
        → (is_init_method u.kind m ≡ true → threads ≡ program.threads)
        → AreTypedVariables (declared_variables m.locals)
        × AreTypedStatements (names_with (declared_variables m.locals) threads true (length program.outputs) None) false (statements_node (scope_of_method tables before u m) m.body)
    typed_system m s h threads t =
        let parts = system_parts m s h.head in
        let e = no_parameters m parts.0 in
        let scope = scope_of_method tables before u m in
        let stands = scope_stands (is_init_method u.kind m) (variables_in_method m) (returned_type m.returns) h.bounds.locals h.bounds.result (declared_variables m.locals) e
        threads t true (length program.outputs) (λ x. outputs_of_kind u.kind) None (sym parts.1) in
        let body = subst (λ b. misplaced_in_all (may_write names_here m) b false m.body ≡ []) (sym (returns_there m.returns)) h.body in (
          (subst AreInBounds e h.bounds.locals, subst (λ (vs : List typed.Variable). are_distinct (variable_names vs) ≡ true) e (locals_distinct m h.once h.order)),
          statements_typed scope (names_with (declared_variables m.locals) threads true (length program.outputs) None) stands (may_write names_here m) (λ outputs x. refl)
              false m.body h.grammar body h.types,
        )

    found_has_name : (b : Bool) (m x : Method) (rest : Option Method) (name : List ℕ) → bytes_eq (spelled_name m.name) name ≡ b
        → (rest ≡ Some x → bytes_eq (spelled_name x.name) name ≡ true) → (if b then Some m else rest) ≡ Some x → bytes_eq (spelled_name x.name) name ≡ true
    found_has_name true m x rest name e f h = subst (λ (y : Method). bytes_eq (spelled_name y.name) name ≡ true) (same_item m x h) e
    found_has_name false m x rest name e f h = f h

    named_has_name : (methods : List Method) (name : List ℕ) (x : Method) → method_named methods name ≡ Some x → bytes_eq (spelled_name x.name) name ≡ true
    named_has_name [] name x h = cc
    named_has_name (m ∷ methods) name x h =
        found_has_name (bytes_eq (spelled_name m.name) name) m x (method_named methods name) name refl (named_has_name methods name x) h

    -- a system method that is called so is `init` only where that is its name
    init_by_name : (m : Method) (name : List ℕ) → bytes_eq (spelled_name m.name) name ≡ true → is_init_method u.kind m ≡ true → bytes_eq name (codes "init") ≡ true
    init_by_name m name e h =
        let own = same_bytes (spelled_name m.name) name e in
        subst (λ (n : List ℕ). bytes_eq n (codes "init") ≡ true) own (and_parts (not (is_package u.kind)) (bytes_eq (spelled_name m.name) (codes "init")) h).1

    -- the system method of a name, where there is one
    abbrev pub StatementsOfBody : List ThreadInstance → Option Method → Type 0
    StatementsOfBody threads found =
        AreTypedVariables (body_of_method tables before u found).locals
        × AreTypedStatements (names_with (body_of_method tables before u found).locals threads true (length program.outputs) None) false (body_of_method tables before u found).statements

    pub typed_body : (name : List ℕ) → is_system_name name ≡ true → (threads : List ThreadInstance) → (bytes_eq name (codes "init") ≡ true → threads ≡ program.threads)
        → (found : Option Method) → method_named methods_here name ≡ found → StatementsOfBody threads found
    typed_body name s threads t None e = ((tt, refl), tt)
    typed_body name s threads t (Some m) e =
        let named = named_has_name methods_here name m e in
        let own = same_bytes (spelled_name m.name) name named in
        typed_system m (ap is_system_name own ∙ s) (of_named (MethodHolds tables before u names_here) methods_here all_hold name m e) threads
        (λ h. t (init_by_name m name named h))

    pub init_statements : StatementsOfBody program.threads (method_named methods_here (codes "init"))
    init_statements = typed_body (codes "init") refl program.threads (λ h. refl) (method_named methods_here (codes "init")) refl

    pub run_typed : IsTypedBody program program.run
    run_typed = typed_body (codes "run") refl [] (λ h. absurd (true≢false (sym h))) (method_named methods_here (codes "run")) refl

    pub term_typed : IsTypedBody program program.term
    term_typed = typed_body (codes "term") refl [] (λ h. absurd (true≢false (sym h))) (method_named methods_here (codes "term")) refl
