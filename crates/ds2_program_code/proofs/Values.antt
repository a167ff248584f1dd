-- The code of a typed program within limits holds values that an object file can hold.
use Rattle.std.proofs.Common.{◌≡◌, ℕ, suc, ◌+◌, nat_le, Bool, true, false, ◌&&◌, ◌||◌, List, [], ◌∷◌, ◌++◌, length, map, flat_map, slice_get, Option, Some, None, IsTrue, refl, ap, ◌∙◌, codes, le-leb, if◌then◌else◌}
use Rattle.std.specs.List.{AllByRecursion, list_all, fold}
use Rattle.std.specs.Option.{option_map, option_map_or}
use Rattle.std.proofs.lemmas.Bool.{and_from, and_parts}
use Rattle.ds2_token.specs.Words.{is_table_name}
use Rattle.ds2_value.specs.Schema.{distinct_names, types_in_bounds}
use Rattle.ds2_value.specs.Types.{in_bounds}
use Rattle.ds2_value.specs.Value.{is_null}
use Rattle.ds2_value.specs.declared.schema.Column.{Column}
use Rattle.ds2_value.specs.declared.ty.Ty.{Ty}
use Rattle.ds2_meaning.specs.declared.globals.OutputTable.{OutputTable}
use Rattle.ds2_meaning.specs.declared.globals.Variable.{Variable}
use Rattle.ds2_meaning.specs.declared.hashes.DeclaredHash.{DeclaredHash}
use Rattle.ds2_meaning.specs.declared.hashes.LoadedTable.{LoadedTable}
use Rattle.ds2_meaning.specs.declared.location.Global.{Global}
use Rattle.ds2_meaning.specs.declared.location.Global.TheVariants.{Named, Parameter as ParameterNamed}
use Rattle.ds2_meaning.specs.declared.methods.Parameter.{Parameter}
use Rattle.ds2_meaning.specs.declared.readings.ByVariable.{ByVariable}
use Rattle.ds2_meaning.specs.declared.readings.Input.{Input}
use Rattle.ds2_meaning.specs.declared.readings.Reading.{Reading}
use Rattle.ds2_meaning.specs.declared.readings.Reading.TheVariants as read
use Rattle.ds2_meaning.specs.IsTyped.{with_parameters_of, NamesInScope, expression_type, class_of, TypeClass, globals_of, package_globals, IsTypedExpression, IsTypedStatement, AreTypedStatements, AreTypedWhens, AreTypedValueWhens, AreInBounds, AreBehindConstructors, names_in_method, names_in_body, names_in_init, AreTypedHashes, AreTypedInstances, IsTypedLoad, AreTypedInputs, IsTypedReading, IsTypedUnit}
use Rattle.ds2_meaning.specs.Location.{Home}
use Rattle.ds2_meaning.specs.ProgramTree.{BodyTree, InstanceTree, UnitTree, data_vector, objects_of}
use Rattle.ds2_meaning.specs.Reading.{inputs_of, bys_of}
use Rattle.ds2_meaning.specs.TypedExpression.{TypedExpression}
use Rattle.ds2_meaning.specs.TypedStatement.{TypedStatement, Empty, Assign, Invoke, Evaluate, SetParameters, Construct, Leave, Continue, Return, ReturnValue, Output, Put, If, IfElse, Select, SelectValue, Block, Count, While, Until, TypedStatements, Finish, Next, TypedWhens, NoOtherwise, Otherwise, When}
use Rattle.ds2_layout.specs.declared.slot.LayoutSlot.{LayoutSlot}
use Rattle.ds2_layout.specs.declared.slot.SlotRole.TheVariants as layout_role
use Rattle.ds2_layout.specs.Layout.{vector_role, slot_for, vector_slots, parameter_slots, input_flag_slots, by_flag_slots, instance_slots, program_slots}
use Rattle.ds2_code.specs.declared.parts.HashPart.{HashPart}
use Rattle.ds2_code.specs.declared.parts.HashTable.{HashTable}
use Rattle.ds2_code.specs.declared.parts.OutputPart.{OutputPart}
use Rattle.ds2_code.specs.declared.parts.ParameterPart.{ParameterPart}
use Rattle.ds2_code.specs.declared.parts.ReadPart.{ReadPart}
use Rattle.ds2_code.specs.declared.parts.Slot.{Slot}
use Rattle.ds2_code.specs.declared.parts.SlotRole.TheVariants.{Kept}
use Rattle.ds2_code.specs.OperandTypes.{CodeRole, OfUnit}
use Rattle.ds2_code.specs.ValidCode.{reference_allowed, constant_allowed, method_allowed, reading_allowed, values_allowed}
use Rattle.ds2_gen.specs.ExpressionCode.{CodeNumbers}
use Rattle.ds2_gen.specs.MethodCode.{parameter_part, method_code}
use Rattle.ds2_program_code.specs.KeptTypes.{types_of_count, types_kept, all_types_kept, whens_types_kept, EachValueHasType}
use Rattle.ds2_program_code.specs.PlacedProgram.{layout_size, first_of_run, first_of_term}
use Rattle.ds2_program_code.specs.UsedConstants.{UsedConstant}
use Rattle.ds2_program_code.specs.CodeConstants.{with_used_constant, constant_part}
use Rattle.ds2_program_code.specs.CodeMethods.{CodeMethod, code_methods}
use Rattle.ds2_program_code.specs.CodeParts.{layout_slot, own_types, slots_of_body, code_slots, table_part, hash_table_part, hash_part, hash_parts, input_part, reading_part, output_part}
use Rattle.ds2_program_code.specs.ProgramCode.{constants_of_program, code_constants, system_numbers, method_numbers, method_part, method_parts, methods_entry, program_code}
use Rattle.ds2_program_code.specs.TypedCode.{FitsCodeLimits}
use Rattle.ds2_program_code.specs.ValidProgram.{MayStandInCode, HasTableName, HaveTableNames, FitsValueLimits, TypedValuesAreAllowed}
use Rattle.ds2_program_code.specs.TypedOperands.{NamesHaveTypes}
use Rattle.ds2_program_code.proofs.TypeBounds.{expression_bounds}
use Rattle.ds2_program_code.proofs.Bodies.{owned}
use Rattle.ds2_program_code.proofs.BodyTypes.{role_of, body_types, init_types, method_types}
use Rattle.ds2_program_code.proofs.Constants.{is_listed_in}
use Rattle.ds2_program_code.proofs.Names.{methods_from}
use Rattle.ds2_program_code.proofs.OwnSlots.{init_slots, run_slots, term_slots}
use Rattle.ds2_program_code.proofs.ProgramFits.{method_typed_at}
use Rattle.ds2_program_code.proofs.Ranges.{all_both}
use Rattle.ds2_program_code.proofs.Slots.{globals_at}
use Rattle.ds2_program_code.proofs.TypedPoints.{listed_back}

-- ---- lists

all_of_map : {A X : Type 0} (test : X → Bool) (f : A → X) (xs : List A) → list_all (λ x. test (f x)) xs ≡ true → list_all test (map f xs) ≡ true
all_of_map test f [] e = refl
all_of_map test f (x ∷ xs) e =
    let parts = and_parts (test (f x)) (list_all (λ y. test (f y)) xs) e in
    and_from (test (f x)) (list_all test (map f xs)) parts.0 (all_of_map test f xs parts.1)

all_of_flat : {A X : Type 0} (test : X → Bool) (f : A → List X) (xs : List A) → ((x : A) → list_all test (f x) ≡ true) → list_all test (flat_map f xs) ≡ true
all_of_flat test f [] h = refl
all_of_flat test f (x ∷ xs) h = all_both test (f x) (flat_map f xs) (h x) (all_of_flat test f xs h)

-- ---- types that code keeps

module _ (names : NamesInScope) (bounds : (e : TypedExpression) → IsTypedExpression names e → in_bounds (expression_type e) ≡ true) where
  count_bounds : (step : Option TypedExpression) → list_all in_bounds (types_of_count step) ≡ true
  count_bounds None = refl
  count_bounds (Some e) = refl

  mutual
    kept_bounds : (loop : Bool) (t : TypedStatement) → IsTypedStatement names loop t → list_all in_bounds (types_kept t) ≡ true
    kept_bounds loop (Empty place) typed = refl
    kept_bounds loop (Assign place r e) typed = refl
    kept_bounds loop (Invoke place instance number arguments) typed = refl
    kept_bounds loop (Evaluate place e) typed = refl
    kept_bounds loop (SetParameters place instance values) typed = refl
    kept_bounds loop (Construct place instance constructor arguments) typed = refl
    kept_bounds loop (Leave place) typed = refl
    kept_bounds loop (Continue place) typed = refl
    kept_bounds loop (Return place) typed = refl
    kept_bounds loop (ReturnValue place e) typed = refl
    kept_bounds loop (Output place outputs) typed = refl
    kept_bounds loop (Put place items) typed = refl
    kept_bounds loop (If place e on) typed = kept_bounds loop on typed.1
    kept_bounds loop (IfElse place e on off) typed = all_both in_bounds (types_kept on) (types_kept off) (kept_bounds loop on typed.1) (kept_bounds loop off typed.2)
    kept_bounds loop (Select place whens) typed = whens_bounds loop whens typed
    kept_bounds loop (SelectValue place e whens) typed =
        and_from (in_bounds (expression_type e)) (list_all in_bounds (whens_types_kept whens)) (bounds e typed.0) (value_bounds loop (class_of (expression_type e)) whens typed.1)
    kept_bounds loop (Block place body) typed = all_kept_bounds loop body typed
    kept_bounds loop (Count place r start end step body) typed = all_both in_bounds (types_of_count step) (all_types_kept body) (count_bounds step) (all_kept_bounds true body typed.5)
    kept_bounds loop (While place e body) typed = all_kept_bounds true body typed.1
    kept_bounds loop (Until place e body) typed = all_kept_bounds true body typed.1

    all_kept_bounds : (loop : Bool) (ts : TypedStatements) → AreTypedStatements names loop ts → list_all in_bounds (all_types_kept ts) ≡ true
    all_kept_bounds loop Finish typed = refl
    all_kept_bounds loop (Next t rest) typed = all_both in_bounds (types_kept t) (all_types_kept rest) (kept_bounds loop t typed.0) (all_kept_bounds loop rest typed.1)

    whens_bounds : (loop : Bool) (whens : TypedWhens) → AreTypedWhens names loop whens → list_all in_bounds (whens_types_kept whens) ≡ true
    whens_bounds loop NoOtherwise typed = refl
    whens_bounds loop (Otherwise t) typed = kept_bounds loop t typed
    whens_bounds loop (When tests t rest) typed = all_both in_bounds (types_kept t) (whens_types_kept rest) (kept_bounds loop t typed.1) (whens_bounds loop rest typed.2)

    value_bounds : (loop : Bool) (kind : TypeClass) (whens : TypedWhens) → AreTypedValueWhens names loop kind whens → list_all in_bounds (whens_types_kept whens) ≡ true
    value_bounds loop kind NoOtherwise typed = refl
    value_bounds loop kind (Otherwise t) typed = kept_bounds loop t typed
    value_bounds loop kind (When tests t rest) typed = all_both in_bounds (types_kept t) (whens_types_kept rest) (kept_bounds loop t typed.1) (value_bounds loop kind rest typed.2)

  behind_bounds : (instances : List InstanceTree) (ts : TypedStatements) → AreBehindConstructors names instances ts → list_all in_bounds (all_types_kept ts) ≡ true
  behind_bounds [] ts typed = all_kept_bounds false ts typed
  behind_bounds (i ∷ instances) (Next (Construct place instance constructor arguments) rest) typed = behind_bounds instances rest typed.3
  behind_bounds (i ∷ instances) _ typed = absurd typed

-- ---- variables

bounded_types : (vs : List Variable) → AreInBounds vs → list_all in_bounds (map (λ (v : Variable). v.ty) vs) ≡ true
bounded_types [] h = refl
bounded_types (v ∷ vs) h = and_from (in_bounds v.ty) (list_all in_bounds (map (λ (x : Variable). x.ty) vs)) h.0 (bounded_types vs h.1)

own_bounds : (body : BodyTree) → AreInBounds body.locals → list_all in_bounds (all_types_kept body.statements) ≡ true → list_all in_bounds (own_types body) ≡ true
own_bounds body locals kept = all_both in_bounds (map (λ (v : Variable). v.ty) body.locals) (all_types_kept body.statements) (bounded_types body.locals locals) kept

-- ---- slots

abbrev slot_bound : Slot → Bool
slot_bound s = in_bounds s.ty

abbrev layout_bound : LayoutSlot → Bool
layout_bound s = in_bounds s.ty

variables_bound : (f : Variable → LayoutSlot) → ((v : Variable) → LayoutSlot.ty (f v) ≡ v.ty) → (vs : List Variable) → AreInBounds vs → list_all layout_bound (map f vs) ≡ true
variables_bound f same [] h = refl
variables_bound f same (v ∷ vs) h = and_from (in_bounds (LayoutSlot.ty (f v))) (list_all layout_bound (map f vs)) (ap in_bounds (same v) ∙ h.0) (variables_bound f same vs h.1)

input_bound : (i : Input) (present : Option (List ℕ)) → list_all layout_bound (input_flag_slots (record i { present = present })) ≡ true
input_bound i None = refl
input_bound i (Some name) = refl

instances_bound : (instances : List InstanceTree) → AreTypedInstances instances → list_all layout_bound (flat_map instance_slots instances) ≡ true
instances_bound [] typed = refl
instances_bound (i ∷ instances) typed =
    all_both layout_bound (instance_slots i) (flat_map instance_slots instances)
    (variables_bound (λ (v : Variable). slot_for (Some i.name) (Named v.name) v.ty layout_role.Kept) (λ v. refl) i.variables typed.0.0) (instances_bound instances typed.4)

layout_bounds : (p : UnitTree) → IsTypedUnit p → list_all layout_bound (program_slots p) ≡ true
layout_bounds p typed =
    let inputs = flat_map input_flag_slots (inputs_of p.reading) in
    let bys = flat_map by_flag_slots (bys_of p.reading) in
    all_both layout_bound (vector_slots p ++ parameter_slots p ++ inputs ++ bys) (flat_map instance_slots p.instances)
    (all_both layout_bound (vector_slots p ++ parameter_slots p ++ inputs) bys
    (all_both layout_bound (vector_slots p ++ parameter_slots p) inputs
    (all_both layout_bound (vector_slots p) (parameter_slots p)
    (variables_bound (λ (v : Variable). slot_for None (Named v.name) v.ty (vector_role p v.name)) (λ v. refl) (data_vector p) (IsTypedUnit.variables typed).0)
    (variables_bound (λ (v : Variable). slot_for None (ParameterNamed v.name) v.ty layout_role.Kept) (λ v. refl) p.parameters (IsTypedUnit.parameters typed).0))
    (all_of_flat layout_bound input_flag_slots (inputs_of p.reading) (λ i. input_bound i i.present))) (all_of_flat layout_bound by_flag_slots (bys_of p.reading) (λ b. refl))) (instances_bound p.instances typed.instances)

body_bound : (name : List ℕ) (body : BodyTree) → list_all in_bounds (own_types body) ≡ true → list_all slot_bound (slots_of_body name body) ≡ true
body_bound name body h = all_of_map slot_bound (λ (ty : Ty). record { name = name; ty = ty; role = Kept }) (own_types body) h

-- ---- constants

abbrev constant_fits : UsedConstant → Bool
constant_fits c = constant_allowed (constant_part c)

joined_by : (null there : Bool) (constants : List UsedConstant) (c : UsedConstant) → (null ≡ false → constant_fits c ≡ true) → list_all constant_fits constants ≡ true → list_all constant_fits (if null || there then constants else constants ++ c ∷ []) ≡ true
joined_by true there constants c may h = h
joined_by false true constants c may h = h
joined_by false false constants c may h = all_both constant_fits constants (c ∷ []) h (and_from (constant_fits c) true (may refl) refl)

constants_fit : (used constants : List UsedConstant) → AllByRecursion MayStandInCode used → list_all constant_fits constants ≡ true → list_all constant_fits (fold with_used_constant constants used) ≡ true
constants_fit [] constants may h = h
constants_fit (c ∷ used) constants may h = constants_fit used (with_used_constant constants c) may.1 (joined_by (is_null c.value) (is_listed_in constants c) constants c may.0 h)

-- ---- tables

columns_bound : (columns : List Column) → (distinct_names columns && types_in_bounds columns) ≡ true → list_all (λ (c : Column). in_bounds c.ty) columns ≡ true
columns_bound columns schema = (and_parts (distinct_names columns) (types_in_bounds columns) schema).1

abbrev hash_fits : HashPart → Bool
hash_fits h = option_map_or (λ (t : HashTable). reference_allowed t.table) h.loaded true

loaded_fits : (hash : DeclaredHash) (o : Option LoadedTable) → IsTypedLoad hash o → HasTableName o → option_map_or (λ (t : HashTable). reference_allowed t.table) (option_map (hash_table_part hash) o) true ≡ true
loaded_fits hash None typed named = refl
loaded_fits hash (Some loaded) typed named = and_from (is_table_name loaded.table.name) (list_all (λ (c : Column). in_bounds c.ty) loaded.columns) named (columns_bound loaded.columns typed.0)

hashes_fit : (p : UnitTree) (home : Home) (globals : Global → Option Ty) (hashes : List DeclaredHash) → AreTypedHashes globals hashes → HaveTableNames hashes → list_all hash_fits (map (hash_part p home) hashes) ≡ true
hashes_fit p home globals [] typed named = refl
hashes_fit p home globals (h ∷ hashes) typed named =
    and_from (hash_fits (hash_part p home h)) (list_all hash_fits (map (hash_part p home) hashes)) (loaded_fits h h.loaded typed.0.3 named.0) (hashes_fit p home globals hashes typed.1 named.1)

instance_hashes_fit : (p : UnitTree) (instances : List InstanceTree) → AreTypedInstances instances → AllByRecursion (λ (i : InstanceTree). HaveTableNames i.objects.hashes) instances
    → list_all hash_fits (flat_map (λ (i : InstanceTree). map (hash_part p (Some i.name)) i.objects.hashes) instances) ≡ true
instance_hashes_fit p [] typed named = refl
instance_hashes_fit p (i ∷ instances) typed named =
    all_both hash_fits (map (hash_part p (Some i.name)) i.objects.hashes) (flat_map (λ (x : InstanceTree). map (hash_part p (Some x.name)) x.objects.hashes) instances)
    (hashes_fit p (Some i.name) (package_globals i.variables) i.objects.hashes typed.2.0 named.0) (instance_hashes_fit p instances typed.4 named.1)

inputs_fit : (p : UnitTree) (bys : List ByVariable) (inputs : List Input) → AreTypedInputs (data_vector p) bys inputs → AllByRecursion (λ (i : Input). IsTrue (is_table_name i.table.name)) inputs
    → list_all (λ (r : ReadPart). reference_allowed r.table) (map (input_part p) inputs) ≡ true
inputs_fit p bys [] typed named = refl
inputs_fit p bys (i ∷ inputs) typed named =
    and_from (reference_allowed (table_part i.table i.columns)) (list_all (λ (r : ReadPart). reference_allowed r.table) (map (input_part p) inputs))
    (and_from (is_table_name i.table.name) (list_all (λ (c : Column). in_bounds c.ty) i.columns) named.0 (columns_bound i.columns typed.0)) (inputs_fit p bys inputs typed.3 named.1)

reading_fits_values : (p : UnitTree) (r : Reading) → IsTypedReading (data_vector p) r → AllByRecursion (λ (i : Input). IsTrue (is_table_name i.table.name)) (inputs_of r) → reading_allowed (reading_part p r) ≡ true
reading_fits_values p read.Nothing typed named = refl
reading_fits_values p read.Once typed named = refl
reading_fits_values p (read.Set inputs bys) typed named = inputs_fit p bys inputs typed.2 named
reading_fits_values p (read.Merge inputs bys retains) typed named = inputs_fit p bys inputs typed.2 named
reading_fits_values p (read.From instance workers columns) typed named = and_from (nat_le 1 workers) (nat_le workers 64) (le-leb 1 workers typed.0) (le-leb workers 64 typed.1)

outputs_fit : (p : UnitTree) (outputs : List OutputTable) → AllByRecursion (λ (o : OutputTable). IsTrue (is_table_name o.name)) outputs → list_all (λ (o : OutputPart). is_table_name o.name) (map (output_part p) outputs) ≡ true
outputs_fit p [] named = refl
outputs_fit p (o ∷ outputs) named = and_from (is_table_name o.name) (list_all (λ (x : OutputPart). is_table_name x.name) (map (output_part p) outputs)) named.0 (outputs_fit p outputs named.1)

-- ---- methods

abbrev parameter_bound : ParameterPart → Bool
parameter_bound x = in_bounds x.ty

parameters_bound : (ps : List Parameter) (locals : List Variable) → AreInBounds (with_parameters_of ps locals) → list_all parameter_bound (map parameter_part ps) ≡ true
parameters_bound [] locals h = refl
parameters_bound (x ∷ ps) locals h = and_from (in_bounds x.ty) (list_all parameter_bound (map parameter_part ps)) h.0 (parameters_bound ps locals h.1)

locals_bound : (ps : List Parameter) (locals : List Variable) → AreInBounds (with_parameters_of ps locals) → AreInBounds locals
locals_bound [] locals h = h
locals_bound (x ∷ ps) locals h = locals_bound ps locals h.1

result_bound : (o : Option Ty) → ((ty : Ty) → o ≡ Some ty → in_bounds ty ≡ true) → option_map_or in_bounds o true ≡ true
result_bound None h = refl
result_bound (Some ty) h = h ty refl

-- each expression of names that have types in code has a type in bounds
bounds_of : (p : UnitTree) (role : CodeRole) (numbers : CodeNumbers) (names : NamesInScope) → NamesHaveTypes (program_code p) role numbers names → (e : TypedExpression) → IsTypedExpression names e → in_bounds (expression_type e) ≡ true
bounds_of p role numbers names have e typed = expression_bounds names have.bounds have.results e typed

module _ (values : EachValueHasType) (p : UnitTree) (typed : IsTypedUnit p) (limits : FitsCodeLimits p) where
  method_fits : (n : ℕ) (m : CodeMethod) → slice_get (code_methods p) n ≡ Some m → (entry : ℕ) → method_allowed (method_part entry m.method) ≡ true
  method_fits n m e entry =
      let it = listed_back p typed n m e in
      let is = method_typed_at p typed m.home it.0 m.method it.1 in
      let bounds = is.0.0 in
      let method = m.method in
      let names = names_in_method (globals_at p m.home) (methods_from p m.home) (objects_of p m.home) method in
      let each = bounds_of p (role_of method) (method_numbers p (owned m.home method)) names (method_types p m.home method typed limits is.0) in
      let types = map (λ (v : Variable). v.ty) method.locals in
      let kept = all_kept_bounds names each false method.body is.1 in
      and_from (list_all parameter_bound (map parameter_part method.parameters) && list_all in_bounds (types ++ all_types_kept method.body)) (option_map_or in_bounds method.returns true)
      (and_from (list_all parameter_bound (map parameter_part method.parameters)) (list_all in_bounds (types ++ all_types_kept method.body)) (parameters_bound method.parameters method.locals bounds)
      (all_both in_bounds types (all_types_kept method.body) (bounded_types method.locals (locals_bound method.parameters method.locals bounds)) kept))
      (result_bound method.returns (λ ty f. limits.results m.home it.0 method ty it.1 f))

  methods_fit : (at : ℕ) (methods : List CodeMethod) → ((n : ℕ) (m : CodeMethod) → slice_get methods n ≡ Some m → (entry : ℕ) → method_allowed (method_part entry m.method) ≡ true) → list_all method_allowed (method_parts p at methods) ≡ true
  methods_fit at [] each = refl
  methods_fit at (m ∷ methods) each =
      let next = at + length (method_code (method_numbers p m) at m.method) in
      and_from (method_allowed (method_part at m.method)) (list_all method_allowed (method_parts p next methods)) (each 0 m refl at) (methods_fit next methods (λ n x e entry. each (suc n) x e entry))

  -- ---- the whole

  init_bounds : list_all in_bounds (own_types p.init) ≡ true
  init_bounds =
      let is = IsTypedUnit.init typed in
      let first = layout_size p in
      let names = names_in_init p p.init.locals in
      own_bounds p.init is.0.0 (behind_bounds names (bounds_of p OfUnit (system_numbers p first p.init) names (init_types p first p.init (init_slots values p) typed limits is.0)) p.instances p.init.statements is.1)

  run_bounds : list_all in_bounds (own_types p.run) ≡ true
  run_bounds =
      let is = IsTypedUnit.run typed in
      let first = first_of_run p in
      let names = names_in_body p p.run.locals in
      own_bounds p.run is.0.0 (all_kept_bounds names (bounds_of p OfUnit (system_numbers p first p.run) names (body_types p first p.run (run_slots values p) typed limits is.0)) false p.run.statements is.1)

  term_bounds : list_all in_bounds (own_types p.term) ≡ true
  term_bounds =
      let is = IsTypedUnit.term typed in
      let first = first_of_term p in
      let names = names_in_body p p.term.locals in
      own_bounds p.term is.0.0 (all_kept_bounds names (bounds_of p OfUnit (system_numbers p first p.term) names (body_types p first p.term (term_slots values p) typed limits is.0)) false p.term.statements is.1)

  slots_bound : list_all slot_bound (code_slots p) ≡ true
  slots_bound =
      let layout = map layout_slot (program_slots p) in
      let init = slots_of_body (codes "init") p.init in
      let run = slots_of_body (codes "run") p.run in
      let term = slots_of_body (codes "term") p.term in
      all_both slot_bound layout (init ++ (run ++ term)) (all_of_map slot_bound layout_slot (program_slots p) (layout_bounds p typed))
      (all_both slot_bound init (run ++ term) (body_bound (codes "init") p.init init_bounds) (all_both slot_bound run term (body_bound (codes "run") p.run run_bounds) (body_bound (codes "term") p.term term_bounds)))

  all_hashes_fit : FitsValueLimits p → list_all hash_fits (hash_parts p) ≡ true
  all_hashes_fit within =
      all_both hash_fits (map (hash_part p None) p.objects.hashes) (flat_map (λ (i : InstanceTree). map (hash_part p (Some i.name)) i.objects.hashes) p.instances)
      (hashes_fit p None (globals_of p) p.objects.hashes typed.objects.0 within.hashes) (instance_hashes_fit p p.instances typed.instances within.instances)

  all_constants_fit : FitsValueLimits p → list_all constant_allowed (map constant_part (code_constants p)) ≡ true
  all_constants_fit within = all_of_map constant_allowed constant_part (code_constants p) (constants_fit (constants_of_program p) [] within.constants refl)

  values_fit : FitsValueLimits p → values_allowed (program_code p) ≡ true
  values_fit within =
      let slots = list_all slot_bound (code_slots p) in
      let constants = list_all constant_allowed (map constant_part (code_constants p)) in
      let hashes = list_all hash_fits (hash_parts p) in
      let methods = list_all method_allowed (method_parts p (methods_entry p) (code_methods p)) in
      let reading = reading_allowed (reading_part p p.reading) in
      let outputs = list_all (λ (o : OutputPart). is_table_name o.name) (map (output_part p) p.outputs) in
      and_from (slots && constants) ((hashes && methods) && (reading && outputs)) (and_from slots constants slots_bound (all_constants_fit within))
      (and_from (hashes && methods) (reading && outputs) (and_from hashes methods (all_hashes_fit within) (methods_fit (methods_entry p) (code_methods p) method_fits))
      (and_from reading outputs (reading_fits_values p p.reading typed.reading within.inputs) (outputs_fit p p.outputs within.outputs)))

pub typed_values_are_allowed : EachValueHasType → TypedValuesAreAllowed
typed_values_are_allowed values p typed limits within = values_fit values p typed limits within
