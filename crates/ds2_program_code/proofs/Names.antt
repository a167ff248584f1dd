-- All that the statements of a typed unit may name has its place in its code.
use Rattle.std.proofs.Common.{◌≡◌, ℕ, zero, suc, ◌+◌, ◌<◌, Bool, true, false, ◌&&◌, cond, List, [], ◌∷◌, ◌++◌, length, map, flat_map, slice_get, bytes_eq, Option, Some, None, unwrap_or, is_some, refl, sym, ap, ◌∙◌, subst, arith, if◌then◌else◌}
use Rattle.std.specs.List.{list_any, position_from}
use Rattle.std.specs.Option.{option_map}
use Rattle.std.proofs.lemmas.Bool.{and_right}
use Rattle.std.proofs.lemmas.Iterator.Adapters.{position_from-zero}
use Rattle.ds2_value.specs.declared.ty.Ty.{Ty}
use Rattle.ds2_meaning.specs.declared.globals.OutputColumn.{OutputColumn}
use Rattle.ds2_meaning.specs.declared.globals.OutputTable.{OutputTable}
use Rattle.ds2_meaning.specs.declared.globals.Variable.{Variable}
use Rattle.ds2_meaning.specs.declared.hashes.DeclaredHash.{DeclaredHash}
use Rattle.ds2_meaning.specs.declared.hashes.DeclaredIterator.{DeclaredIterator}
use Rattle.ds2_meaning.specs.declared.location.Global.{Global}
use Rattle.ds2_meaning.specs.declared.location.Global.TheVariants.{Named, First, Last, Present, Parameter as ParameterNamed}
use Rattle.ds2_meaning.specs.declared.location.Reference.{Reference}
use Rattle.ds2_meaning.specs.declared.location.Reference.TheVariants.{At, Local}
use Rattle.ds2_meaning.specs.declared.methods.Parameter.{Parameter}
use Rattle.ds2_meaning.specs.Evaluation.{callee_home}
use Rattle.ds2_meaning.specs.HashObjects.{DeclaredObjects, hash_named, iterator_named, object_at}
use Rattle.ds2_meaning.specs.IsTyped.{type_in, with_parameters_of, NamesInScope, reference_type, AreOutputColumns, AreTypedOutputs, IsTypedUnit, package_methods, names_in_method, names_in_body, names_in_init}
use Rattle.ds2_meaning.specs.Location.{Home, Location, is_same_home, is_same_global, is_same_location}
use Rattle.ds2_meaning.specs.Method.{MethodTree}
use Rattle.ds2_meaning.specs.ProgramTree.{BodyTree, InstanceTree, UnitTree, data_vector, sources, output_sources, instance_methods, methods_of, objects_of}
use Rattle.ds2_layout.specs.declared.slot.LayoutSlot.{LayoutSlot}
use Rattle.ds2_layout.specs.Layout.{program_slots, location_of_slot, slot_at, source_slot}
use Rattle.ds2_gen.specs.CodeCells.{LocalNamed, CodeCell, SlotCell, LocalCell, HashCell, IteratorCell, ParameterCell, Placement, IsValueCell}
use Rattle.ds2_gen.specs.CoveredForms.{HasValueCell, AreSourceSlots, HasOutput, IsParameterCell}
use Rattle.ds2_gen.specs.ExpressionCode.{Callee}
use Rattle.ds2_program_code.specs.PlacedProgram.{number_of_first, number_of_location, number_of_name, slot_locations, hashes_at, iterators_at, hash_locations, iterator_locations, parameter_locations, first_cell, program_cell, names_of_variables, system_placement, frame_names, method_placement}
use Rattle.ds2_program_code.specs.TypedIsCovered.{IsCallable, NamesHavePlaces}
use Rattle.ds2_program_code.specs.CodeMethods.{first_method_of, callee_of}
use Rattle.ds2_program_code.specs.CodeParts.{slot_of_global, output_part}
use Rattle.ds2_program_code.specs.ProgramCode.{body_numbers, system_numbers, method_numbers, method_part, program_code}
use Rattle.ds2_program_code.proofs.Bodies.{owned, number_listed, declared_stands}
use Rattle.ds2_program_code.proofs.Homes.{home_swap}
use Rattle.ds2_program_code.proofs.Lists.{same_some, bytes_swap, any_map, none_mapped, none_flat, none_in_both, number_of_any, no_number, slice_mapped, slice_below}
use Rattle.ds2_program_code.proofs.Objects.{HomePlacement, has_hash, has_iterator}
use Rattle.ds2_program_code.proofs.Slots.{located, globals_at, any_variable, slot_numbered, slot_cell, no_slot_for_parameter}

-- ---- methods

-- what the code of a home may call, as it is typed
abbrev pub methods_from : UnitTree → Home → Option (List ℕ) → List MethodTree
methods_from p None = methods_of p
methods_from p (Some name) = package_methods (instance_methods p.instances name)

pub called_from : (p : UnitTree) (home : Home) (instance : Option (List ℕ)) (number : ℕ) (method : MethodTree) → slice_get (methods_from p home instance) number ≡ Some method
    → slice_get (methods_of p (callee_home home instance)) number ≡ Some method
called_from p None None number method e = e
called_from p None (Some instance) number method e = e
called_from p (Some name) None number method e = e
called_from p (Some name) (Some instance) number method e = absurd cc

-- a method as code calls it
abbrev pub listed_callee : UnitTree → Home → ℕ → MethodTree → Callee
listed_callee p home k m = record { number = first_method_of p home + k; has_result = is_some m.returns }

pub callee_placed : (p : UnitTree) (home : Home) (k : ℕ) (m : MethodTree) → slice_get (methods_of p home) k ≡ Some m → callee_of p home k ≡ Some (listed_callee p home k m)
callee_placed p home k m e = ap (λ o. option_map (listed_callee p home k) o) e

callable : (p : UnitTree) (home : Home) (outputs : List (List (List ℕ))) (placement : Placement) (instance : Option (List ℕ)) (number : ℕ) (method : MethodTree) → slice_get (methods_of p (callee_home home instance)) number ≡ Some method
    → IsCallable (program_code p) (body_numbers p home outputs placement) instance number method
callable p home outputs placement instance number method e =
    let owner = callee_home home instance in
    let it = declared_stands p (first_method_of p owner + number) (owned owner method) (number_listed p owner number method e) in
    record { callee = listed_callee p owner number method; part = method_part it.entry method; placed = callee_placed p owner number method e; coded = it.part; parameters = refl; result = refl }

-- ---- outputs

global_swap : (a b : Global) → is_same_global a b ≡ is_same_global b a
global_swap (Named a) (Named b) = bytes_swap a b
global_swap (First a) (First b) = bytes_swap a b
global_swap (Last a) (Last b) = bytes_swap a b
global_swap (Present a) (Present b) = bytes_swap a b
global_swap (ParameterNamed a) (ParameterNamed b) = bytes_swap a b
global_swap _ _ = refl

location_swap : (a b : Location) → is_same_location a b ≡ is_same_location b a
location_swap a b = ap (λ x. x && is_same_global a.global b.global) (home_swap a.home b.home) ∙ ap (λ x. is_same_home b.home a.home && x) (global_swap a.global b.global)

position_by : (b : Bool) (i : ℕ) (o : Option ℕ) → cond b (Some i) (option_map (λ n. i + 1 + n) o) ≡ option_map (λ n. i + n) (if b then Some 0 else option_map (λ n. suc n) o)
position_by true i o = let e : i ≡ i + 0 = omega arith in ap Some e
position_by false i None = refl
position_by false i (Some k) = let e : i + 1 + k ≡ i + suc k = omega arith in ap Some e

pub position_numbered : {X : Type 0} (test other : X → Bool) → ((x : X) → test x ≡ other x) → (i : ℕ) (xs : List X) → position_from test i xs ≡ option_map (λ n. i + n) (number_of_first other xs)
position_numbered test other same i [] = refl
position_numbered test other same i (x ∷ xs) =
    ap (λ b. cond b (Some i) (position_from test (i + 1) xs)) (same x)
    ∙ ap (λ o. cond (other x) (Some i) o) (position_numbered test other same (i + 1) xs)
    ∙ position_by (other x) i (number_of_first other xs)

pub number_mapped : {A X : Type 0} (test : X → Bool) (f : A → X) (xs : List A) → number_of_first test (map f xs) ≡ number_of_first (λ x. test (f x)) xs
number_mapped test f [] = refl
number_mapped test f (x ∷ xs) = ap (λ o. if test (f x) then Some 0 else option_map (λ n. suc n) o) (number_mapped test f xs)

pub slot_at_number : (p : UnitTree) (at : Location) (n : ℕ) → number_of_location (slot_locations p) at ≡ Some n → slot_at (program_slots p) at ≡ Some n
slot_at_number p at n e =
    let slots = program_slots p in
    let here : 0 + n ≡ n = omega arith in
    position_from-zero (λ (slot : LayoutSlot). is_same_location (location_of_slot slot) at) slots
    ∙ position_numbered (λ (slot : LayoutSlot). is_same_location (location_of_slot slot) at) (λ (slot : LayoutSlot). is_same_location at (location_of_slot slot)) (λ slot. location_swap (location_of_slot slot) at) 0 slots
    ∙ ap (λ o. option_map (λ k. 0 + k) o) (sym (number_mapped (λ other. is_same_location at other) location_of_slot slots) ∙ e)
    ∙ ap (λ k. Some k) here

source_cell : (p : UnitTree) (name : List ℕ) (ty : Ty) → type_in (data_vector p) name ≡ Some ty → program_cell p (located None (Named name)) ≡ Some (SlotCell (source_slot (program_slots p) name))
source_cell p name ty e =
    let it = slot_numbered p None (Named name) ty e in
    slot_cell p None (Named name) ty e ∙ ap (λ o. Some (SlotCell (unwrap_or o 0))) (it.1 ∙ sym (slot_at_number p (located None (Named name)) it.0 it.1))

module _ (p : UnitTree) (placement : Placement) (place : HomePlacement p placement) where
  source_slots : (columns : List OutputColumn) → AreOutputColumns (data_vector p) columns
      → AreSourceSlots (body_numbers p None (output_sources p) placement) (map (λ (c : OutputColumn). c.source) columns)
      (map (λ (column : List ℕ × ℕ). column.1) (map (λ (c : OutputColumn). (c.name, source_slot (program_slots p) c.source)) columns))
  source_slots [] typed = tt
  source_slots (c ∷ columns) typed = (place.globals (located None (Named c.source)) ∙ source_cell p c.source c.ty typed.0, source_slots columns typed.1)

  typed_output : (outputs : List OutputTable) (n : ℕ) (o : OutputTable) → AreTypedOutputs (data_vector p) outputs → slice_get outputs n ≡ Some o → AreOutputColumns (data_vector p) o.columns
  typed_output [] n o typed e = absurd cc
  typed_output (x ∷ outputs) zero o typed e = subst (λ (y : OutputTable). AreOutputColumns (data_vector p) y.columns) (same_some x o e) typed.2
  typed_output (x ∷ outputs) (suc n) o typed e = typed_output outputs n o typed.3 e

  pub output_here : AreTypedOutputs (data_vector p) p.outputs → (n : ℕ) → n < length p.outputs → HasOutput (program_code p) (body_numbers p None (output_sources p) placement) n
  output_here typed n less =
      let it = slice_below p.outputs n less in
      record {
        sources = sources it.0;
        part = output_part p it.0;
        meant = slice_mapped sources p.outputs n ∙ ap (λ o. option_map sources o) it.1;
        coded = slice_mapped (output_part p) p.outputs n ∙ ap (λ o. option_map (output_part p) o) it.1;
        slots = source_slots (OutputTable.columns it.0) (typed_output p.outputs n it.0 typed it.1);
      }

-- ---- parameters of thread programs

parameter_last : (o : Option ℕ) → IsParameterCell (option_map ParameterCell o)
parameter_last None = tt
parameter_last (Some n) = tt

parameter_by : (o1 o2 o3 o4 : Option ℕ) → o1 ≡ None → o2 ≡ None → o3 ≡ None
    → IsParameterCell (first_cell (option_map SlotCell o1) (first_cell (option_map HashCell o2) (first_cell (option_map IteratorCell o3) (option_map ParameterCell o4))))
parameter_by (Some n) o2 o3 o4 e f g = absurd cc
parameter_by None (Some n) o3 o4 e f g = absurd cc
parameter_by None None (Some n) o4 e f g = absurd cc
parameter_by None None None o4 e f g = parameter_last o4

module _ (p : UnitTree) (instance parameter : List ℕ) where
  no_hash_object : list_any (λ other. is_same_location (located (Some instance) (ParameterNamed parameter)) other) (hash_locations p) ≡ false
  no_hash_object =
      let test : Location → Bool = λ other. is_same_location (located (Some instance) (ParameterNamed parameter)) other in
      none_in_both test (hashes_at None p.objects) (flat_map (λ (i : InstanceTree). hashes_at (Some i.name) i.objects) p.instances)
      (none_mapped test (λ (h : DeclaredHash). object_at None h.name) p.objects.hashes (λ h. refl))
      (none_flat test (λ (i : InstanceTree). hashes_at (Some i.name) i.objects) p.instances
      (λ i. none_mapped test (λ (h : DeclaredHash). object_at (Some i.name) h.name) i.objects.hashes (λ h. and_right (bytes_eq instance i.name) false refl)))

  no_iterator : list_any (λ other. is_same_location (located (Some instance) (ParameterNamed parameter)) other) (iterator_locations p) ≡ false
  no_iterator =
      let test : Location → Bool = λ other. is_same_location (located (Some instance) (ParameterNamed parameter)) other in
      none_in_both test (iterators_at None p.objects) (flat_map (λ (i : InstanceTree). iterators_at (Some i.name) i.objects) p.instances)
      (none_mapped test (λ (j : DeclaredIterator). object_at None j.name) p.objects.iterators (λ j. refl))
      (none_flat test (λ (i : InstanceTree). iterators_at (Some i.name) i.objects) p.instances
      (λ i. none_mapped test (λ (j : DeclaredIterator). object_at (Some i.name) j.name) i.objects.iterators (λ j. and_right (bytes_eq instance i.name) false refl)))

  parameter_placed : IsParameterCell (program_cell p (located (Some instance) (ParameterNamed parameter)))
  parameter_placed =
      let at = located (Some instance) (ParameterNamed parameter) in
      parameter_by (number_of_location (slot_locations p) at) (number_of_location (hash_locations p) at) (number_of_location (iterator_locations p) at) (number_of_location (parameter_locations p) at)
      (no_number (λ other. is_same_location at other) (slot_locations p) (no_slot_for_parameter p instance parameter)) (no_number (λ other. is_same_location at other) (hash_locations p) no_hash_object)
      (no_number (λ other. is_same_location at other) (iterator_locations p) no_iterator)

-- ---- names in scope

-- names in scope of code of a home are what the program declares there
pub record NamesFit (p : UnitTree) (home : Home) (outputs : List (List (List ℕ))) (placement : Placement) (names : NamesInScope) : Type 0 where
  pub globals : (global : Global) (ty : Ty) → names.globals global ≡ Some ty → globals_at p home global ≡ Some ty
  pub locals : (name : List ℕ) (ty : Ty) → type_in names.locals name ≡ Some ty → (c : CodeCell) × (placement.cell (LocalNamed name) ≡ Some c) × IsValueCell c
  pub methods : (instance : Option (List ℕ)) (number : ℕ) (method : MethodTree) → slice_get (names.methods instance) number ≡ Some method → slice_get (methods_of p (callee_home home instance)) number ≡ Some method
  pub objects : names.objects ≡ objects_of p home
  pub written : (n : ℕ) → n < names.outputs → HasOutput (program_code p) (body_numbers p home outputs placement) n

module _ (p : UnitTree) (typed : IsTypedUnit p) (home : Home) (outputs : List (List (List ℕ))) (placement : Placement) (place : HomePlacement p placement) (names : NamesInScope) (fit : NamesFit p home outputs placement names) where
  variable_placed : (r : Reference) (ty : Ty) → reference_type names r ≡ Some ty → HasValueCell (body_numbers p home outputs placement) r
  variable_placed (At global) ty e = (SlotCell (slot_of_global p home global), place.globals (located home global) ∙ slot_cell p home global ty (fit.globals global ty e), tt)
  variable_placed (Local name) ty e = fit.locals name ty e

  pub names_placed : NamesHavePlaces (program_code p) (body_numbers p home outputs placement) names
  names_placed = record {
    variables = variable_placed;
    methods = λ instance number method e. callable p home outputs placement instance number method (fit.methods instance number method e);
    hashes = λ name e. has_hash p typed home outputs placement place name (ap (λ (o : DeclaredObjects). is_some (hash_named o.hashes name)) (sym fit.objects) ∙ e);
    iterators = λ name e. has_iterator p typed home outputs placement place name (ap (λ (o : DeclaredObjects). is_some (iterator_named o.iterators name)) (sym fit.objects) ∙ e);
    outputs = fit.written;
    stage_parameters = λ instance parameter. subst (λ o. IsParameterCell o) (sym (place.globals (located (Some instance) (ParameterNamed parameter)))) (parameter_placed p instance parameter);
  }

-- ---- locals

local_value_by : (f : ℕ → CodeCell) → ((n : ℕ) → IsValueCell (f n)) → (o : Option ℕ) (c : CodeCell) → option_map f o ≡ Some c → IsValueCell c
local_value_by f values None c e = absurd cc
local_value_by f values (Some n) c e = subst (λ k. IsValueCell k) (same_some (f n) c e) (values n)

variable_numbered : (vs : List Variable) (name : List ℕ) (ty : Ty) → type_in vs name ≡ Some ty → (n : ℕ) × (number_of_name (names_of_variables vs) name ≡ Some n)
variable_numbered vs name ty e =
    number_of_any (λ other. bytes_eq name other) (names_of_variables vs) (any_map (λ other. bytes_eq name other) (λ (v : Variable). v.name) vs ∙ any_variable true refl vs name ty e)

pub names_with_parameters : (ps : List Parameter) (vs : List Variable) → names_of_variables (with_parameters_of ps vs) ≡ map (λ (x : Parameter). x.name) ps ++ names_of_variables vs
names_with_parameters [] vs = refl
names_with_parameters (x ∷ ps) vs = ap (λ names. x.name ∷ names) (names_with_parameters ps vs)

-- the placement of a system method
module _ (p : UnitTree) (first : ℕ) (body : BodyTree) where
  pub system_place : HomePlacement p (system_placement p first body)
  system_place = record {
    globals = λ at. refl;
    locals = λ name c e. local_value_by (λ n. SlotCell (first + n)) (λ n. tt) (number_of_name (names_of_variables body.locals) name) c e;
    free = λ kept n. refl;
  }

  system_local : (name : List ℕ) (ty : Ty) → type_in body.locals name ≡ Some ty → (c : CodeCell) × (Placement.cell (system_placement p first body) (LocalNamed name) ≡ Some c) × IsValueCell c
  system_local name ty e =
      let it = variable_numbered body.locals name ty e in
      (SlotCell (first + it.0), ap (λ o. option_map (λ n. SlotCell (first + n)) o) it.1, tt)

  module _ (typed : IsTypedUnit p) where
    body_fits : NamesFit p None (output_sources p) (system_placement p first body) (names_in_body p body.locals)
    body_fits = record {
      globals = λ global ty e. e;
      locals = system_local;
      methods = λ instance number method e. called_from p None instance number method e;
      objects = refl;
      written = output_here p (system_placement p first body) system_place typed.outputs;
    }

    init_fits : NamesFit p None (output_sources p) (system_placement p first body) (names_in_init p body.locals)
    init_fits = record {
      globals = λ global ty e. e;
      locals = system_local;
      methods = λ instance number method e. called_from p None instance number method e;
      objects = refl;
      written = output_here p (system_placement p first body) system_place typed.outputs;
    }

    pub body_placed : NamesHavePlaces (program_code p) (system_numbers p first body) (names_in_body p body.locals)
    body_placed = names_placed p typed None (output_sources p) (system_placement p first body) system_place (names_in_body p body.locals) body_fits

    pub init_placed : NamesHavePlaces (program_code p) (system_numbers p first body) (names_in_init p body.locals)
    init_placed = names_placed p typed None (output_sources p) (system_placement p first body) system_place (names_in_init p body.locals) init_fits

-- the placement of a declared method
module _ (p : UnitTree) (home : Home) (method : MethodTree) where
  pub method_place : HomePlacement p (method_placement p method)
  method_place = record {
    globals = λ at. refl;
    locals = λ name c e. local_value_by LocalCell (λ n. tt) (number_of_name (frame_names method) name) c e;
    free = λ kept n. refl;
  }

  method_local : (name : List ℕ) (ty : Ty) → type_in (with_parameters_of method.parameters method.locals) name ≡ Some ty → (c : CodeCell) × (Placement.cell (method_placement p method) (LocalNamed name) ≡ Some c) × IsValueCell c
  method_local name ty e =
      let it = variable_numbered (with_parameters_of method.parameters method.locals) name ty e in
      (LocalCell it.0, ap (λ o. option_map LocalCell o) (ap (λ names. number_of_name names name) (sym (names_with_parameters method.parameters method.locals)) ∙ it.1), tt)

  method_fits : NamesFit p home [] (method_placement p method) (names_in_method (globals_at p home) (methods_from p home) (objects_of p home) method)
  method_fits = record {
    globals = λ global ty e. e;
    locals = method_local;
    methods = λ instance number called e. called_from p home instance number called e;
    objects = refl;
    written = λ n less. let no : n < 0 = less in absurd (omega arith);
  }

  pub method_placed : (typed : IsTypedUnit p) → NamesHavePlaces (program_code p) (method_numbers p (owned home method)) (names_in_method (globals_at p home) (methods_from p home) (objects_of p home) method)
  method_placed typed = names_placed p typed home [] (method_placement p method) method_place (names_in_method (globals_at p home) (methods_from p home) (objects_of p home) method) method_fits
