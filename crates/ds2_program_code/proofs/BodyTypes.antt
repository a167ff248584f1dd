-- All that the bodies of a typed program name and keep has its type in the code.
use Rattle.std.proofs.Common.{◌≡◌, ℕ, ◌+◌, Bool, true, false, List, [], ◌∷◌, ◌++◌, length, map, slice_get, bytes_eq, Option, Some, None, is_some, refl, sym, ap, ◌∙◌, subst, arith, append_assoc, length-append, if◌then◌else◌}
use Rattle.std.specs.Option.{option_map}
use Rattle.std.proofs.lemmas.List.{length-map}
use Rattle.ds2_value.specs.Types.{in_bounds}
use Rattle.ds2_value.specs.declared.ty.Ty.{Ty}
use Rattle.ds2_value.specs.declared.ty.Ty.TheVariants.{BigInt}
use Rattle.ds2_meaning.specs.declared.globals.Variable.{Variable}
use Rattle.ds2_meaning.specs.declared.location.Global.{Global}
use Rattle.ds2_meaning.specs.declared.location.Global.TheVariants.{Named, First, Last, Present, Parameter as ParameterNamed}
use Rattle.ds2_meaning.specs.declared.location.Reference.{Reference}
use Rattle.ds2_meaning.specs.declared.location.Reference.TheVariants.{At, Local}
use Rattle.ds2_meaning.specs.Evaluation.{callee_home}
use Rattle.ds2_meaning.specs.HashObjects.{DeclaredObjects, hash_named, iterator_named}
use Rattle.ds2_meaning.specs.IsTyped.{type_in, with_parameters_of, NamesInScope, reference_type, AreInBounds, AreTypedVariables, AreTypedInstances, flag_type, is_by, is_present, instance_variables, names_in_method, names_in_body, names_in_init, IsTypedUnit}
use Rattle.ds2_meaning.specs.Location.{Home}
use Rattle.ds2_meaning.specs.Method.{MethodTree}
use Rattle.ds2_meaning.specs.ProgramTree.{BodyTree, InstanceTree, UnitTree, data_vector, methods_of, objects_of, output_sources}
use Rattle.ds2_meaning.specs.Reading.{inputs_of, bys_of}
use Rattle.ds2_code.specs.declared.parts.ParameterPart.{ParameterPart}
use Rattle.ds2_code.specs.OperandTypes.{CodeRole, OfUnit, OfMethod, signature_of, types_of_locals, slot_type}
use Rattle.ds2_gen.specs.CodeCells.{LocalNamed, SlotCell, LocalCell, Placement}
use Rattle.ds2_gen.specs.ExpressionCode.{cell_of}
use Rattle.ds2_gen.specs.MethodCode.{parameter_part}
use Rattle.ds2_program_code.specs.KeptTypes.{all_types_kept}
use Rattle.ds2_program_code.specs.PlacedProgram.{system_placement, frame_size, method_placement}
use Rattle.ds2_program_code.specs.CodeMethods.{first_method_of}
use Rattle.ds2_program_code.specs.CodeParts.{code_slots}
use Rattle.ds2_program_code.specs.ProgramCode.{body_numbers, system_numbers, method_numbers, method_part, program_code}
use Rattle.ds2_program_code.specs.TypedCode.{FitsCodeLimits}
use Rattle.ds2_program_code.specs.TypedOperands.{HasCellOfType, HasTypedPart, NamesHaveTypes}
use Rattle.ds2_program_code.specs.TypedRuns.{KeptHaveTypes}
use Rattle.ds2_program_code.proofs.Bodies.{owned, number_listed, declared_stands}
use Rattle.ds2_program_code.proofs.Layouts.{in_bounds_of}
use Rattle.ds2_program_code.proofs.Lists.{same_some, slice_in_front, slice_in_back}
use Rattle.ds2_program_code.proofs.Names.{methods_from, called_from, listed_callee, callee_placed, system_place, method_place}
use Rattle.ds2_program_code.proofs.Objects.{HomePlacement, has_hash, has_iterator}
use Rattle.ds2_program_code.proofs.OwnSlots.{OwnSlotsHaveTypes, local_typed, frame_typed}
use Rattle.ds2_program_code.proofs.Slots.{located, globals_at, slot_cell}
use Rattle.ds2_program_code.proofs.SlotTypes.{slot_has_type}

-- ---- types in bounds

instance_bounds_by : (b : Bool) (i : InstanceTree) (variables : List Variable) (name : List ℕ) (ty : Ty) → AreInBounds i.variables → type_in (if b then i.variables else variables) name ≡ Some ty → (type_in variables name ≡ Some ty → in_bounds ty ≡ true) → in_bounds ty ≡ true
instance_bounds_by true i variables name ty bounds e later = in_bounds_of i.variables name ty bounds e
instance_bounds_by false i variables name ty bounds e later = later e

instance_bounds : (instances : List InstanceTree) (instance name : List ℕ) (ty : Ty) → AreTypedInstances instances → type_in (instance_variables instances instance) name ≡ Some ty → in_bounds ty ≡ true
instance_bounds [] instance name ty typed e = absurd cc
instance_bounds (i ∷ instances) instance name ty typed e =
    instance_bounds_by (bytes_eq i.name instance) i (instance_variables instances instance) name ty typed.0.0 e (λ f. instance_bounds instances instance name ty typed.4 f)

flag_bounds : (b : Bool) (ty : Ty) → flag_type b ≡ Some ty → in_bounds ty ≡ true
flag_bounds true ty e = subst (λ t. in_bounds t ≡ true) (same_some BigInt ty e) refl
flag_bounds false ty e = absurd cc

global_bounds : (p : UnitTree) → IsTypedUnit p → (home : Home) (global : Global) (ty : Ty) → globals_at p home global ≡ Some ty → in_bounds ty ≡ true
global_bounds p typed None (Named name) ty e = in_bounds_of (data_vector p) name ty (IsTypedUnit.variables typed).0 e
global_bounds p typed None (ParameterNamed name) ty e = in_bounds_of p.parameters name ty (IsTypedUnit.parameters typed).0 e
global_bounds p typed None (First name) ty e = flag_bounds (is_by (bys_of p.reading) name) ty e
global_bounds p typed None (Last name) ty e = flag_bounds (is_by (bys_of p.reading) name) ty e
global_bounds p typed None (Present name) ty e = flag_bounds (is_present (inputs_of p.reading) name) ty e
global_bounds p typed (Some instance) (Named name) ty e = instance_bounds p.instances instance name ty typed.instances e
global_bounds p typed (Some instance) (ParameterNamed name) ty e = absurd cc
global_bounds p typed (Some instance) (First name) ty e = absurd cc
global_bounds p typed (Some instance) (Last name) ty e = absurd cc
global_bounds p typed (Some instance) (Present name) ty e = absurd cc

-- ---- names

-- what the names in scope of a body are, beside its home's globals, methods and objects
pub record ScopeFits (p : UnitTree) (role : CodeRole) (home : Home) (outputs : List (List (List ℕ))) (placement : Placement) (names : NamesInScope) : Type 0 where
  pub globals : (global : Global) (ty : Ty) → names.globals global ≡ Some ty → globals_at p home global ≡ Some ty
  pub locals : (name : List ℕ) (ty : Ty) → type_in names.locals name ≡ Some ty → HasCellOfType (program_code p) role (placement.cell (LocalNamed name)) ty
  pub bounds : AreInBounds names.locals
  pub methods : (instance : Option (List ℕ)) (number : ℕ) (method : MethodTree) → slice_get (names.methods instance) number ≡ Some method → slice_get (methods_of p (callee_home home instance)) number ≡ Some method
  pub objects : names.objects ≡ objects_of p home

module _ (p : UnitTree) (typed : IsTypedUnit p) (limits : FitsCodeLimits p) (role : CodeRole) (home : Home) (outputs : List (List (List ℕ))) (placement : Placement) (place : HomePlacement p placement) (names : NamesInScope) (fit : ScopeFits p role home outputs placement names) where
  reference_cell : (r : Reference) (ty : Ty) → reference_type names r ≡ Some ty → HasCellOfType (program_code p) role (cell_of (body_numbers p home outputs placement) r) ty
  reference_cell (At global) ty e =
      let there = fit.globals global ty e in
      subst (λ o. HasCellOfType (program_code p) role o ty) (sym (place.globals (located home global) ∙ slot_cell p home global ty there)) (slot_has_type p home global ty there)
  reference_cell (Local name) ty e = fit.locals name ty e

  reference_bounds : (r : Reference) (ty : Ty) → reference_type names r ≡ Some ty → in_bounds ty ≡ true
  reference_bounds (At global) ty e = global_bounds p typed home global ty (fit.globals global ty e)
  reference_bounds (Local name) ty e = in_bounds_of names.locals name ty fit.bounds e

  typed_part : (instance : Option (List ℕ)) (number : ℕ) (method : MethodTree) → slice_get (methods_of p (callee_home home instance)) number ≡ Some method → HasTypedPart (program_code p) (body_numbers p home outputs placement) instance number method
  typed_part instance number method e =
      let owner = callee_home home instance in
      let it = declared_stands p (first_method_of p owner + number) (owned owner method) (number_listed p owner number method e) in
      record { callee = listed_callee p owner number method; part = method_part it.entry method; placed = callee_placed p owner number method e; coded = it.part; parameters = refl; returns = refl; result = refl }

  pub names_typed : NamesHaveTypes (program_code p) role (body_numbers p home outputs placement) names
  names_typed = record {
    variables = reference_cell;
    bounds = reference_bounds;
    methods = λ instance number method e. typed_part instance number method (fit.methods instance number method e);
    results = λ instance number method ty e returns. limits.results (callee_home home instance) number method ty (fit.methods instance number method e) returns;
    hashes = λ name e.
        let it = has_hash p typed home outputs placement place name (ap (λ (o : DeclaredObjects). is_some (hash_named o.hashes name)) (sym fit.objects) ∙ e) in
        (it.number, it.placed, (it.part, it.coded));
    iterators = λ name e.
        let it = has_iterator p typed home outputs placement place name (ap (λ (o : DeclaredObjects). is_some (iterator_named o.iterators name)) (sym fit.objects) ∙ e) in
        (it.number, it.placed, (it.hash_number, it.coded));
  }

-- ---- kept values

module _ (p : UnitTree) (role : CodeRole) (placement : Placement) where
  next_size : (front : List Ty) (t : Ty) → length (front ++ t ∷ []) ≡ length front + 1
  next_size front t = length-append front (t ∷ [])

  shifted_types : (front : List Ty) (t : Ty) (types : List Ty) → (front ++ t ∷ []) ++ types ≡ front ++ t ∷ types
  shifted_types [] t types = refl
  shifted_types (x ∷ front) t types = ap (λ ts. x ∷ ts) (shifted_types front t types)

  here_type : (front : List Ty) (t : Ty) (types : List Ty) → slice_get (front ++ t ∷ types) (length front) ≡ Some t
  here_type [] t types = refl
  here_type (x ∷ front) t types = here_type front t types

  kept_from : (all front types : List Ty) → all ≡ front ++ types → ((k : ℕ) (ty : Ty) → slice_get all k ≡ Some ty → HasCellOfType (program_code p) role (Some (placement.kept_cell k)) ty)
      → KeptHaveTypes (program_code p) role placement (length front) types
  kept_from all front [] whole cells = tt
  kept_from all front (t ∷ types) whole cells = (
    cells (length front) t (ap (λ l. slice_get l (length front)) whole ∙ here_type front t types),
    subst (λ n. KeptHaveTypes (program_code p) role placement n types) (next_size front t) (kept_from all (front ++ t ∷ []) types (whole ∙ sym (shifted_types front t types)) cells),
  )

-- ---- system methods

module _ (p : UnitTree) (first : ℕ) (body : BodyTree) (own : OwnSlotsHaveTypes p first body) where
  system_local : (name : List ℕ) (ty : Ty) → type_in body.locals name ≡ Some ty → HasCellOfType (program_code p) OfUnit (Placement.cell (system_placement p first body) (LocalNamed name)) ty
  system_local name ty e =
      let it = local_typed body.locals name ty e in
      subst (λ o. HasCellOfType (program_code p) OfUnit o ty) (sym (ap (λ o. option_map (λ n. SlotCell (first + n)) o) it.1))
      (own it.0 ty (slice_in_front (map (λ (v : Variable). v.ty) body.locals) (all_types_kept body.statements) it.0 ty it.2))

  sum_of_three : (a b c : ℕ) → a + b + c ≡ a + (b + c)
  sum_of_three a b c = omega arith

  pub system_kept : KeptHaveTypes (program_code p) OfUnit (system_placement p first body) 0 (all_types_kept body.statements)
  system_kept =
      kept_from p OfUnit (system_placement p first body) (all_types_kept body.statements) [] (all_types_kept body.statements) refl
      (λ k ty e.
      let locals = map (λ (v : Variable). v.ty) body.locals in
      let size : length locals ≡ length body.locals = length-map body.locals (λ (v : Variable). v.ty) in
      ap (λ n. slot_type (code_slots p) n) (sum_of_three first (length body.locals) k) ∙ own (length body.locals + k) ty (ap (λ n. slice_get (locals ++ all_types_kept body.statements) (n + k)) (sym size) ∙ slice_in_back locals (all_types_kept body.statements) k ∙ e))

  module _ (typed : IsTypedUnit p) (limits : FitsCodeLimits p) (locals_typed : AreTypedVariables body.locals) where
    pub body_types : NamesHaveTypes (program_code p) OfUnit (system_numbers p first body) (names_in_body p body.locals)
    body_types = names_typed p typed limits OfUnit None (output_sources p) (system_placement p first body) (system_place p first body) (names_in_body p body.locals) (record {
      globals = λ global ty e. e;
      locals = system_local;
      bounds = locals_typed.0;
      methods = λ instance number method e. called_from p None instance number method e;
      objects = refl;
    })

    pub init_types : NamesHaveTypes (program_code p) OfUnit (system_numbers p first body) (names_in_init p body.locals)
    init_types = names_typed p typed limits OfUnit None (output_sources p) (system_placement p first body) (system_place p first body) (names_in_init p body.locals) (record {
      globals = λ global ty e. e;
      locals = system_local;
      bounds = locals_typed.0;
      methods = λ instance number method e. called_from p None instance number method e;
      objects = refl;
    })

-- ---- declared methods

-- the role of a method's code
abbrev pub role_of : MethodTree → CodeRole
role_of m = OfMethod (signature_of (method_part 0 m))

module _ (p : UnitTree) (home : Home) (m : MethodTree) where
  frame_types : types_of_locals (role_of m) ≡ (map (λ (x : ParameterPart). x.ty) (map parameter_part m.parameters) ++ map (λ (v : Variable). v.ty) m.locals) ++ all_types_kept m.body
  frame_types = sym (append_assoc (map (λ (x : ParameterPart). x.ty) (map parameter_part m.parameters)) (map (λ (v : Variable). v.ty) m.locals) (all_types_kept m.body))

  method_local : (name : List ℕ) (ty : Ty) → type_in (with_parameters_of m.parameters m.locals) name ≡ Some ty → HasCellOfType (program_code p) (role_of m) (Placement.cell (method_placement p m) (LocalNamed name)) ty
  method_local name ty e =
      let it = frame_typed m name ty e in
      let front = map (λ (x : ParameterPart). x.ty) (map parameter_part m.parameters) ++ map (λ (v : Variable). v.ty) m.locals in
      subst (λ o. HasCellOfType (program_code p) (role_of m) o ty) (sym (ap (λ o. option_map LocalCell o) it.1))
      (ap (λ ts. slice_get ts it.0) frame_types ∙ slice_in_front front (all_types_kept m.body) it.0 ty it.2)

  front_count : length (map (λ (x : ParameterPart). x.ty) (map parameter_part m.parameters) ++ map (λ (v : Variable). v.ty) m.locals) ≡ frame_size m
  front_count =
      length-append (map (λ (x : ParameterPart). x.ty) (map parameter_part m.parameters)) (map (λ (v : Variable). v.ty) m.locals)
      ∙ ap (λ n. n + length (map (λ (v : Variable). v.ty) m.locals)) (length-map (map parameter_part m.parameters) (λ (x : ParameterPart). x.ty) ∙ length-map m.parameters parameter_part)
      ∙ ap (λ n. length m.parameters + n) (length-map m.locals (λ (v : Variable). v.ty))

  pub method_kept : KeptHaveTypes (program_code p) (role_of m) (method_placement p m) 0 (all_types_kept m.body)
  method_kept =
      kept_from p (role_of m) (method_placement p m) (all_types_kept m.body) [] (all_types_kept m.body) refl
      (λ k ty e.
      let front = map (λ (x : ParameterPart). x.ty) (map parameter_part m.parameters) ++ map (λ (v : Variable). v.ty) m.locals in
      ap (λ ts. slice_get ts (frame_size m + k)) frame_types ∙ ap (λ n. slice_get (front ++ all_types_kept m.body) (n + k)) (sym front_count) ∙ slice_in_back front (all_types_kept m.body) k ∙ e)

  module _ (typed : IsTypedUnit p) (limits : FitsCodeLimits p) (locals_typed : AreTypedVariables (with_parameters_of m.parameters m.locals)) where
    pub method_types : NamesHaveTypes (program_code p) (role_of m) (method_numbers p (owned home m)) (names_in_method (globals_at p home) (methods_from p home) (objects_of p home) m)
    method_types = names_typed p typed limits (role_of m) home [] (method_placement p m) (method_place p home m) (names_in_method (globals_at p home) (methods_from p home) (objects_of p home) m) (record {
      globals = λ global ty e. e;
      locals = method_local;
      bounds = locals_typed.0;
      methods = λ instance number method e. called_from p home instance number method e;
      objects = refl;
    })
