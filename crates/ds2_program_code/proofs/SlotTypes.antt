-- The slot of a global has the global's type.
use Rattle.std.proofs.Common.{◌≡◌, ℕ, zero, suc, Bool, true, false, ◌&&◌, ◌||◌, List, [], ◌∷◌, ◌++◌, length, map, flat_map, slice_get, bytes_eq, codes, Option, Some, None, unwrap_or, refl, sym, ap, ◌∙◌, subst, if◌then◌else◌}
use Rattle.std.specs.List.{list_any}
use Rattle.std.specs.Option.{option_map}
use Rattle.std.proofs.lemmas.Bool.{and_from, and_left, and_right}
use Rattle.ds2_value.specs.declared.ty.Ty.{Ty}
use Rattle.ds2_value.specs.declared.ty.Ty.TheVariants.{BigInt}
use Rattle.ds2_meaning.specs.declared.globals.Variable.{Variable}
use Rattle.ds2_meaning.specs.declared.location.Global.{Global}
use Rattle.ds2_meaning.specs.declared.location.Global.TheVariants.{Named, First, Last, Present, Parameter}
use Rattle.ds2_meaning.specs.declared.readings.ByVariable.{ByVariable}
use Rattle.ds2_meaning.specs.declared.readings.Input.{Input}
use Rattle.ds2_meaning.specs.IsTyped.{type_in, flag_type, is_by, is_present, instance_variables}
use Rattle.ds2_meaning.specs.Location.{Home, Location, is_same_location}
use Rattle.ds2_meaning.specs.ProgramTree.{InstanceTree, UnitTree, data_vector}
use Rattle.ds2_meaning.specs.Reading.{inputs_of, bys_of}
use Rattle.ds2_layout.specs.declared.slot.LayoutSlot.{LayoutSlot}
use Rattle.ds2_layout.specs.declared.slot.SlotRole.TheVariants as layout_role
use Rattle.ds2_layout.specs.Layout.{vector_role, slot_for, vector_slots, parameter_slots, input_flag_slots, by_flag_slots, instance_slots, program_slots, location_of_slot}
use Rattle.ds2_code.specs.declared.parts.Slot.{Slot}
use Rattle.ds2_code.specs.OperandTypes.{slot_type}
use Rattle.ds2_program_code.specs.PlacedProgram.{number_of_location, slot_locations}
use Rattle.ds2_program_code.specs.CodeParts.{slot_of_global, layout_slot, slots_of_body, code_slots}
use Rattle.ds2_program_code.proofs.Lists.{same_some, bytes_swap, none_in_both, none_mapped, none_flat, number_of_any, number_passes, slice_in_front, slice_mapped, Beside, beside_here, beside_later, beside_in_front, beside_in_back}
use Rattle.ds2_program_code.proofs.Names.{number_mapped}
use Rattle.ds2_program_code.proofs.Slots.{located, is_for, flag_is, any_first, any_last, any_present, globals_at}

-- the types of slots of a layout
abbrev types_of_slots : List LayoutSlot → List Ty
types_of_slots slots = map (λ (l : LayoutSlot). l.ty) slots

types_append : (xs ys : List LayoutSlot) → types_of_slots (xs ++ ys) ≡ types_of_slots xs ++ types_of_slots ys
types_append [] ys = refl
types_append (x ∷ xs) ys = ap (λ ts. x.ty ∷ ts) (types_append xs ys)

types_length : (xs : List LayoutSlot) → length xs ≡ length (types_of_slots xs)
types_length [] = refl
types_length (x ∷ xs) = ap (λ n. suc n) (types_length xs)

-- the first slot that passes a test has a type
abbrev HasTypedSlot : (LayoutSlot → Bool) → List LayoutSlot → Ty → Type 0
HasTypedSlot test slots ty = Beside test slots (types_of_slots slots) ty

module _ (test : LayoutSlot → Bool) (ty : Ty) where
  typed_in_front : (xs ys : List LayoutSlot) → HasTypedSlot test xs ty → HasTypedSlot test (xs ++ ys) ty
  typed_in_front xs ys it = subst (λ ts. Beside test (xs ++ ys) ts ty) (sym (types_append xs ys)) (beside_in_front test xs ys (types_of_slots xs) (types_of_slots ys) ty it)

  typed_in_back : (xs ys : List LayoutSlot) → list_any test xs ≡ false → HasTypedSlot test ys ty → HasTypedSlot test (xs ++ ys) ty
  typed_in_back xs ys none it = subst (λ ts. Beside test (xs ++ ys) ts ty) (sym (types_append xs ys)) (beside_in_back test xs ys (types_of_slots xs) (types_of_slots ys) ty none (types_length xs) it)

-- ---- variables

module _ (test : LayoutSlot → Bool) (slot : Variable → LayoutSlot) (same : Bool) (name : List ℕ) (yes' : same ≡ true) (tests : (v : Variable) → test (slot v) ≡ (same && bytes_eq name v.name)) (types : (v : Variable) → LayoutSlot.ty (slot v) ≡ v.ty) where
  variable_by : (b : Bool) (v : Variable) (vs : List Variable) (ty : Ty) → bytes_eq v.name name ≡ b → (if b then Some v.ty else type_in vs name) ≡ Some ty
      → (type_in vs name ≡ Some ty → HasTypedSlot test (map slot vs) ty) → HasTypedSlot test (slot v ∷ map slot vs) ty
  variable_by true v vs ty here e later =
      subst (λ t. HasTypedSlot test (slot v ∷ map slot vs) t) (types v ∙ same_some v.ty ty e)
      (beside_here test (slot v) (map slot vs) (LayoutSlot.ty (slot v)) (types_of_slots (map slot vs)) (tests v ∙ and_from same (bytes_eq name v.name) yes' (bytes_swap name v.name ∙ here)))
  variable_by false v vs ty here e later =
      beside_later test (slot v) (map slot vs) (LayoutSlot.ty (slot v)) (types_of_slots (map slot vs)) ty (tests v ∙ and_right same (bytes_eq name v.name) (bytes_swap name v.name ∙ here)) (later e)

  variables_typed : (vs : List Variable) (ty : Ty) → type_in vs name ≡ Some ty → HasTypedSlot test (map slot vs) ty
  variables_typed [] ty e = absurd cc
  variables_typed (v ∷ vs) ty e = variable_by (bytes_eq v.name name) v vs ty refl e (λ f. variables_typed vs ty f)

-- ---- flags

abbrev AreFlags : List LayoutSlot → Type 0
AreFlags [] = Unit {0}
AreFlags (s ∷ slots) = (s.ty ≡ BigInt) × AreFlags slots

flags_append : (xs ys : List LayoutSlot) → AreFlags xs → AreFlags ys → AreFlags (xs ++ ys)
flags_append [] ys a b = b
flags_append (x ∷ xs) ys a b = (a.0, flags_append xs ys a.1 b)

input_flags : (i : Input) (present : Option (List ℕ)) → AreFlags (input_flag_slots (record i { present = present }))
input_flags i None = tt
input_flags i (Some name) = (refl, tt)

all_input_flags : (inputs : List Input) → AreFlags (flat_map input_flag_slots inputs)
all_input_flags [] = tt
all_input_flags (i ∷ inputs) = flags_append (input_flag_slots i) (flat_map input_flag_slots inputs) (input_flags i i.present) (all_input_flags inputs)

all_by_flags : (bys : List ByVariable) → AreFlags (flat_map by_flag_slots bys)
all_by_flags [] = tt
all_by_flags (b ∷ bys) = (refl, (refl, all_by_flags bys))

flag_of_number : (slots : List LayoutSlot) (n : ℕ) (s : LayoutSlot) → AreFlags slots → slice_get slots n ≡ Some s → s.ty ≡ BigInt
flag_of_number [] n s flags e = absurd cc
flag_of_number (x ∷ slots) zero s flags e = subst (λ (y : LayoutSlot). y.ty ≡ BigInt) (same_some x s e) flags.0
flag_of_number (x ∷ slots) (suc n) s flags e = flag_of_number slots n s flags.1 e

flags_typed : (test : LayoutSlot → Bool) (slots : List LayoutSlot) → AreFlags slots → list_any test slots ≡ true → HasTypedSlot test slots BigInt
flags_typed test slots flags some =
    let it = number_of_any test slots some in
    let passes = number_passes test slots it.0 it.1 in
    (it.0, it.1, slice_mapped (λ (l : LayoutSlot). l.ty) slots it.0 ∙ ap (λ o. option_map (λ (l : LayoutSlot). l.ty) o) passes.1 ∙ ap (λ t. Some t) (flag_of_number slots it.0 passes.0 flags passes.1))

-- ---- instances

instance_typed_by : (b : Bool) (i : InstanceTree) (instances : List InstanceTree) (instance name : List ℕ) (ty : Ty) → bytes_eq i.name instance ≡ b
    → type_in (if b then i.variables else instance_variables instances instance) name ≡ Some ty
    → (type_in (instance_variables instances instance) name ≡ Some ty → HasTypedSlot (is_for (located (Some instance) (Named name))) (flat_map instance_slots instances) ty)
    → HasTypedSlot (is_for (located (Some instance) (Named name))) (instance_slots i ++ flat_map instance_slots instances) ty
instance_typed_by true i instances instance name ty same e later =
    typed_in_front (is_for (located (Some instance) (Named name))) ty (instance_slots i) (flat_map instance_slots instances)
    (variables_typed (is_for (located (Some instance) (Named name))) (λ (v : Variable). slot_for (Some i.name) (Named v.name) v.ty layout_role.Kept) (bytes_eq instance i.name) name (bytes_swap instance i.name ∙ same) (λ v. refl) (λ v. refl) i.variables ty e)
instance_typed_by false i instances instance name ty same e later =
    typed_in_back (is_for (located (Some instance) (Named name))) ty (instance_slots i) (flat_map instance_slots instances)
    (none_mapped (is_for (located (Some instance) (Named name))) (λ (v : Variable). slot_for (Some i.name) (Named v.name) v.ty layout_role.Kept) i.variables (λ v. and_left (bytes_eq instance i.name) (bytes_eq name v.name) (bytes_swap instance i.name ∙ same)))
    (later e)

instances_typed : (instances : List InstanceTree) (instance name : List ℕ) (ty : Ty) → type_in (instance_variables instances instance) name ≡ Some ty
    → HasTypedSlot (is_for (located (Some instance) (Named name))) (flat_map instance_slots instances) ty
instances_typed [] instance name ty e = absurd cc
instances_typed (i ∷ instances) instance name ty e = instance_typed_by (bytes_eq i.name instance) i instances instance name ty refl e (λ f. instances_typed instances instance name ty f)

-- ---- all slots

module _ (p : UnitTree) where
  -- what has no slot in front
  no_variable : (at : Location) → ((name : List ℕ) → is_same_location at (located None (Named name)) ≡ false) → list_any (is_for at) (vector_slots p) ≡ false
  no_variable at other = none_mapped (is_for at) (λ (v : Variable). slot_for None (Named v.name) v.ty (vector_role p v.name)) (data_vector p) (λ v. other v.name)

  no_parameter : (at : Location) → ((name : List ℕ) → is_same_location at (located None (Parameter name)) ≡ false) → list_any (is_for at) (parameter_slots p) ≡ false
  no_parameter at other = none_mapped (is_for at) (λ (v : Variable). slot_for None (Parameter v.name) v.ty layout_role.Kept) p.parameters (λ v. other v.name)

  no_present_by : (at : Location) → ((name : List ℕ) → is_same_location at (located None (Present name)) ≡ false) → (i : Input) (present : Option (List ℕ)) → list_any (is_for at) (input_flag_slots (record i { present = present })) ≡ false
  no_present_by at other i None = refl
  no_present_by at other i (Some name) = ap (λ b. b || false) (other name)

  no_present : (at : Location) → ((name : List ℕ) → is_same_location at (located None (Present name)) ≡ false) → list_any (is_for at) (flat_map input_flag_slots (inputs_of p.reading)) ≡ false
  no_present at other = none_flat (is_for at) input_flag_slots (inputs_of p.reading) (λ i. no_present_by at other i i.present)

  global_typed : (home : Home) (global : Global) (ty : Ty) → globals_at p home global ≡ Some ty → HasTypedSlot (is_for (located home global)) (program_slots p) ty
  global_typed None (Named name) ty e =
      let test = is_for (located None (Named name)) in
      typed_in_front test ty (vector_slots p ++ parameter_slots p ++ flat_map input_flag_slots (inputs_of p.reading) ++ flat_map by_flag_slots (bys_of p.reading)) (flat_map instance_slots p.instances)
      (typed_in_front test ty (vector_slots p ++ parameter_slots p ++ flat_map input_flag_slots (inputs_of p.reading)) (flat_map by_flag_slots (bys_of p.reading))
      (typed_in_front test ty (vector_slots p ++ parameter_slots p) (flat_map input_flag_slots (inputs_of p.reading))
      (typed_in_front test ty (vector_slots p) (parameter_slots p)
      (variables_typed test (λ (v : Variable). slot_for None (Named v.name) v.ty (vector_role p v.name)) true name refl (λ v. refl) (λ v. refl) (data_vector p) ty e))))
  global_typed None (Parameter name) ty e =
      let test = is_for (located None (Parameter name)) in
      typed_in_front test ty (vector_slots p ++ parameter_slots p ++ flat_map input_flag_slots (inputs_of p.reading) ++ flat_map by_flag_slots (bys_of p.reading)) (flat_map instance_slots p.instances)
      (typed_in_front test ty (vector_slots p ++ parameter_slots p ++ flat_map input_flag_slots (inputs_of p.reading)) (flat_map by_flag_slots (bys_of p.reading))
      (typed_in_front test ty (vector_slots p ++ parameter_slots p) (flat_map input_flag_slots (inputs_of p.reading))
      (typed_in_back test ty (vector_slots p) (parameter_slots p) (no_variable (located None (Parameter name)) (λ n. refl))
      (variables_typed test (λ (v : Variable). slot_for None (Parameter v.name) v.ty layout_role.Kept) true name refl (λ v. refl) (λ v. refl) p.parameters ty e))))
  global_typed None (Present name) ty e =
      let test = is_for (located None (Present name)) in
      let there = flag_is (is_present (inputs_of p.reading) name) ty e in
      let is : BigInt ≡ ty = same_some BigInt ty (ap flag_type (sym there) ∙ e) in
      subst (λ t. HasTypedSlot test (program_slots p) t) is
      (typed_in_front test BigInt (vector_slots p ++ parameter_slots p ++ flat_map input_flag_slots (inputs_of p.reading) ++ flat_map by_flag_slots (bys_of p.reading)) (flat_map instance_slots p.instances)
      (typed_in_front test BigInt (vector_slots p ++ parameter_slots p ++ flat_map input_flag_slots (inputs_of p.reading)) (flat_map by_flag_slots (bys_of p.reading))
      (typed_in_back test BigInt (vector_slots p ++ parameter_slots p) (flat_map input_flag_slots (inputs_of p.reading))
      (none_in_both test (vector_slots p) (parameter_slots p) (no_variable (located None (Present name)) (λ n. refl)) (no_parameter (located None (Present name)) (λ n. refl)))
      (flags_typed test (flat_map input_flag_slots (inputs_of p.reading)) (all_input_flags (inputs_of p.reading)) (any_present (inputs_of p.reading) name there)))))
  global_typed None (First name) ty e =
      let test = is_for (located None (First name)) in
      let there = flag_is (is_by (bys_of p.reading) name) ty e in
      let is : BigInt ≡ ty = same_some BigInt ty (ap flag_type (sym there) ∙ e) in
      subst (λ t. HasTypedSlot test (program_slots p) t) is
      (typed_in_front test BigInt (vector_slots p ++ parameter_slots p ++ flat_map input_flag_slots (inputs_of p.reading) ++ flat_map by_flag_slots (bys_of p.reading)) (flat_map instance_slots p.instances)
      (typed_in_back test BigInt (vector_slots p ++ parameter_slots p ++ flat_map input_flag_slots (inputs_of p.reading)) (flat_map by_flag_slots (bys_of p.reading))
      (none_in_both test (vector_slots p ++ parameter_slots p) (flat_map input_flag_slots (inputs_of p.reading))
      (none_in_both test (vector_slots p) (parameter_slots p) (no_variable (located None (First name)) (λ n. refl)) (no_parameter (located None (First name)) (λ n. refl)))
      (no_present (located None (First name)) (λ n. refl)))
      (flags_typed test (flat_map by_flag_slots (bys_of p.reading)) (all_by_flags (bys_of p.reading)) (any_first (bys_of p.reading) name there))))
  global_typed None (Last name) ty e =
      let test = is_for (located None (Last name)) in
      let there = flag_is (is_by (bys_of p.reading) name) ty e in
      let is : BigInt ≡ ty = same_some BigInt ty (ap flag_type (sym there) ∙ e) in
      subst (λ t. HasTypedSlot test (program_slots p) t) is
      (typed_in_front test BigInt (vector_slots p ++ parameter_slots p ++ flat_map input_flag_slots (inputs_of p.reading) ++ flat_map by_flag_slots (bys_of p.reading)) (flat_map instance_slots p.instances)
      (typed_in_back test BigInt (vector_slots p ++ parameter_slots p ++ flat_map input_flag_slots (inputs_of p.reading)) (flat_map by_flag_slots (bys_of p.reading))
      (none_in_both test (vector_slots p ++ parameter_slots p) (flat_map input_flag_slots (inputs_of p.reading))
      (none_in_both test (vector_slots p) (parameter_slots p) (no_variable (located None (Last name)) (λ n. refl)) (no_parameter (located None (Last name)) (λ n. refl)))
      (no_present (located None (Last name)) (λ n. refl)))
      (flags_typed test (flat_map by_flag_slots (bys_of p.reading)) (all_by_flags (bys_of p.reading)) (any_last (bys_of p.reading) name there))))
  global_typed (Some instance) (Named name) ty e =
      let at = located (Some instance) (Named name) in
      typed_in_back (is_for at) ty (vector_slots p ++ parameter_slots p ++ flat_map input_flag_slots (inputs_of p.reading) ++ flat_map by_flag_slots (bys_of p.reading)) (flat_map instance_slots p.instances)
      (none_in_both (is_for at) (vector_slots p ++ parameter_slots p ++ flat_map input_flag_slots (inputs_of p.reading)) (flat_map by_flag_slots (bys_of p.reading))
      (none_in_both (is_for at) (vector_slots p ++ parameter_slots p) (flat_map input_flag_slots (inputs_of p.reading))
      (none_in_both (is_for at) (vector_slots p) (parameter_slots p) (no_variable at (λ n. refl)) (no_parameter at (λ n. refl))) (no_present at (λ n. refl)))
      (none_flat (is_for at) by_flag_slots (bys_of p.reading) (λ b. refl)))
      (instances_typed p.instances instance name ty e)
  global_typed (Some instance) (Parameter name) ty e = absurd cc
  global_typed (Some instance) (First name) ty e = absurd cc
  global_typed (Some instance) (Last name) ty e = absurd cc
  global_typed (Some instance) (Present name) ty e = absurd cc

  -- the slot of a global that has a type has that type in the code
  pub slot_has_type : (home : Home) (global : Global) (ty : Ty) → globals_at p home global ≡ Some ty → slot_type (code_slots p) (slot_of_global p home global) ≡ Some ty
  slot_has_type home global ty e =
      let at = located home global in
      let slots = program_slots p in
      let it = global_typed home global ty e in
      let passes = number_passes (is_for at) slots it.0 it.1 in
      let s = passes.0 in
      let numbered : number_of_location (slot_locations p) at ≡ Some it.0 = number_mapped (λ other. is_same_location at other) location_of_slot slots ∙ it.1 in
      let own = slots_of_body (codes "init") p.init ++ (slots_of_body (codes "run") p.run ++ slots_of_body (codes "term") p.term) in
      let here : slice_get (code_slots p) it.0 ≡ Some (layout_slot s) =
      slice_in_front (map layout_slot slots) own it.0 (layout_slot s) (slice_mapped layout_slot slots it.0 ∙ ap (λ o. option_map layout_slot o) passes.1) in
      let typed : LayoutSlot.ty s ≡ ty =
      same_some (LayoutSlot.ty s) ty (sym (slice_mapped (λ (l : LayoutSlot). l.ty) slots it.0 ∙ ap (λ o. option_map (λ (l : LayoutSlot). l.ty) o) passes.1) ∙ it.2) in
      ap (λ o. slot_type (code_slots p) (unwrap_or o 0)) numbered ∙ ap (λ o. option_map (λ (x : Slot). x.ty) o) here ∙ ap (λ t. Some t) typed
