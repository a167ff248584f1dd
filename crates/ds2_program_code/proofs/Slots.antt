-- Which globals have slots in the layout of a program.
use Rattle.std.proofs.Common.{◌≡◌, ℕ, Bool, true, false, ◌&&◌, ◌||◌, List, [], ◌∷◌, ◌++◌, map, flat_map, bytes_eq, Option, Some, None, unwrap_or, refl, sym, ap, ◌∙◌, if◌then◌else◌}
use Rattle.std.specs.List.{list_any}
use Rattle.std.specs.Option.{option_map}
use Rattle.std.proofs.lemmas.Bool.{true≢false, or_from, or_parts, and_from, and_left, and_right}
use Rattle.ds2_value.specs.declared.ty.Ty.{Ty}
use Rattle.ds2_meaning.specs.declared.globals.Variable.{Variable}
use Rattle.ds2_meaning.specs.declared.location.Global.{Global}
use Rattle.ds2_meaning.specs.declared.location.Global.TheVariants.{Named, First, Last, Present, Parameter}
use Rattle.ds2_meaning.specs.declared.readings.ByVariable.{ByVariable}
use Rattle.ds2_meaning.specs.declared.readings.Input.{Input}
use Rattle.ds2_meaning.specs.HashObjects.{object_at}
use Rattle.ds2_meaning.specs.IsTyped.{type_in, flag_type, is_by, is_flag_of, is_present, globals_of, package_globals, instance_variables, variable_names, IsTypedUnit}
use Rattle.ds2_meaning.specs.Location.{Home, Location, is_same_home, is_same_location}
use Rattle.ds2_meaning.specs.ProgramTree.{InstanceTree, UnitTree, data_vector, is_listed}
use Rattle.ds2_meaning.specs.Reading.{inputs_of, bys_of}
use Rattle.ds2_layout.specs.declared.slot.LayoutSlot.{LayoutSlot}
use Rattle.ds2_layout.specs.declared.slot.SlotRole.TheVariants as layout_role
use Rattle.ds2_layout.specs.Layout.{vector_role, slot_for, vector_slots, parameter_slots, input_flag_slots, by_flag_slots, instance_slots, program_slots, location_of_slot}
use Rattle.ds2_gen.specs.CodeCells.{CodeCell, SlotCell, HashCell, IteratorCell, ParameterCell}
use Rattle.ds2_program_code.specs.PlacedProgram.{number_of_location, slot_locations, hash_locations, iterator_locations, parameter_locations, first_cell, program_cell}
use Rattle.ds2_program_code.specs.CodeParts.{slot_of_global}
use Rattle.ds2_program_code.proofs.Lists.{bytes_swap, any_append, none_in_both, any_in_front, any_in_back, any_map, none_mapped, none_flat, number_of_any}
use Rattle.ds2_program_code.proofs.Homes.{UnitHome, own_home, instance_home, homes_of, home_in, only_there, homes_apart}

abbrev pub located : Home → Global → Location
located home global = record { home = home; global = global }

-- a slot is for a location
abbrev pub is_for : Location → LayoutSlot → Bool
is_for at slot = is_same_location at (location_of_slot slot)

-- the locations of the variables of a home
abbrev variables_at : UnitHome → List Location
variables_at u = map (λ (v : Variable). located u.home (Named v.name)) u.variables

-- ---- five lists

module _ {X : Type 0} (test : X → Bool) (v a f b i : List X) where
  none_in_five : list_any test v ≡ false → list_any test a ≡ false → list_any test f ≡ false → list_any test b ≡ false → list_any test i ≡ false → list_any test (v ++ a ++ f ++ b ++ i) ≡ false
  none_in_five hv ha hf hb hi = none_in_both test (v ++ a ++ f ++ b) i (none_in_both test (v ++ a ++ f) b (none_in_both test (v ++ a) f (none_in_both test v a hv ha) hf) hb) hi

  any_in_first : list_any test v ≡ true → list_any test (v ++ a ++ f ++ b ++ i) ≡ true
  any_in_first h = any_in_front test (v ++ a ++ f ++ b) i (any_in_front test (v ++ a ++ f) b (any_in_front test (v ++ a) f (any_in_front test v a h)))

  any_in_second : list_any test a ≡ true → list_any test (v ++ a ++ f ++ b ++ i) ≡ true
  any_in_second h = any_in_front test (v ++ a ++ f ++ b) i (any_in_front test (v ++ a ++ f) b (any_in_front test (v ++ a) f (any_in_back test v a h)))

  any_in_third : list_any test f ≡ true → list_any test (v ++ a ++ f ++ b ++ i) ≡ true
  any_in_third h = any_in_front test (v ++ a ++ f ++ b) i (any_in_front test (v ++ a ++ f) b (any_in_back test (v ++ a) f h))

  any_in_fourth : list_any test b ≡ true → list_any test (v ++ a ++ f ++ b ++ i) ≡ true
  any_in_fourth h = any_in_front test (v ++ a ++ f ++ b) i (any_in_back test (v ++ a ++ f) b h)

  any_in_fifth : list_any test i ≡ true → list_any test (v ++ a ++ f ++ b ++ i) ≡ true
  any_in_fifth h = any_in_back test (v ++ a ++ f ++ b) i h

-- ---- no slot

module _ (at : Location) where
  both_alike : (a b c d : Bool) → a ≡ c → b ≡ d → (a || b) ≡ (c || d)
  both_alike a b c d e f = ap (λ x. x || b) e ∙ ap (λ x. c || x) f

  own_alike : (p : UnitTree) (vs : List Variable)
      → list_any (is_for at) (map (λ (v : Variable). slot_for None (Named v.name) v.ty (vector_role p v.name)) vs) ≡ list_any (λ other. is_same_location at other) (map (λ (v : Variable). located None (Named v.name)) vs)
  own_alike p vs =
      any_map (is_for at) (λ (v : Variable). slot_for None (Named v.name) v.ty (vector_role p v.name)) vs
      ∙ sym (any_map (λ other. is_same_location at other) (λ (v : Variable). located None (Named v.name)) vs)

  instance_alike : (name : List ℕ) (vs : List Variable)
      → list_any (is_for at) (map (λ (v : Variable). slot_for (Some name) (Named v.name) v.ty layout_role.Kept) vs) ≡ list_any (λ other. is_same_location at other) (map (λ (v : Variable). located (Some name) (Named v.name)) vs)
  instance_alike name vs =
      any_map (is_for at) (λ (v : Variable). slot_for (Some name) (Named v.name) v.ty layout_role.Kept) vs
      ∙ sym (any_map (λ other. is_same_location at other) (λ (v : Variable). located (Some name) (Named v.name)) vs)

  instances_alike : (instances : List InstanceTree)
      → list_any (is_for at) (flat_map instance_slots instances) ≡ list_any (λ other. is_same_location at other) (flat_map variables_at (map instance_home instances))
  instances_alike [] = refl
  instances_alike (i ∷ instances) =
      any_append (is_for at) (instance_slots i) (flat_map instance_slots instances)
      ∙ both_alike (list_any (is_for at) (instance_slots i)) (list_any (is_for at) (flat_map instance_slots instances)) (list_any (λ other. is_same_location at other) (variables_at (instance_home i)))
      (list_any (λ other. is_same_location at other) (flat_map variables_at (map instance_home instances))) (instance_alike i.name i.variables) (instances_alike instances)
      ∙ sym (any_append (λ other. is_same_location at other) (variables_at (instance_home i)) (flat_map variables_at (map instance_home instances)))

  no_input_flag : ((name : List ℕ) → is_same_location at (located None (Present name)) ≡ false) → (i : Input) (present : Option (List ℕ)) → list_any (is_for at) (input_flag_slots (record i { present = present })) ≡ false
  no_input_flag other i None = refl
  no_input_flag other i (Some name) = or_from (is_same_location at (located None (Present name))) false (other name) refl

  -- a location that is of no variable, parameter or flag has no slot
  no_slot : (p : UnitTree) → list_any (λ other. is_same_location at other) (flat_map variables_at (homes_of p)) ≡ false → ((name : List ℕ) → is_same_location at (located None (Parameter name)) ≡ false)
      → ((name : List ℕ) → is_same_location at (located None (Present name)) ≡ false) → ((name : List ℕ) → is_same_location at (located None (First name)) ≡ false) → ((name : List ℕ) → is_same_location at (located None (Last name)) ≡ false)
      → list_any (λ other. is_same_location at other) (slot_locations p) ≡ false
  no_slot p none parameter present first last =
      let own = variables_at (own_home p) in
      let rest = flat_map variables_at (map instance_home p.instances) in
      let parts = or_parts (list_any (λ other. is_same_location at other) own) (list_any (λ other. is_same_location at other) rest) (sym (any_append (λ other. is_same_location at other) own rest) ∙ none) in
      any_map (λ other. is_same_location at other) location_of_slot (program_slots p)
      ∙ none_in_five (is_for at) (vector_slots p) (parameter_slots p) (flat_map input_flag_slots (inputs_of p.reading)) (flat_map by_flag_slots (bys_of p.reading)) (flat_map instance_slots p.instances)
      (own_alike p (data_vector p) ∙ parts.0)
      (none_mapped (is_for at) (λ (v : Variable). slot_for None (Parameter v.name) v.ty layout_role.Kept) p.parameters (λ v. parameter v.name))
      (none_flat (is_for at) input_flag_slots (inputs_of p.reading) (λ i. no_input_flag present i i.present))
      (none_flat (is_for at) by_flag_slots (bys_of p.reading) (λ b. or_from (is_same_location at (located None (First b.name))) (is_same_location at (located None (Last b.name)) || false) (first b.name) (or_from (is_same_location at (located None (Last b.name))) false (last b.name) refl)))
      (instances_alike p.instances ∙ parts.1)

-- the location of no variable of a home
free_variables : (home other : Home) (name : List ℕ) (vs : List Variable) → is_listed (variable_names vs) name ≡ false
    → list_any (λ x. is_same_location (located home (Named name)) x) (map (λ (v : Variable). located other (Named v.name)) vs) ≡ false
free_variables home other name [] e = refl
free_variables home other name (v ∷ vs) e =
    let parts = or_parts (bytes_eq v.name name) (is_listed (variable_names vs) name) e in
    or_from (is_same_home home other && bytes_eq name v.name) (list_any (λ x. is_same_location (located home (Named name)) x) (map (λ (v : Variable). located other (Named v.name)) vs))
    (and_right (is_same_home home other) (bytes_eq name v.name) (bytes_swap name v.name ∙ parts.0)) (free_variables home other name vs parts.1)

-- a name of a home that is no variable's has no slot
pub no_slot_for_object : (p : UnitTree) (typed : IsTypedUnit p) (home : Home) (u : UnitHome) (name : List ℕ) → home_in (homes_of p) home ≡ Some u → is_listed (variable_names u.variables) name ≡ false
    → list_any (λ other. is_same_location (object_at home name) other) (slot_locations p) ≡ false
no_slot_for_object p typed home u name looked fresh =
    no_slot (object_at home name) p
    (only_there (λ other. is_same_location (object_at home name) other) variables_at home
    (λ v e. none_mapped (λ other. is_same_location (object_at home name) other) (λ (x : Variable). located v.home (Named x.name)) v.variables (λ x. and_left (is_same_home home v.home) (bytes_eq name x.name) e))
    (homes_of p) u (homes_apart p typed) looked (free_variables home u.home name u.variables fresh))
    (λ n. and_right (is_same_home home None) false refl) (λ n. and_right (is_same_home home None) false refl) (λ n. and_right (is_same_home home None) false refl) (λ n. and_right (is_same_home home None) false refl)

-- a parameter of an instance has no slot
pub no_slot_for_parameter : (p : UnitTree) (instance name : List ℕ) → list_any (λ other. is_same_location (located (Some instance) (Parameter name)) other) (slot_locations p) ≡ false
no_slot_for_parameter p instance name =
    no_slot (located (Some instance) (Parameter name)) p
    (none_flat (λ other. is_same_location (located (Some instance) (Parameter name)) other) variables_at (homes_of p)
    (λ u. none_mapped (λ other. is_same_location (located (Some instance) (Parameter name)) other) (λ (x : Variable). located u.home (Named x.name)) u.variables (λ x. and_right (is_same_home (Some instance) u.home) false refl)))
    (λ n. refl) (λ n. refl) (λ n. refl) (λ n. refl)

-- ---- slots

any_variable_by : (same b : Bool) (rest : Bool) (ty : Ty) (v : Variable) (name : List ℕ) (o : Option Ty) → same ≡ true → bytes_eq v.name name ≡ b → (if b then Some v.ty else o) ≡ Some ty → (o ≡ Some ty → rest ≡ true)
    → ((same && bytes_eq name v.name) || rest) ≡ true
any_variable_by same true rest ty v name o yes' here e later = ap (λ b. b || rest) (and_from same (bytes_eq name v.name) yes' (bytes_swap name v.name ∙ here))
any_variable_by same false rest ty v name o yes' here e later = ap (λ b. b || rest) (and_right same (bytes_eq name v.name) (bytes_swap name v.name ∙ here)) ∙ later e

-- a variable that has a type is among the variables
pub any_variable : (same : Bool) → same ≡ true → (vs : List Variable) (name : List ℕ) (ty : Ty) → type_in vs name ≡ Some ty → list_any (λ (v : Variable). same && bytes_eq name v.name) vs ≡ true
any_variable same yes' [] name ty e = absurd cc
any_variable same yes' (v ∷ vs) name ty e =
    any_variable_by same (bytes_eq v.name name) (list_any (λ (v : Variable). same && bytes_eq name v.name) vs) ty v name (type_in vs name) yes' refl e (λ f. any_variable same yes' vs name ty f)

pub flag_is : (b : Bool) (ty : Ty) → flag_type b ≡ Some ty → b ≡ true
flag_is true ty e = refl
flag_is false ty e = absurd cc

by_first : (b rest : Bool) (x : ByVariable) (name : List ℕ) (later : Bool) → bytes_eq x.name name ≡ b → (if b then true else rest) ≡ true → (rest ≡ true → later ≡ true) → (bytes_eq name x.name || later) ≡ true
by_first true rest x name later here e h = ap (λ b. b || later) (bytes_swap name x.name ∙ here)
by_first false rest x name later here e h = ap (λ b. b || later) (bytes_swap name x.name ∙ here) ∙ h e

pub any_first : (bys : List ByVariable) (name : List ℕ) → is_by bys name ≡ true → list_any (is_for (located None (First name))) (flat_map by_flag_slots bys) ≡ true
any_first [] name e = absurd (true≢false (sym e))
any_first (b ∷ bys) name e = by_first (bytes_eq b.name name) (is_by bys name) b name (list_any (is_for (located None (First name))) (flat_map by_flag_slots bys)) refl e (λ f. any_first bys name f)

pub any_last : (bys : List ByVariable) (name : List ℕ) → is_by bys name ≡ true → list_any (is_for (located None (Last name))) (flat_map by_flag_slots bys) ≡ true
any_last [] name e = absurd (true≢false (sym e))
any_last (b ∷ bys) name e = by_first (bytes_eq b.name name) (is_by bys name) b name (list_any (is_for (located None (Last name))) (flat_map by_flag_slots bys)) refl e (λ f. any_last bys name f)

any_flag : (i : Input) (present : Option (List ℕ)) (name : List ℕ) → is_flag_of present name ≡ true → list_any (is_for (located None (Present name))) (input_flag_slots (record i { present = present })) ≡ true
any_flag i None name e = absurd (true≢false (sym e))
any_flag i (Some flag) name e = ap (λ b. b || false) (bytes_swap name flag ∙ e)

present_by : (b : Bool) (i : Input) (inputs : List Input) (name : List ℕ) → is_flag_of i.present name ≡ b → (if b then true else is_present inputs name) ≡ true
    → (is_present inputs name ≡ true → list_any (is_for (located None (Present name))) (flat_map input_flag_slots inputs) ≡ true) → list_any (is_for (located None (Present name))) (input_flag_slots i ++ flat_map input_flag_slots inputs) ≡ true
present_by true i inputs name here e later = any_in_front (is_for (located None (Present name))) (input_flag_slots i) (flat_map input_flag_slots inputs) (any_flag i i.present name here)
present_by false i inputs name here e later = any_in_back (is_for (located None (Present name))) (input_flag_slots i) (flat_map input_flag_slots inputs) (later e)

pub any_present : (inputs : List Input) (name : List ℕ) → is_present inputs name ≡ true → list_any (is_for (located None (Present name))) (flat_map input_flag_slots inputs) ≡ true
any_present [] name e = absurd (true≢false (sym e))
any_present (i ∷ inputs) name e = present_by (is_flag_of i.present name) i inputs name refl e (λ f. any_present inputs name f)

any_of_instance : (own instance name : List ℕ) (vs : List Variable) (ty : Ty) → bytes_eq own instance ≡ true → type_in vs name ≡ Some ty
    → list_any (is_for (located (Some instance) (Named name))) (map (λ (v : Variable). slot_for (Some own) (Named v.name) v.ty layout_role.Kept) vs) ≡ true
any_of_instance own instance name vs ty same e =
    any_map (is_for (located (Some instance) (Named name))) (λ (v : Variable). slot_for (Some own) (Named v.name) v.ty layout_role.Kept) vs
    ∙ any_variable (bytes_eq instance own) (bytes_swap instance own ∙ same) vs name ty e

instance_by : (b : Bool) (i : InstanceTree) (instances : List InstanceTree) (instance name : List ℕ) (ty : Ty) → bytes_eq i.name instance ≡ b
    → type_in (if b then i.variables else instance_variables instances instance) name ≡ Some ty
    → (type_in (instance_variables instances instance) name ≡ Some ty → list_any (is_for (located (Some instance) (Named name))) (flat_map instance_slots instances) ≡ true)
    → list_any (is_for (located (Some instance) (Named name))) (instance_slots i ++ flat_map instance_slots instances) ≡ true
instance_by true i instances instance name ty same e later =
    any_in_front (is_for (located (Some instance) (Named name))) (instance_slots i) (flat_map instance_slots instances) (any_of_instance i.name instance name i.variables ty same e)
instance_by false i instances instance name ty same e later = any_in_back (is_for (located (Some instance) (Named name))) (instance_slots i) (flat_map instance_slots instances) (later e)

any_in_instances : (instances : List InstanceTree) (instance name : List ℕ) (ty : Ty) → type_in (instance_variables instances instance) name ≡ Some ty
    → list_any (is_for (located (Some instance) (Named name))) (flat_map instance_slots instances) ≡ true
any_in_instances [] instance name ty e = absurd cc
any_in_instances (i ∷ instances) instance name ty e = instance_by (bytes_eq i.name instance) i instances instance name ty refl e (λ f. any_in_instances instances instance name ty f)

-- the globals of a home with their types
abbrev pub globals_at : UnitTree → Home → Global → Option Ty
globals_at p None = globals_of p
globals_at p (Some instance) = package_globals (instance_variables p.instances instance)

module _ (p : UnitTree) where
  any_global : (home : Home) (global : Global) (ty : Ty) → globals_at p home global ≡ Some ty → list_any (is_for (located home global)) (program_slots p) ≡ true
  any_global None (Named name) ty e =
      any_in_first (is_for (located None (Named name))) (vector_slots p) (parameter_slots p) (flat_map input_flag_slots (inputs_of p.reading)) (flat_map by_flag_slots (bys_of p.reading)) (flat_map instance_slots p.instances)
      (any_map (is_for (located None (Named name))) (λ (v : Variable). slot_for None (Named v.name) v.ty (vector_role p v.name)) (data_vector p) ∙ any_variable true refl (data_vector p) name ty e)
  any_global None (Parameter name) ty e =
      any_in_second (is_for (located None (Parameter name))) (vector_slots p) (parameter_slots p) (flat_map input_flag_slots (inputs_of p.reading)) (flat_map by_flag_slots (bys_of p.reading)) (flat_map instance_slots p.instances)
      (any_map (is_for (located None (Parameter name))) (λ (v : Variable). slot_for None (Parameter v.name) v.ty layout_role.Kept) p.parameters ∙ any_variable true refl p.parameters name ty e)
  any_global None (First name) ty e =
      any_in_fourth (is_for (located None (First name))) (vector_slots p) (parameter_slots p) (flat_map input_flag_slots (inputs_of p.reading)) (flat_map by_flag_slots (bys_of p.reading)) (flat_map instance_slots p.instances)
      (any_first (bys_of p.reading) name (flag_is (is_by (bys_of p.reading) name) ty e))
  any_global None (Last name) ty e =
      any_in_fourth (is_for (located None (Last name))) (vector_slots p) (parameter_slots p) (flat_map input_flag_slots (inputs_of p.reading)) (flat_map by_flag_slots (bys_of p.reading)) (flat_map instance_slots p.instances)
      (any_last (bys_of p.reading) name (flag_is (is_by (bys_of p.reading) name) ty e))
  any_global None (Present name) ty e =
      any_in_third (is_for (located None (Present name))) (vector_slots p) (parameter_slots p) (flat_map input_flag_slots (inputs_of p.reading)) (flat_map by_flag_slots (bys_of p.reading)) (flat_map instance_slots p.instances)
      (any_present (inputs_of p.reading) name (flag_is (is_present (inputs_of p.reading) name) ty e))
  any_global (Some instance) (Named name) ty e =
      any_in_fifth (is_for (located (Some instance) (Named name))) (vector_slots p) (parameter_slots p) (flat_map input_flag_slots (inputs_of p.reading)) (flat_map by_flag_slots (bys_of p.reading)) (flat_map instance_slots p.instances)
      (any_in_instances p.instances instance name ty e)
  any_global (Some instance) (Parameter name) ty e = absurd cc
  any_global (Some instance) (First name) ty e = absurd cc
  any_global (Some instance) (Last name) ty e = absurd cc
  any_global (Some instance) (Present name) ty e = absurd cc

  -- a global that has a type has a slot
  pub slot_numbered : (home : Home) (global : Global) (ty : Ty) → globals_at p home global ≡ Some ty → (n : ℕ) × (number_of_location (slot_locations p) (located home global) ≡ Some n)
  slot_numbered home global ty e =
      number_of_any (λ other. is_same_location (located home global) other) (slot_locations p)
      (any_map (λ other. is_same_location (located home global) other) location_of_slot (program_slots p) ∙ any_global home global ty e)

  abbrev pub later_cell : Location → Option CodeCell
  later_cell at =
      first_cell (option_map HashCell (number_of_location (hash_locations p) at))
      (first_cell (option_map IteratorCell (number_of_location (iterator_locations p) at)) (option_map ParameterCell (number_of_location (parameter_locations p) at)))

  -- its cell is that slot
  pub slot_cell : (home : Home) (global : Global) (ty : Ty) → globals_at p home global ≡ Some ty → program_cell p (located home global) ≡ Some (SlotCell (slot_of_global p home global))
  slot_cell home global ty e =
      let it = slot_numbered home global ty e in
      ap (λ o. first_cell (option_map SlotCell o) (later_cell (located home global))) it.1 ∙ ap (λ o. Some (SlotCell (unwrap_or o 0))) (sym it.1)
