-- Slots have the roles that the meaning of a load asks for.
use Rattle.std.proofs.Common.{◌≡◌, ℕ, zero, suc, ◌+◌, ◌≤◌, Bool, true, false, not, ◌&&◌, ◌||◌, List, [], ◌∷◌, ◌++◌, length, map, flat_map, bytes_eq, Option, Some, None, refl, sym, ap, ◌∙◌, subst, arith, append_assoc, leb-true, if◌then◌else◌}
use Rattle.std.specs.Prelude.{nat_le, nat_lt, slice_get}
use Rattle.std.specs.Option.{option_map}
use Rattle.std.proofs.lemmas.Bool.{true≢false}
use Rattle.std.proofs.lemmas.List.{length-map}
use Rattle.std.proofs.lemmas.Slice.Eq.{bytes_eq-Decides}
use Rattle.ds2_meaning.specs.declared.globals.Variable.{Variable}
use Rattle.ds2_meaning.specs.declared.location.Global.{Global}
use Rattle.ds2_meaning.specs.declared.location.Global.TheVariants.{Named, First, Last, Present, Parameter as ParameterNamed}
use Rattle.ds2_meaning.specs.declared.readings.ByVariable.{ByVariable}
use Rattle.ds2_meaning.specs.declared.readings.Input.{Input}
use Rattle.ds2_meaning.specs.Location.{Home, Location, is_same_location}
use Rattle.ds2_meaning.specs.ProgramMeaning.{is_cleared_at}
use Rattle.ds2_meaning.specs.ProgramTree.{InstanceTree, UnitTree, data_vector, has_variable, is_listed}
use Rattle.ds2_meaning.specs.Reading.{inputs_of, bys_of, is_column}
use Rattle.ds2_layout.specs.declared.slot.LayoutSlot.{LayoutSlot}
use Rattle.ds2_layout.specs.declared.slot.SlotRole.TheVariants as layout_role
use Rattle.ds2_layout.specs.Layout.{vector_role, slot_for, vector_slots, parameter_slots, input_flag_slots, by_flag_slots, instance_slots, program_slots, location_of_slot}
use Rattle.ds2_code.specs.declared.parts.Slot.{Slot}
use Rattle.ds2_gen.specs.CodeCells.{CodeCell, SlotCell, HashCell, IteratorCell, ParameterCell}
use Rattle.ds2_gen.specs.StatementCode.{statements_keep}
use Rattle.ds2_gen.specs.UnitTheorem.{RoleFits, IsSlotCell}
use Rattle.ds2_program_code.specs.PlacedProgram.{number_of_location, slot_locations, hash_locations, iterator_locations, parameter_locations, first_cell, program_cell, layout_size, is_numbered_among, system_reserved, first_of_run}
use Rattle.ds2_program_code.specs.PlacementLaws.{code_role, HaveRolesOf, LayoutRolesFit}
use Rattle.ds2_program_code.proofs.Placements.{some_is, both, either_left, either_right, number_has, location_is, global_cell, numbered_by, listed_later}

-- ---- the layout

-- a slot has the role that its global asks for
abbrev FitsRole : UnitTree → LayoutSlot → Type 0
FitsRole p l = RoleFits (code_role l.role) (is_cleared_at p l.instance l.global)

abbrev FitRoles : UnitTree → List LayoutSlot → Type 0
FitRoles p [] = Unit {0}
FitRoles p (l ∷ layout) = FitsRole p l × FitRoles p layout

fit_append : (p : UnitTree) (xs ys : List LayoutSlot) → FitRoles p xs → FitRoles p ys → FitRoles p (xs ++ ys)
fit_append p [] ys a b = b
fit_append p (x ∷ xs) ys a b = (a.0, fit_append p xs ys a.1 b)

vector_by : (held retained column : Bool) → held ≡ true → RoleFits (code_role (if column then layout_role.Column else if retained then layout_role.Kept else layout_role.Cleared)) (held && not retained && not column)
vector_by true true true e = refl
vector_by true true false e = refl
vector_by true false true e = refl
vector_by true false false e = refl
vector_by false retained column e = absurd (true≢false (sym e))

vector_fits : (p : UnitTree) (vs : List Variable) → ((name : List ℕ) → has_variable vs name ≡ true → has_variable (data_vector p) name ≡ true)
    → FitRoles p (map (λ (v : Variable). slot_for None (Named v.name) v.ty (vector_role p v.name)) vs)
vector_fits p [] all = tt
vector_fits p (v ∷ vs) all = (
  vector_by (has_variable (data_vector p) v.name) (is_listed p.retained v.name) (is_column p.reading v.name) (all v.name (either_left (bytes_eq v.name v.name) (has_variable vs v.name) ((bytes_eq-Decides v.name v.name).1 refl))),
  vector_fits p vs (λ name h. all name (either_right (bytes_eq v.name name) (has_variable vs name) h)),
)

parameters_fit : (p : UnitTree) (vs : List Variable) → FitRoles p (map (λ (v : Variable). slot_for None (ParameterNamed v.name) v.ty layout_role.Kept) vs)
parameters_fit p [] = tt
parameters_fit p (v ∷ vs) = (refl, parameters_fit p vs)

flags_by : (p : UnitTree) (i : Input) (o : Option (List ℕ)) → FitRoles p (input_flag_slots (record i { present = o }))
flags_by p i None = tt
flags_by p i (Some name) = (refl, tt)

input_flags_fit : (p : UnitTree) (inputs : List Input) → FitRoles p (flat_map input_flag_slots inputs)
input_flags_fit p [] = tt
input_flags_fit p (i ∷ inputs) = fit_append p (input_flag_slots i) (flat_map input_flag_slots inputs) (flags_by p i i.present) (input_flags_fit p inputs)

by_flags_fit : (p : UnitTree) (bys : List ByVariable) → FitRoles p (flat_map by_flag_slots bys)
by_flags_fit p [] = tt
by_flags_fit p (b ∷ bys) = (refl, (refl, by_flags_fit p bys))

instance_fits : (p : UnitTree) (name : List ℕ) (vs : List Variable) → FitRoles p (map (λ (v : Variable). slot_for (Some name) (Named v.name) v.ty layout_role.Kept) vs)
instance_fits p name [] = tt
instance_fits p name (v ∷ vs) = (refl, instance_fits p name vs)

instances_fit : (p : UnitTree) (instances : List InstanceTree) → FitRoles p (flat_map instance_slots instances)
instances_fit p [] = tt
instances_fit p (i ∷ instances) = fit_append p (instance_slots i) (flat_map instance_slots instances) (instance_fits p i.name i.variables) (instances_fit p instances)

program_fits : (p : UnitTree) → FitRoles p (program_slots p)
program_fits p =
    let flags = flat_map input_flag_slots (inputs_of p.reading) in
    let bys = flat_map by_flag_slots (bys_of p.reading) in
    let instances = flat_map instance_slots p.instances in
    fit_append p (((vector_slots p ++ parameter_slots p) ++ flags) ++ bys) instances
    (fit_append p ((vector_slots p ++ parameter_slots p) ++ flags) bys
    (fit_append p (vector_slots p ++ parameter_slots p) flags
    (fit_append p (vector_slots p) (parameter_slots p) (vector_fits p (data_vector p) (λ name h. h)) (parameters_fit p p.parameters))
    (input_flags_fit p (inputs_of p.reading))) (by_flags_fit p (bys_of p.reading))) (instances_fit p p.instances)

-- the vector stands in front
vector_first : (p : UnitTree)
    → program_slots p ≡ vector_slots p ++ (parameter_slots p ++ (flat_map input_flag_slots (inputs_of p.reading) ++ (flat_map by_flag_slots (bys_of p.reading) ++ flat_map instance_slots p.instances)))
vector_first p =
    let v = vector_slots p in
    let a = parameter_slots p in
    let flags = flat_map input_flag_slots (inputs_of p.reading) in
    let bys = flat_map by_flag_slots (bys_of p.reading) in
    let instances = flat_map instance_slots p.instances in
    append_assoc ((v ++ a) ++ flags) bys instances ∙ append_assoc (v ++ a) flags (bys ++ instances) ∙ append_assoc v a (flags ++ (bys ++ instances))

-- ---- the code

-- the slot of a number has the role of the layout's, for the location of that number
role_at : (p : UnitTree) (layout : List LayoutSlot) (slots : List Slot) (n : ℕ) (at : Location) → FitRoles p layout → HaveRolesOf layout slots → slice_get (map location_of_slot layout) n ≡ Some at
    → (s : Slot) × (slice_get slots n ≡ Some s) × RoleFits s.role (is_cleared_at p at.home at.global)
role_at p [] slots n at fits roles here = absurd cc
role_at p (l ∷ layout) [] n at fits roles here = absurd roles
role_at p (l ∷ layout) (s ∷ slots) zero at fits roles here =
    let same : location_of_slot l ≡ at = some_is (location_of_slot l) at here in
    (s, refl, subst (λ (x : Location). RoleFits s.role (is_cleared_at p x.home x.global)) same (subst (λ r. RoleFits r (is_cleared_at p l.instance l.global)) (sym roles.0) fits.0))
role_at p (l ∷ layout) (s ∷ slots) (suc n) at fits roles here = role_at p layout slots n at fits.1 roles.1 here

kept_behind : (layout : List LayoutSlot) (slots : List Slot) (n : ℕ) (s : Slot) → HaveRolesOf layout slots → length layout ≤ n → slice_get slots n ≡ Some s → RoleFits s.role false
kept_behind [] [] n s roles h here = absurd cc
kept_behind [] (x ∷ slots) zero s roles h here =
    let same : x ≡ s = some_is x s here in
    subst (λ (y : Slot). RoleFits y.role false) same (subst (λ r. RoleFits r false) (sym roles.0) refl)
kept_behind [] (x ∷ slots) (suc n) s roles h here = kept_behind [] slots n s roles.1 (omega arith) here
kept_behind (l ∷ layout) [] n s roles h here = absurd roles
kept_behind (l ∷ layout) (x ∷ slots) zero s roles h here = absurd (omega arith)
kept_behind (l ∷ layout) (x ∷ slots) (suc n) s roles h here = kept_behind layout slots n s roles.1 (omega arith) here

-- ---- variables of the vector have slots

vector_numbered : (p : UnitTree) (vs : List Variable) (rest : List LayoutSlot) (name : List ℕ) → has_variable vs name ≡ true
    → (n : ℕ) × (number_of_location (map location_of_slot (map (λ (v : Variable). slot_for None (Named v.name) v.ty (vector_role p v.name)) vs ++ rest)) (record { home = None; global = Named name }) ≡ Some n)
vector_numbered p [] rest name e = absurd (true≢false (sym e))
vector_numbered p (v ∷ vs) rest name e =
    numbered_by (bytes_eq name v.name) (number_of_location (map location_of_slot (map (λ (v : Variable). slot_for None (Named v.name) v.ty (vector_role p v.name)) vs ++ rest)) (record { home = None; global = Named name }))
    (λ other. vector_numbered p vs rest name (listed_later v.name name (has_variable vs name) e other))

-- what is set to null has a slot
abbrev later_cells : UnitTree → Location → Option CodeCell
later_cells p at =
    first_cell (option_map HashCell (number_of_location (hash_locations p) at))
    (first_cell (option_map IteratorCell (number_of_location (iterator_locations p) at)) (option_map ParameterCell (number_of_location (parameter_locations p) at)))

cleared_listed : (held retained column : Bool) → (held && not retained && not column) ≡ true → held ≡ true
cleared_listed true retained column e = refl
cleared_listed false retained column e = e

cleared_slot : (p : UnitTree) (home : Home) (global : Global) (c : CodeCell) → program_cell p (record { home = home; global = global }) ≡ Some c → is_cleared_at p home global ≡ true → IsSlotCell c
cleared_slot p None (Named name) c here clears =
    let at : Location = record { home = None; global = Named name } in
    let held = cleared_listed (has_variable (data_vector p) name) (is_listed p.retained name) (is_column p.reading name) clears in
    let flags = flat_map input_flag_slots (inputs_of p.reading) in
    let bys = flat_map by_flag_slots (bys_of p.reading) in
    let it = vector_numbered p (data_vector p) (parameter_slots p ++ (flags ++ (bys ++ flat_map instance_slots p.instances))) name held in
    let numbered : number_of_location (slot_locations p) at ≡ Some it.0 = ap (λ slots. number_of_location (map location_of_slot slots) at) (vector_first p) ∙ it.1 in
    let chosen : first_cell (option_map SlotCell (number_of_location (slot_locations p) at)) (later_cells p at) ≡ Some (SlotCell it.0) = ap (λ o. first_cell (option_map SlotCell o) (later_cells p at)) numbered in
    subst (λ k. IsSlotCell k) (some_is (SlotCell it.0) c (sym chosen ∙ here)) tt
cleared_slot p None (First name) c here clears = absurd (true≢false (sym clears))
cleared_slot p None (Last name) c here clears = absurd (true≢false (sym clears))
cleared_slot p None (Present name) c here clears = absurd (true≢false (sym clears))
cleared_slot p None (ParameterNamed name) c here clears = absurd (true≢false (sym clears))
cleared_slot p (Some instance) global c here clears = absurd (true≢false (sym clears))

-- a reserved slot lies behind the layout's
kept_least : (p : UnitTree) (n : ℕ) → system_reserved p (first_of_run p) p.run 0 (SlotCell n) ≡ true → length (program_slots p) ≤ n
kept_least p n is =
    let first = first_of_run p in
    let parts = both (nat_le (layout_size p) n)
    (not (is_numbered_among first (length p.run.locals) n) && (nat_lt n (first + length p.run.locals + 0) || not (is_numbered_among (first + length p.run.locals) (statements_keep p.run.statements) n))) is in
    let most : layout_size p ≤ n = leb-true (layout_size p) n parts.0 in
    omega (arith, length-map (program_slots p) location_of_slot, most)

pub layout_roles_fit : LayoutRolesFit
layout_roles_fit code p roles = record {
  slots = λ at n here.
      let it = number_has (λ other. is_same_location at other) (slot_locations p) n (global_cell p at (SlotCell n) here) in
      let found = role_at p (program_slots p) code.slots n it.0 (program_fits p) roles it.1 in
      (found.0, found.1, subst (λ (x : Location). RoleFits found.0.role (is_cleared_at p x.home x.global)) (sym (location_is at it.0 it.2)) found.2);
  cleared = λ at c here clears. cleared_slot p at.home at.global c here clears;
  reserved = λ n s is here. kept_behind (program_slots p) code.slots n s roles (kept_least p n is) here;
}
