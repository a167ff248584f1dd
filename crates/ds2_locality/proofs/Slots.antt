-- The locations of a program's variables and flags are those of its slots.
use Rattle.std.proofs.Common.{◌≡◌, ℕ, Bool, true, false, ◌||◌, List, [], ◌∷◌, ◌++◌, map, flat_map, bytes_eq, Option, Some, None, refl, sym, ap, subst, if◌then◌else◌}
use Rattle.std.specs.List.{list_any}
use Rattle.std.proofs.lemmas.Bool.{true≢false, and_from}
use Rattle.std.proofs.lemmas.Slice.Eq.{bytes_eq-Decides}
use Rattle.ds2_value.specs.declared.ty.Ty.{Ty}
use Rattle.ds2_layout.specs.declared.slot.LayoutSlot.{LayoutSlot}
use Rattle.ds2_layout.specs.declared.slot.SlotRole.TheVariants.{Kept}
use Rattle.ds2_layout.specs.Layout.{vector_role, slot_for, vector_slots, parameter_slots, input_flag_slots, by_flag_slots, instance_slots, program_slots, location_of_slot}
use Rattle.ds2_meaning.specs.declared.globals.Variable.{Variable}
use Rattle.ds2_meaning.specs.declared.location.Global.{Global}
use Rattle.ds2_meaning.specs.declared.location.Global.TheVariants.{Named, First, Last, Present, Parameter}
use Rattle.ds2_meaning.specs.declared.readings.ByVariable.{ByVariable}
use Rattle.ds2_meaning.specs.declared.readings.Input.{Input}
use Rattle.ds2_meaning.specs.IsTyped.{type_in, flag_type, is_by, is_flag_of, is_present, globals_of, package_globals}
use Rattle.ds2_meaning.specs.Location.{Location, is_same_location}
use Rattle.ds2_meaning.specs.ProgramTree.{InstanceTree, UnitTree, data_vector}
use Rattle.ds2_meaning.specs.Reading.{inputs_of, bys_of}
use Rattle.ds2_locality.specs.Deeds.{global_at}

-- ---- tests

or_left : (a b : Bool) → a ≡ true → (a || b) ≡ true
or_left true b e = refl
or_left false b e = absurd (true≢false (sym e))

or_right : (a b : Bool) → b ≡ true → (a || b) ≡ true
or_right true b e = refl
or_right false b e = e

or_both : (a b d : Bool) → (b ≡ true → d ≡ true) → (a || b) ≡ true → (a || d) ≡ true
or_both true b d g h = refl
or_both false b d g h = g h

if_both : (a b c d : Bool) → (a ≡ true → c ≡ true) → (b ≡ true → d ≡ true) → (if a then true else b) ≡ true → (c || d) ≡ true
if_both true b c d f g h = or_left c d (f refl)
if_both false b c d f g h = or_right c d (g h)

turned : (a b : List ℕ) → bytes_eq a b ≡ true → bytes_eq b a ≡ true
turned a b e = (bytes_eq-Decides b a).1 (sym ((bytes_eq-Decides a b).0 e))

-- ---- a location has a slot

-- a location is that of one of these slots
abbrev pub HasSlot : Location → List LayoutSlot → Type 0
HasSlot at slots = list_any (λ other. is_same_location at other) (map location_of_slot slots) ≡ true

slot_front : (at : Location) (xs ys : List LayoutSlot) → HasSlot at xs → HasSlot at (xs ++ ys)
slot_front at [] ys h = absurd (true≢false (sym h))
slot_front at (x ∷ xs) ys h =
    or_both (is_same_location at (location_of_slot x)) (list_any (λ other. is_same_location at other) (map location_of_slot xs)) (list_any (λ other. is_same_location at other) (map location_of_slot (xs ++ ys)))
    (λ k. slot_front at xs ys k) h

slot_back : (at : Location) (xs ys : List LayoutSlot) → HasSlot at ys → HasSlot at (xs ++ ys)
slot_back at [] ys h = h
slot_back at (x ∷ xs) ys h = or_right (is_same_location at (location_of_slot x)) (list_any (λ other. is_same_location at other) (map location_of_slot (xs ++ ys))) (slot_back at xs ys h)

typed_by : (b x y : Bool) (ty q : Ty) (o : Option Ty) → (if b then Some q else o) ≡ Some ty → (b ≡ true → x ≡ true) → (o ≡ Some ty → y ≡ true) → (x || y) ≡ true
typed_by true x y ty q o e f g = or_left x y (f refl)
typed_by false x y ty q o e f g = or_right x y (g e)

-- a variable has its slot
variable_slot : (at : Location) (slot_of : Variable → LayoutSlot) (name : List ℕ) → ((v : Variable) → bytes_eq v.name name ≡ true → is_same_location at (location_of_slot (slot_of v)) ≡ true)
    → (vs : List Variable) (ty : Ty) → type_in vs name ≡ Some ty → HasSlot at (map slot_of vs)
variable_slot at slot_of name f [] ty e = absurd cc
variable_slot at slot_of name f (v ∷ vs) ty e =
    typed_by (bytes_eq v.name name) (is_same_location at (location_of_slot (slot_of v))) (list_any (λ other. is_same_location at other) (map location_of_slot (map slot_of vs))) ty v.ty (type_in vs name) e
    (λ k. f v k) (λ k. variable_slot at slot_of name f vs ty k)

flag_there : (b : Bool) (ty : Ty) → flag_type b ≡ Some ty → b ≡ true
flag_there true ty e = refl
flag_there false ty e = absurd cc

first_slot : (name : List ℕ) (bys : List ByVariable) → is_by bys name ≡ true → HasSlot (global_at None (First name)) (flat_map by_flag_slots bys)
first_slot name [] h = absurd (true≢false (sym h))
first_slot name (by ∷ bys) h =
    let more = list_any (λ other. is_same_location (global_at None (First name)) other) (map location_of_slot (flat_map by_flag_slots bys)) in
    if_both (bytes_eq by.name name) (is_by bys name) (bytes_eq name by.name) more (λ k. turned by.name name k) (λ k. first_slot name bys k) h

last_slot : (name : List ℕ) (bys : List ByVariable) → is_by bys name ≡ true → HasSlot (global_at None (Last name)) (flat_map by_flag_slots bys)
last_slot name [] h = absurd (true≢false (sym h))
last_slot name (by ∷ bys) h =
    let more = list_any (λ other. is_same_location (global_at None (Last name)) other) (map location_of_slot (flat_map by_flag_slots bys)) in
    if_both (bytes_eq by.name name) (is_by bys name) (bytes_eq name by.name) more (λ k. turned by.name name k) (λ k. last_slot name bys k) h

input_slot : (name : List ℕ) (input : Input) (o : Option (List ℕ)) → input.present ≡ o → is_flag_of o name ≡ true → HasSlot (global_at None (Present name)) (input_flag_slots input)
input_slot name input None e h = absurd (true≢false (sym h))
input_slot name input (Some flag) e h =
    let other : Input = record input { present = Some flag } in
    let same : other ≡ input = ap (λ (o : Option (List ℕ)). record input { present = o }) (sym e) in
    subst (λ (i : Input). HasSlot (global_at None (Present name)) (input_flag_slots i)) same (or_left (bytes_eq name flag) false (turned flag name h))

present_by : (b : Bool) (at : Location) (xs ys : List LayoutSlot) (rest : Bool) → (if b then true else rest) ≡ true → (b ≡ true → HasSlot at xs) → (rest ≡ true → HasSlot at ys) → HasSlot at (xs ++ ys)
present_by true at xs ys rest h f g = slot_front at xs ys (f refl)
present_by false at xs ys rest h f g = slot_back at xs ys (g h)

present_slot : (name : List ℕ) (inputs : List Input) → is_present inputs name ≡ true → HasSlot (global_at None (Present name)) (flat_map input_flag_slots inputs)
present_slot name [] h = absurd (true≢false (sym h))
present_slot name (input ∷ inputs) h =
    present_by (is_flag_of input.present name) (global_at None (Present name)) (input_flag_slots input) (flat_map input_flag_slots inputs) (is_present inputs name) h
    (λ k. input_slot name input input.present refl k) (λ k. present_slot name inputs k)

-- ---- the globals of a program and of its instances

module _ (p : UnitTree) where
  abbrev vector : List LayoutSlot
  vector = vector_slots p

  abbrev parameters : List LayoutSlot
  parameters = parameter_slots p

  abbrev presents : List LayoutSlot
  presents = flat_map input_flag_slots (inputs_of p.reading)

  abbrev flags : List LayoutSlot
  flags = flat_map by_flag_slots (bys_of p.reading)

  abbrev of_instances : List LayoutSlot
  of_instances = flat_map instance_slots p.instances

  -- a typed global of the program has a slot
  pub own_slot : (g : Global) (ty : Ty) → globals_of p g ≡ Some ty → HasSlot (global_at None g) (program_slots p)
  own_slot (Named name) ty e =
      let at = global_at None (Named name) in
      slot_front at (vector ++ parameters ++ presents ++ flags) of_instances
      (slot_front at (vector ++ parameters ++ presents) flags
      (slot_front at (vector ++ parameters) presents
      (slot_front at vector parameters (variable_slot at (λ (v : Variable). slot_for None (Named v.name) v.ty (vector_role p v.name)) name (λ v k. turned v.name name k) (data_vector p) ty e))))
  own_slot (Parameter name) ty e =
      let at = global_at None (Parameter name) in
      slot_front at (vector ++ parameters ++ presents ++ flags) of_instances
      (slot_front at (vector ++ parameters ++ presents) flags
      (slot_front at (vector ++ parameters) presents
      (slot_back at vector parameters (variable_slot at (λ (v : Variable). slot_for None (Parameter v.name) v.ty Kept) name (λ v k. turned v.name name k) p.parameters ty e))))
  own_slot (Present name) ty e =
      let at = global_at None (Present name) in
      slot_front at (vector ++ parameters ++ presents ++ flags) of_instances
      (slot_front at (vector ++ parameters ++ presents) flags
      (slot_back at (vector ++ parameters) presents (present_slot name (inputs_of p.reading) (flag_there (is_present (inputs_of p.reading) name) ty e))))
  own_slot (First name) ty e =
      let at = global_at None (First name) in
      slot_front at (vector ++ parameters ++ presents ++ flags) of_instances
      (slot_back at (vector ++ parameters ++ presents) flags (first_slot name (bys_of p.reading) (flag_there (is_by (bys_of p.reading) name) ty e)))
  own_slot (Last name) ty e =
      let at = global_at None (Last name) in
      slot_front at (vector ++ parameters ++ presents ++ flags) of_instances
      (slot_back at (vector ++ parameters ++ presents) flags (last_slot name (bys_of p.reading) (flag_there (is_by (bys_of p.reading) name) ty e)))

  pub among_instances : (at : Location) → HasSlot at of_instances → HasSlot at (program_slots p)
  among_instances at h = slot_back at (vector ++ parameters ++ presents ++ flags) of_instances h

-- a typed global of an instance has a slot
pub package_slot : (i : InstanceTree) (name : List ℕ) → bytes_eq i.name name ≡ true → (g : Global) (ty : Ty) → package_globals i.variables g ≡ Some ty → HasSlot (global_at (Some name) g) (instance_slots i)
package_slot i name same (Named n) ty e =
    variable_slot (global_at (Some name) (Named n)) (λ (v : Variable). slot_for (Some i.name) (Named v.name) v.ty Kept) n
    (λ v k. and_from (bytes_eq name i.name) (bytes_eq n v.name) (turned i.name name same) (turned v.name n k)) i.variables ty e
package_slot i name same (First n) ty e = absurd cc
package_slot i name same (Last n) ty e = absurd cc
package_slot i name same (Present n) ty e = absurd cc
package_slot i name same (Parameter n) ty e = absurd cc
