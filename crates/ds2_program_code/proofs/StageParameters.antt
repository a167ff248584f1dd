-- The parameters of the instance that a program reads from have the places of the thread program's parameters; those of others have none.
use Rattle.std.proofs.Common.{◌≡◌, ℕ, zero, suc, Bool, true, false, not, ◌&&◌, cond, List, [], ◌∷◌, map, flat_map, filter, slice_get, bytes_eq, Option, Some, None, unwrap_or, IsTrue, refl, sym, ap, ◌∙◌, subst, if◌then◌else◌}
use Rattle.std.specs.List.{AllByRecursion, list_any}
use Rattle.std.specs.Option.{option_map}
use Rattle.std.proofs.lemmas.Bool.{and_parts, not-true}
use Rattle.std.proofs.lemmas.Slice.Eq.{bytes_eq-Decides}
use Rattle.ds2_value.specs.declared.ty.Ty.{Ty}
use Rattle.ds2_meaning.specs.declared.globals.Variable.{Variable}
use Rattle.ds2_meaning.specs.declared.hashes.DeclaredHash.{DeclaredHash}
use Rattle.ds2_meaning.specs.declared.hashes.DeclaredIterator.{DeclaredIterator}
use Rattle.ds2_meaning.specs.declared.hashes.ThreadInstance.{ThreadInstance}
use Rattle.ds2_meaning.specs.declared.location.Global.TheVariants.{Parameter}
use Rattle.ds2_meaning.specs.declared.readings.Reading.{Reading}
use Rattle.ds2_meaning.specs.declared.readings.Reading.TheVariants as read
use Rattle.ds2_meaning.specs.HashObjects.{object_at}
use Rattle.ds2_meaning.specs.IsTyped.{type_in, thread_parameters, are_distinct, variable_names, IsTypedUnit, ReadsNoStage, FitsStage}
use Rattle.ds2_meaning.specs.Location.{Location, is_same_location}
use Rattle.ds2_meaning.specs.ProgramTree.{InstanceTree, UnitTree, is_listed}
use Rattle.ds2_meaning.specs.Reading.{stage_instance}
use Rattle.ds2_code.specs.OperandTypes.{slot_type, parameter_slot_types, type_of_parameter}
use Rattle.ds2_gen.specs.CodeCells.{SlotCell, HashCell, IteratorCell, ParameterCell}
use Rattle.ds2_program_code.specs.PlacedProgram.{number_of_first, number_of_location, slot_locations, hashes_at, hash_locations, iterators_at, iterator_locations, parameters_at, parameter_locations, first_cell, program_cell}
use Rattle.ds2_program_code.specs.CodeParts.{slot_of_global, code_slots}
use Rattle.ds2_program_code.specs.ProgramCode.{program_code}
use Rattle.ds2_program_code.specs.TypedCode.{StageParametersFit}
use Rattle.ds2_program_code.specs.TypedRuns.{IsTypedParameter}
use Rattle.ds2_program_code.proofs.Homes.{apart_names_by}
use Rattle.ds2_program_code.proofs.Lists.{same_some, bytes_swap, bytes_self, none_in_both, none_mapped, none_flat, no_number, number_in_front, slice_mapped, any_at}
use Rattle.ds2_program_code.proofs.Names.{number_mapped}
use Rattle.ds2_program_code.proofs.Slots.{located, no_slot_for_parameter}
use Rattle.ds2_program_code.proofs.SlotTypes.{slot_has_type}
use Rattle.ds2_program_code.proofs.UnitsInTurn.{number_at}

-- ---- the cell of a parameter

and_false : (a : Bool) → (a && false) ≡ false
and_false true = refl
and_false false = refl

-- a location is that of this parameter of this instance
abbrev is_parameter : List ℕ → List ℕ → Location → Bool
is_parameter instance name other = is_same_location (located (Some instance) (Parameter name)) other

module _ (p : UnitTree) (instance name : List ℕ) where
  no_hash_object : list_any (is_parameter instance name) (hash_locations p) ≡ false
  no_hash_object =
      none_in_both (is_parameter instance name) (hashes_at None p.objects) (flat_map (λ (i : InstanceTree). hashes_at (Some i.name) i.objects) p.instances)
      (none_mapped (is_parameter instance name) (λ (h : DeclaredHash). object_at None h.name) p.objects.hashes (λ h. refl))
      (none_flat (is_parameter instance name) (λ (i : InstanceTree). hashes_at (Some i.name) i.objects) p.instances
      (λ i. none_mapped (is_parameter instance name) (λ (h : DeclaredHash). object_at (Some i.name) h.name) i.objects.hashes (λ h. and_false (bytes_eq instance i.name))))

  no_iterator : list_any (is_parameter instance name) (iterator_locations p) ≡ false
  no_iterator =
      none_in_both (is_parameter instance name) (iterators_at None p.objects) (flat_map (λ (i : InstanceTree). iterators_at (Some i.name) i.objects) p.instances)
      (none_mapped (is_parameter instance name) (λ (x : DeclaredIterator). object_at None x.name) p.objects.iterators (λ x. refl))
      (none_flat (is_parameter instance name) (λ (i : InstanceTree). iterators_at (Some i.name) i.objects) p.instances
      (λ i. none_mapped (is_parameter instance name) (λ (x : DeclaredIterator). object_at (Some i.name) x.name) i.objects.iterators (λ x. and_false (bytes_eq instance i.name))))

  last_cell : (s h i q : Option ℕ) → s ≡ None → h ≡ None → i ≡ None
      → first_cell (option_map SlotCell s) (first_cell (option_map HashCell h) (first_cell (option_map IteratorCell i) (option_map ParameterCell q))) ≡ option_map ParameterCell q
  last_cell s h i q no_slot no_hash no_walk =
      ap (λ o. first_cell (option_map SlotCell o) (first_cell (option_map HashCell h) (first_cell (option_map IteratorCell i) (option_map ParameterCell q)))) no_slot
      ∙ ap (λ o. first_cell (option_map HashCell o) (first_cell (option_map IteratorCell i) (option_map ParameterCell q))) no_hash
      ∙ ap (λ o. first_cell (option_map IteratorCell o) (option_map ParameterCell q)) no_walk

  -- the cell of a parameter of an instance is its number among the parameters that the program sets
  cell_is : program_cell p (located (Some instance) (Parameter name)) ≡ option_map ParameterCell (number_of_location (parameter_locations p) (located (Some instance) (Parameter name)))
  cell_is =
      let at = located (Some instance) (Parameter name) in
      last_cell (number_of_location (slot_locations p) at) (number_of_location (hash_locations p) at) (number_of_location (iterator_locations p) at) (number_of_location (parameter_locations p) at)
      (no_number (is_parameter instance name) (slot_locations p) (no_slot_for_parameter p instance name)) (no_number (is_parameter instance name) (hash_locations p) no_hash_object)
      (no_number (is_parameter instance name) (iterator_locations p) no_iterator)

-- ---- the instance that is read from

-- the parameters of the instances of this name
abbrev places_of : List ThreadInstance → List ℕ → List Location
places_of threads stage = flat_map parameters_at (filter (λ (t : ThreadInstance). bytes_eq t.name stage) threads)

same_tests : {X : Type 0} (test other : X → Bool) → ((x : X) → test x ≡ other x) → (xs : List X) → number_of_first test xs ≡ number_of_first other xs
same_tests test other same [] = refl
same_tests test other same (x ∷ xs) =
    ap (λ b. if b then Some 0 else option_map (λ k. suc k) (number_of_first test xs)) (same x) ∙ ap (λ o. if other x then Some 0 else option_map (λ k. suc k) o) (same_tests test other same xs)

-- the parameter of a thread instance in code
abbrev place_of : ThreadInstance → Variable → Location
place_of t v = record { home = Some t.name; global = Parameter v.name }

own_number : (t : ThreadInstance) (instance : List ℕ) (k : ℕ) (v : Variable) → bytes_eq t.name instance ≡ true → IsTrue (are_distinct (variable_names t.parameters)) → slice_get t.parameters k ≡ Some v
    → number_of_first (is_parameter instance v.name) (parameters_at t) ≡ Some k
own_number t instance k v same distinct listed =
    let names = variable_names t.parameters in
    let here : slice_get names k ≡ Some v.name = slice_mapped (λ (x : Variable). x.name) t.parameters k ∙ ap (λ o. option_map (λ (x : Variable). x.name) o) listed in
    number_mapped (is_parameter instance v.name) (place_of t) t.parameters
    ∙ same_tests (λ (x : Variable). is_parameter instance v.name (place_of t x)) (λ (x : Variable). bytes_eq v.name x.name) (λ x. ap (λ b. b && bytes_eq v.name x.name) (bytes_swap instance t.name ∙ same)) t.parameters
    ∙ sym (number_mapped (λ other. bytes_eq v.name other) (λ (x : Variable). x.name) t.parameters) ∙ number_at names k v.name distinct here

stage_number_by : (b : Bool) (t : ThreadInstance) (threads : List ThreadInstance) (instance : List ℕ) (ps : List Variable) (k : ℕ) (v : Variable) → bytes_eq t.name instance ≡ b
    → (if b then Some t.parameters else thread_parameters threads instance) ≡ Some ps → IsTrue (are_distinct (variable_names ps)) → slice_get ps k ≡ Some v
    → (thread_parameters threads instance ≡ Some ps → number_of_first (is_parameter instance v.name) (places_of threads instance) ≡ Some k)
    → number_of_first (is_parameter instance v.name) (flat_map parameters_at (cond b (t ∷ filter (λ (x : ThreadInstance). bytes_eq x.name instance) threads) (filter (λ (x : ThreadInstance). bytes_eq x.name instance) threads))) ≡ Some k
stage_number_by true t threads instance ps k v same e distinct listed later =
    let one : t.parameters ≡ ps = same_some t.parameters ps e in
    number_in_front (is_parameter instance v.name) (parameters_at t) (places_of threads instance) k
    (own_number t instance k v same (subst (λ (l : List Variable). IsTrue (are_distinct (variable_names l))) (sym one) distinct) (ap (λ (l : List Variable). slice_get l k) one ∙ listed))
stage_number_by false t threads instance ps k v same e distinct listed later = later e

stage_number : (threads : List ThreadInstance) (instance : List ℕ) (ps : List Variable) (k : ℕ) (v : Variable) → thread_parameters threads instance ≡ Some ps → IsTrue (are_distinct (variable_names ps)) → slice_get ps k ≡ Some v
    → number_of_first (is_parameter instance v.name) (places_of threads instance) ≡ Some k
stage_number [] instance ps k v e distinct listed = absurd cc
stage_number (t ∷ threads) instance ps k v e distinct listed =
    stage_number_by (bytes_eq t.name instance) t threads instance ps k v refl e distinct listed (λ f. stage_number threads instance ps k v f distinct listed)

-- ---- other instances

no_place_by : (b : Bool) (t : ThreadInstance) (rest : List ThreadInstance) (stage instance name : List ℕ) → bytes_eq t.name stage ≡ b → bytes_eq stage instance ≡ false → list_any (is_parameter instance name) (flat_map parameters_at rest) ≡ false
    → list_any (is_parameter instance name) (flat_map parameters_at (cond b (t ∷ rest) rest)) ≡ false
no_place_by true t rest stage instance name same other none =
    let apart : bytes_eq instance t.name ≡ false = ap (λ n. bytes_eq instance n) ((bytes_eq-Decides t.name stage).0 same) ∙ bytes_swap instance stage ∙ other in
    none_in_both (is_parameter instance name) (parameters_at t) (flat_map parameters_at rest) (none_mapped (is_parameter instance name) (place_of t) t.parameters (λ x. ap (λ b. b && bytes_eq name x.name) apart)) none
no_place_by false t rest stage instance name same other none = none

no_place : (threads : List ThreadInstance) (stage instance name : List ℕ) → bytes_eq stage instance ≡ false → list_any (is_parameter instance name) (places_of threads stage) ≡ false
no_place [] stage instance name other = refl
no_place (t ∷ threads) stage instance name other =
    no_place_by (bytes_eq t.name stage) t (filter (λ (x : ThreadInstance). bytes_eq x.name stage) threads) stage instance name refl other (no_place threads stage instance name other)

pub all_listed_by : {X : Type 0} {P : X → Type 0} (xs : List X) → ((k : ℕ) (x : X) → slice_get xs k ≡ Some x → P x) → AllByRecursion P xs
all_listed_by [] each = tt
all_listed_by (x ∷ xs) each = (each 0 x refl, all_listed_by xs (λ k y e. each (suc k) y e))

-- the places of the parameters of an instance fit
abbrev ParametersFit : UnitTree → List (Option Ty) → List ℕ → List Variable → Type 0
ParametersFit p types instance ps = AllByRecursion (λ (v : Variable). IsTypedParameter types (program_cell p (located (Some instance) (Parameter v.name))) v.ty) ps

other_fits : (p : UnitTree) (types : List (Option Ty)) (instance : List ℕ) (ps : List Variable) → bytes_eq (stage_instance p.reading) instance ≡ false → ParametersFit p types instance ps
other_fits p types instance ps other =
    all_listed_by ps
    (λ k v listed.
    let none : number_of_location (parameter_locations p) (located (Some instance) (Parameter v.name)) ≡ None =
    no_number (is_parameter instance v.name) (parameter_locations p) (no_place p.threads (stage_instance p.reading) instance v.name other) in
    subst (λ o. IsTypedParameter types o v.ty) (sym (cell_is p instance v.name ∙ ap (λ o. option_map ParameterCell o) none)) tt)

-- ---- the thread program's parameters

pub type_at : (vs : List Variable) (k : ℕ) (v : Variable) → IsTrue (are_distinct (variable_names vs)) → slice_get vs k ≡ Some v → type_in vs v.name ≡ Some v.ty
type_at [] k v distinct e = absurd cc
type_at (x ∷ vs) zero v distinct e =
    subst (λ (y : Variable). (if bytes_eq x.name y.name then Some x.ty else type_in vs y.name) ≡ Some y.ty) (same_some x v e) (ap (λ b. if b then Some x.ty else type_in vs x.name) (bytes_self x.name))
type_at (x ∷ vs) (suc k) v distinct e =
    let names = variable_names vs in
    let parts = and_parts (not (is_listed names x.name)) (are_distinct names) distinct in
    let here : slice_get names k ≡ Some v.name = slice_mapped (λ (y : Variable). y.name) vs k ∙ ap (λ o. option_map (λ (y : Variable). y.name) o) e in
    let there : is_listed names v.name ≡ true = any_at (λ other. bytes_eq other v.name) names k v.name here (bytes_self v.name) in
    let apart = apart_names_by (bytes_eq x.name v.name) names x.name v.name refl (not-true (is_listed names x.name) parts.0) there in
    ap (λ b. if b then Some x.ty else type_in vs v.name) apart ∙ type_at vs k v parts.1 e

stage_type : (stage : UnitTree) → IsTypedUnit stage → (k : ℕ) (v : Variable) → slice_get stage.parameters k ≡ Some v → type_of_parameter (parameter_slot_types (program_code stage)) k ≡ Some v.ty
stage_type stage typed k v e =
    let place : Variable → ℕ = λ x. slot_of_global stage None (Parameter x.name) in
    let type_of : ℕ → Option Ty = λ n. slot_type (code_slots stage) n in
    ap (λ o. unwrap_or o None) (slice_mapped type_of (map place stage.parameters) k ∙ ap (λ o. option_map type_of o) (slice_mapped place stage.parameters k ∙ ap (λ o. option_map place o) e))
    ∙ slot_has_type stage None (Parameter v.name) v.ty (type_at stage.parameters k v (IsTypedUnit.parameters typed).1 e)

-- ---- whole

stage_fits_by : (b : Bool) (p stage : UnitTree) → IsTypedUnit stage → FitsStage p stage → (instance : List ℕ) (ps : List Variable) → thread_parameters p.threads instance ≡ Some ps → bytes_eq (stage_instance p.reading) instance ≡ b
    → ParametersFit p (parameter_slot_types (program_code stage)) instance ps
stage_fits_by true p stage typed fits instance ps e is =
    let same : stage_instance p.reading ≡ instance = (bytes_eq-Decides (stage_instance p.reading) instance).0 is in
    let one : ps ≡ stage.parameters = same_some ps stage.parameters (sym e ∙ ap (λ n. thread_parameters p.threads n) (sym same) ∙ fits.3) in
    let distinct = subst (λ (l : List Variable). IsTrue (are_distinct (variable_names l))) (sym one) (IsTypedUnit.parameters typed).1 in
    all_listed_by ps
    (λ k v listed.
    let number : number_of_location (parameter_locations p) (located (Some instance) (Parameter v.name)) ≡ Some k =
    ap (λ n. number_of_first (is_parameter instance v.name) (places_of p.threads n)) same ∙ stage_number p.threads instance ps k v e distinct listed in
    subst (λ o. IsTypedParameter (parameter_slot_types (program_code stage)) o v.ty) (sym (cell_is p instance v.name ∙ ap (λ o. option_map ParameterCell o) number))
    (stage_type stage typed k v (ap (λ (l : List Variable). slice_get l k) (sym one) ∙ listed)))
stage_fits_by false p stage typed fits instance ps e other = other_fits p (parameter_slot_types (program_code stage)) instance ps other

pub stage_parameters_fit : (p stage : UnitTree) → IsTypedUnit stage → FitsStage p stage → StageParametersFit p (parameter_slot_types (program_code stage))
stage_parameters_fit p stage typed fits instance ps e = stage_fits_by (bytes_eq (stage_instance p.reading) instance) p stage typed fits instance ps e refl

no_stage_read : (r : Reading) → ReadsNoStage r → stage_instance r ≡ []
no_stage_read read.Nothing none = refl
no_stage_read read.Once none = refl
no_stage_read (read.Set inputs bys) none = refl
no_stage_read (read.Merge inputs bys retains) none = refl
no_stage_read (read.From instance workers columns) none = absurd none

none_there : {G : Type 0} (o : Option (List Variable)) (ps : List Variable) → o ≡ None → o ≡ Some ps → G
none_there o ps e f = absurd cc

tables_fit_by : (b : Bool) (p : UnitTree) → ReadsNoStage p.reading → thread_parameters p.threads [] ≡ None → (instance : List ℕ) (ps : List Variable) → thread_parameters p.threads instance ≡ Some ps → bytes_eq (stage_instance p.reading) instance ≡ b
    → ParametersFit p [] instance ps
tables_fit_by true p none nameless instance ps e is =
    let same : instance ≡ [] = sym ((bytes_eq-Decides (stage_instance p.reading) instance).0 is) ∙ no_stage_read p.reading none in
    none_there (thread_parameters p.threads instance) ps (ap (λ n. thread_parameters p.threads n) same ∙ nameless) e
tables_fit_by false p none nameless instance ps e other = other_fits p [] instance ps other

pub tables_parameters_fit : (p : UnitTree) → ReadsNoStage p.reading → thread_parameters p.threads [] ≡ None → StageParametersFit p []
tables_parameters_fit p none nameless instance ps e = tables_fit_by (bytes_eq (stage_instance p.reading) instance) p none nameless instance ps e refl
