-- The parameters that a program's data have for the thread program that it reads from are those that its meaning gives.
use Rattle.std.proofs.Common.{◌≡◌, ℕ, suc, Bool, true, false, not, ◌&&◌, cond, List, [], ◌∷◌, ◌++◌, length, map, flat_map, filter, slice_get, zip, bytes_eq, Option, Some, None, IsTrue, refl, sym, ap, ◌∙◌, append-nil, if◌then◌else◌}
use Rattle.std.specs.List.{list_any}
use Rattle.std.specs.Option.{option_map}
use Rattle.std.proofs.lemmas.Bool.{and_parts, or_parts, not-true}
use Rattle.std.proofs.lemmas.List.{length-map}
use Rattle.std.proofs.lemmas.Slice.Eq.{bytes_eq-Decides}
use Rattle.ds2_value.specs.Row.{Row}
use Rattle.ds2_value.specs.declared.value.Value.{Value}
use Rattle.ds2_meaning.specs.declared.globals.Variable.{Variable}
use Rattle.ds2_meaning.specs.declared.hashes.DeclaredHash.{DeclaredHash}
use Rattle.ds2_meaning.specs.declared.hashes.DeclaredIterator.{DeclaredIterator}
use Rattle.ds2_meaning.specs.declared.hashes.ThreadInstance.{ThreadInstance}
use Rattle.ds2_meaning.specs.declared.location.Global.TheVariants.{Parameter}
use Rattle.ds2_meaning.specs.HashObjects.{object_at}
use Rattle.ds2_meaning.specs.IsTyped.{thread_parameters, are_distinct, variable_names, object_names, IsTypedUnit}
use Rattle.ds2_meaning.specs.Location.{Location, is_same_location, held, Storage}
use Rattle.ds2_meaning.specs.ProgramMeaning.{parameters_given}
use Rattle.ds2_meaning.specs.ProgramTree.{InstanceTree, UnitTree, data_vector, is_listed}
use Rattle.ds2_meaning.specs.Reading.{stage_instance}
use Rattle.ds2_code.specs.Desk.{ProgramData}
use Rattle.ds2_gen.specs.CodeCells.{SlotCell, HashCell, IteratorCell, ParameterCell}
use Rattle.ds2_program_code.specs.PlacedProgram.{number_of_first, number_of_location, slot_locations, hashes_at, hash_locations, iterators_at, iterator_locations, parameters_at, parameter_locations, first_cell, program_cell}
use Rattle.ds2_program_code.specs.ProgramRuns.{HoldsProgram}
use Rattle.ds2_program_code.proofs.Homes.{names_of_instances, distinct_back}
use Rattle.ds2_program_code.proofs.Lists.{same_some, bytes_self, none_in_both, none_mapped, none_flat, no_number, slice_mapped}
use Rattle.ds2_program_code.proofs.Names.{number_mapped}
use Rattle.ds2_program_code.proofs.Slots.{located, no_slot_for_parameter}
use Rattle.ds2_program_code.proofs.UnitsInTurn.{number_at}

-- ---- the places of the parameters of an instance

-- the place of a parameter of the instance of this name
abbrev pub place_in : List ℕ → Variable → Location
place_in instance v = record { home = Some instance; global = Parameter v.name }

-- the names of instances of thread programs
abbrev names_of_threads : List ThreadInstance → List (List ℕ)
names_of_threads threads = map (λ (t : ThreadInstance). t.name) threads

-- the instances of this name
abbrev called : List ℕ → List ThreadInstance → List ThreadInstance
called instance threads = filter (λ (t : ThreadInstance). bytes_eq t.name instance) threads

none_called : (threads : List ThreadInstance) (instance : List ℕ) → is_listed (names_of_threads threads) instance ≡ false → called instance threads ≡ []
none_called [] instance fresh = refl
none_called (t ∷ threads) instance fresh =
    let parts = or_parts (bytes_eq t.name instance) (is_listed (names_of_threads threads) instance) fresh in
    ap (λ b. cond b (t ∷ called instance threads) (called instance threads)) parts.0 ∙ none_called threads instance parts.1

places_by : (b : Bool) (t : ThreadInstance) (threads : List ThreadInstance) (instance : List ℕ) (ps : List Variable) → bytes_eq t.name instance ≡ b → is_listed (names_of_threads threads) t.name ≡ false
    → (if b then Some t.parameters else thread_parameters threads instance) ≡ Some ps
    → (thread_parameters threads instance ≡ Some ps → flat_map parameters_at (called instance threads) ≡ map (place_in instance) ps)
    → flat_map parameters_at (cond b (t ∷ called instance threads) (called instance threads)) ≡ map (place_in instance) ps
places_by true t threads instance ps same fresh e later =
    let name : t.name ≡ instance = (bytes_eq-Decides t.name instance).0 same in
    let none : called instance threads ≡ [] = none_called threads instance (ap (λ n. is_listed (names_of_threads threads) n) (sym name) ∙ fresh) in
    ap (λ others. parameters_at t ++ flat_map parameters_at others) none ∙ append-nil (parameters_at t)
    ∙ ap (λ n. map (place_in n) t.parameters) name ∙ ap (map (place_in instance)) (same_some t.parameters ps e)
places_by false t threads instance ps other fresh e later = later e

places_are : (threads : List ThreadInstance) (instance : List ℕ) (ps : List Variable) → IsTrue (are_distinct (names_of_threads threads)) → thread_parameters threads instance ≡ Some ps
    → flat_map parameters_at (called instance threads) ≡ map (place_in instance) ps
places_are [] instance ps distinct e = absurd cc
places_are (t ∷ threads) instance ps distinct e =
    let parts = and_parts (not (is_listed (names_of_threads threads) t.name)) (are_distinct (names_of_threads threads)) distinct in
    places_by (bytes_eq t.name instance) t threads instance ps refl (not-true (is_listed (names_of_threads threads) t.name) parts.0) e (λ f. places_are threads instance ps parts.1 f)

module _ (p : UnitTree) (typed : IsTypedUnit p) (ps : List Variable) (given : thread_parameters p.threads (stage_instance p.reading) ≡ Some ps) where
  threads_apart : IsTrue (are_distinct (names_of_threads p.threads))
  threads_apart = distinct_back ((variable_names (data_vector p) ++ object_names p.objects) ++ names_of_instances p.instances) (names_of_threads p.threads) typed.names

  locations_are : parameter_locations p ≡ map (place_in (stage_instance p.reading)) ps
  locations_are = places_are p.threads (stage_instance p.reading) ps threads_apart given

  -- the program has a place for each parameter
  pub parameter_count : length (parameter_locations p) ≡ length ps
  parameter_count = ap length locations_are ∙ length-map ps (place_in (stage_instance p.reading))

-- ---- the number of a parameter

-- a location is that of this parameter of this instance
abbrev is_parameter : List ℕ → List ℕ → Location → Bool
is_parameter instance name other = is_same_location (located (Some instance) (Parameter name)) other

same_tests : {X : Type 0} (test other : X → Bool) → ((x : X) → test x ≡ other x) → (xs : List X) → number_of_first test xs ≡ number_of_first other xs
same_tests test other same [] = refl
same_tests test other same (x ∷ xs) =
    ap (λ b. if b then Some 0 else option_map (λ k. suc k) (number_of_first test xs)) (same x) ∙ ap (λ o. if other x then Some 0 else option_map (λ k. suc k) o) (same_tests test other same xs)

place_number : (instance : List ℕ) (ps : List Variable) (k : ℕ) (v : Variable) → IsTrue (are_distinct (variable_names ps)) → slice_get ps k ≡ Some v
    → number_of_location (map (place_in instance) ps) (place_in instance v) ≡ Some k
place_number instance ps k v distinct listed =
    let names = variable_names ps in
    let here : slice_get names k ≡ Some v.name = slice_mapped (λ (x : Variable). x.name) ps k ∙ ap (λ o. option_map (λ (x : Variable). x.name) o) listed in
    number_mapped (is_parameter instance v.name) (place_in instance) ps
    ∙ same_tests (λ (x : Variable). is_parameter instance v.name (place_in instance x)) (λ (x : Variable). bytes_eq v.name x.name) (λ x. ap (λ b. b && bytes_eq v.name x.name) (bytes_self instance)) ps
    ∙ sym (number_mapped (λ other. bytes_eq v.name other) (λ (x : Variable). x.name) ps) ∙ number_at names k v.name distinct here

-- ---- the cell of a parameter

and_false : (a : Bool) → (a && false) ≡ false
and_false true = refl
and_false false = refl

module _ (p : UnitTree) (instance name : List ℕ) where
  no_hash_object : list_any (is_parameter instance name) (hash_locations p) ≡ false
  no_hash_object =
      none_in_both (is_parameter instance name) (hashes_at None p.objects) (flat_map (λ (i : InstanceTree). hashes_at (Some i.name) i.objects) p.instances)
      (none_mapped (is_parameter instance name) (λ (h : DeclaredHash). object_at None h.name) p.objects.hashes (λ h. refl))
      (none_flat (is_parameter instance name) (λ (i : InstanceTree). hashes_at (Some i.name) i.objects) p.instances
      (λ i. none_mapped (is_parameter instance name) (λ (h : DeclaredHash). object_at (Some i.name) h.name) i.objects.hashes (λ h. and_false (bytes_eq instance i.name))))

  no_iterator : list_any (is_parameter instance name) (iterator_locations p) ≡ false
  no_iterator =
      none_in_both (is_parameter instance name) (iterators_at None p.objects) (flat_map (λ (i : InstanceTree). iterators_at (Some i.name) i.objects) p.instances)
      (none_mapped (is_parameter instance name) (λ (x : DeclaredIterator). object_at None x.name) p.objects.iterators (λ x. refl))
      (none_flat (is_parameter instance name) (λ (i : InstanceTree). iterators_at (Some i.name) i.objects) p.instances
      (λ i. none_mapped (is_parameter instance name) (λ (x : DeclaredIterator). object_at (Some i.name) x.name) i.objects.iterators (λ x. and_false (bytes_eq instance i.name))))

  last_cell : (s h i q : Option ℕ) → s ≡ None → h ≡ None → i ≡ None
      → first_cell (option_map SlotCell s) (first_cell (option_map HashCell h) (first_cell (option_map IteratorCell i) (option_map ParameterCell q))) ≡ option_map ParameterCell q
  last_cell s h i q no_slot no_hash no_walk =
      ap (λ o. first_cell (option_map SlotCell o) (first_cell (option_map HashCell h) (first_cell (option_map IteratorCell i) (option_map ParameterCell q)))) no_slot
      ∙ ap (λ o. first_cell (option_map HashCell o) (first_cell (option_map IteratorCell i) (option_map ParameterCell q))) no_hash
      ∙ ap (λ o. first_cell (option_map IteratorCell o) (option_map ParameterCell q)) no_walk

  -- the cell of a parameter of an instance is its number among the parameters that the program sets
  cell_is : program_cell p (located (Some instance) (Parameter name)) ≡ option_map ParameterCell (number_of_location (parameter_locations p) (located (Some instance) (Parameter name)))
  cell_is =
      let at = located (Some instance) (Parameter name) in
      last_cell (number_of_location (slot_locations p) at) (number_of_location (hash_locations p) at) (number_of_location (iterator_locations p) at) (number_of_location (parameter_locations p) at)
      (no_number (is_parameter instance name) (slot_locations p) (no_slot_for_parameter p instance name)) (no_number (is_parameter instance name) (hash_locations p) no_hash_object)
      (no_number (is_parameter instance name) (iterator_locations p) no_iterator)

-- ---- the values

-- values that are these as far as there are parameters
values_given : {A : Type 0} (f : Variable → A) (g : Variable → Value) (ps : List Variable) (xs : Row) → ((k : ℕ) (v : Variable) → slice_get ps k ≡ Some v → slice_get xs k ≡ Some (g v))
    → zip (map f ps) xs ≡ zip (map f ps) (map g ps)
values_given f g [] xs each = refl
values_given f g (v ∷ ps) [] each = absurd (cc (each 0 v refl))
values_given f g (v ∷ ps) (x ∷ xs) each =
    ap (λ y. (f v, y) ∷ zip (map f ps) xs) (same_some x (g v) (each 0 v refl)) ∙ ap (λ z. (f v, g v) ∷ z) (values_given f g ps xs (λ k y e. each (suc k) y e))

module _ (p : UnitTree) (typed : IsTypedUnit p) (ps : List Variable) (given : thread_parameters p.threads (stage_instance p.reading) ≡ Some ps) (distinct : IsTrue (are_distinct (variable_names ps)))
    (kept : Storage) (state : ProgramData) (holds : HoldsProgram p kept state) where
  parameter_held : (k : ℕ) (v : Variable) → slice_get ps k ≡ Some v → slice_get state.parameters k ≡ Some (held (kept (place_in (stage_instance p.reading) v)))
  parameter_held k v listed =
      let instance = stage_instance p.reading in
      let number : number_of_location (parameter_locations p) (place_in instance v) ≡ Some k =
      ap (λ locations. number_of_location locations (place_in instance v)) (locations_are p typed ps given) ∙ place_number instance ps k v distinct listed in
      HoldsProgram.globals holds (place_in instance v) (ParameterCell k) (cell_is p instance v.name ∙ ap (λ o. option_map ParameterCell o) number)

  -- each parameter gets from the data the value that the meaning gives it
  pub stage_given : {A : Type 0} (f : Variable → A) → zip (map f ps) state.parameters ≡ zip (map f ps) (parameters_given (stage_instance p.reading) ps kept)
  stage_given f = values_given f (λ (v : Variable). held (kept (place_in (stage_instance p.reading) v))) ps state.parameters parameter_held
