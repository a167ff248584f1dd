-- Each number beside the instructions names a part that is there.
use Rattle.std.proofs.Common.{◌≡◌, ◌⊎◌, inl, inr, ℕ, zero, suc, ◌+◌, ◌<◌, ◌≤◌, nat_lt, nat_le, Bool, true, false, not, ◌&&◌, List, [], ◌∷◌, ◌++◌, length, map, flat_map, slice_get, bytes_eq, Option, Some, None, unwrap_or, IsTrue, is_some, refl, sym, ap, ◌∙◌, subst, arith, lt-ltb, le-leb, if◌then◌else◌}
use Rattle.std.specs.List.{list_all}
use Rattle.std.specs.Option.{option_map, option_map_or}
use Rattle.std.proofs.lemmas.Bool.{true≢false, and_from, and_parts, or_parts, not-true, not_from_false}
use Rattle.std.proofs.lemmas.List.{length-map}
use Rattle.ds2_value.specs.Row.{Columns}
use Rattle.ds2_value.specs.declared.schema.Column.{Column}
use Rattle.ds2_value.specs.declared.ty.Ty.{Ty}
use Rattle.ds2_value.specs.declared.ty.Ty.TheVariants.{BigInt}
use Rattle.ds2_meaning.specs.declared.globals.OutputColumn.{OutputColumn}
use Rattle.ds2_meaning.specs.declared.globals.OutputTable.{OutputTable}
use Rattle.ds2_meaning.specs.declared.globals.Variable.{Variable}
use Rattle.ds2_meaning.specs.declared.hashes.DeclaredHash.{DeclaredHash}
use Rattle.ds2_meaning.specs.declared.hashes.DeclaredIterator.{DeclaredIterator}
use Rattle.ds2_meaning.specs.declared.hashes.HashVariable.{HashVariable}
use Rattle.ds2_meaning.specs.declared.location.Global.{Global}
use Rattle.ds2_meaning.specs.declared.location.Global.TheVariants.{Named, First, Last, Present, Parameter}
use Rattle.ds2_meaning.specs.declared.readings.ByVariable.{ByVariable}
use Rattle.ds2_meaning.specs.declared.readings.Input.{Input}
use Rattle.ds2_meaning.specs.declared.readings.Reading.{Reading}
use Rattle.ds2_meaning.specs.declared.readings.Reading.TheVariants as read
use Rattle.ds2_meaning.specs.HashObjects.{hash_named}
use Rattle.ds2_meaning.specs.IsTyped.{type_in, are_distinct, is_by, is_flag_of, is_present, flag_type, globals_of, AreVariables, AreTypedInputs, IsTypedReading, AreHashVariables, AreTypedHashes, AreTypedIterators, AreTypedObjects, AreOutputColumns, AreTypedOutputs, names_of_outputs, IsTypedUnit}
use Rattle.ds2_meaning.specs.Location.{Home, is_same_location}
use Rattle.ds2_meaning.specs.ProgramTree.{UnitTree, data_vector, is_listed, objects_of}
use Rattle.ds2_meaning.specs.Reading.{inputs_of, bys_of}
use Rattle.ds2_layout.specs.Layout.{program_slots, source_slot}
use Rattle.ds2_code.specs.declared.parts.OutputPart.{OutputPart}
use Rattle.ds2_code.specs.ValidCode.{all_below, hash_in_range, read_in_range, by_in_range, tables_in_range, reading_in_range, output_in_range, parts_in_range, is_other_name, names_differ}
use Rattle.ds2_gen.specs.UnitTheorem.{IsCodeOfUnits}
use Rattle.ds2_program_code.specs.KeptTypes.{EachValueHasType}
use Rattle.ds2_program_code.specs.PlacedProgram.{number_of_location, slot_locations, layout_size, own_slots}
use Rattle.ds2_program_code.specs.CodeParts.{slot_of_global, code_slots, variable_slots, hash_part, hash_parts, walked_hash, iterator_parts, input_part, by_variable_part, reading_part, output_part}
use Rattle.ds2_program_code.specs.ProgramCode.{program_code}
use Rattle.ds2_program_code.specs.ProgramCodeLaws.{TypedProgramsHaveCode}
use Rattle.ds2_program_code.specs.ValidParts.{TypedProgramsHaveValidParts}
use Rattle.ds2_program_code.proofs.Homes.{UnitHome, homes_of, home_in, homes_apart, AtHome, NoHome, at_home, AreLookedUp, all_looked}
use Rattle.ds2_program_code.proofs.Lists.{same_some, bytes_swap, bytes_self, number_inside}
use Rattle.ds2_program_code.proofs.Names.{slot_at_number}
use Rattle.ds2_program_code.proofs.Objects.{some_of, hash_beside, hash_parts_of, iterator_parts_of, hash_parts_by_home, iterator_parts_by_home, objects_typed_at}
use Rattle.ds2_program_code.proofs.Slots.{located, globals_at, slot_numbered}
use Rattle.ds2_program_code.proofs.UnitsInTurn.{slot_count}

-- ---- lists

pub all_both : {X : Type 0} (test : X → Bool) (xs ys : List X) → list_all test xs ≡ true → list_all test ys ≡ true → list_all test (xs ++ ys) ≡ true
all_both test [] ys e f = f
all_both test (x ∷ xs) ys e f =
    let parts = and_parts (test x) (list_all test xs) e in
    and_from (test x) (list_all test (xs ++ ys)) parts.0 (all_both test xs ys parts.1 f)

all_mapped : {A X : Type 0} (test : X → Bool) (f : A → X) (xs : List A) → ((x : A) → test (f x) ≡ true) → list_all test (map f xs) ≡ true
all_mapped test f [] h = refl
all_mapped test f (x ∷ xs) h = and_from (test (f x)) (list_all test (map f xs)) (h x) (all_mapped test f xs h)

none_looked : (u : UnitHome) → None ≡ Some u → ⊥
none_looked u e = cc

slice_inside : {X : Type 0} (xs : List X) (n : ℕ) (x : X) → slice_get xs n ≡ Some x → n < length xs
slice_inside [] n x e = absurd cc
slice_inside (y ∷ xs) zero x e = omega arith
slice_inside (y ∷ xs) (suc n) x e = let less : n < length xs = slice_inside xs n x e in omega arith

below_sum : (a b c n : ℕ) → c ≡ a + b → n < a → n < c
below_sum a b c n e less = omega arith

some_below : (n m : ℕ) → n < m → 0 < m
some_below n m h = omega arith

module _ (values : EachValueHasType) (p : UnitTree) where
  pub layout_below : (n : ℕ) → n < layout_size p → n < length (code_slots p)
  layout_below n less = below_sum (layout_size p) (own_slots p.init + (own_slots p.run + own_slots p.term)) (length (code_slots p)) n (slot_count values p) less

  -- where there is a slot, the number of each global is in range
  slot_below_by : (home : Home) (global : Global) (o : Option ℕ) → number_of_location (slot_locations p) (located home global) ≡ o → 0 < length (code_slots p) → nat_lt (unwrap_or o 0) (length (code_slots p)) ≡ true
  slot_below_by home global None e some = lt-ltb 0 (length (code_slots p)) some
  slot_below_by home global (Some n) e some = lt-ltb n (length (code_slots p)) (layout_below n (number_inside (λ other. is_same_location (located home global) other) (slot_locations p) n e))

  slot_below : (home : Home) (global : Global) → 0 < length (code_slots p) → nat_lt (slot_of_global p home global) (length (code_slots p)) ≡ true
  slot_below home global some = slot_below_by home global (number_of_location (slot_locations p) (located home global)) refl some

  some_slot : (home : Home) (global : Global) (ty : Ty) → globals_at p home global ≡ Some ty → 0 < length (code_slots p)
  some_slot home global ty e =
      let it = slot_numbered p home global ty e in
      some_below it.0 (length (code_slots p)) (layout_below it.0 (number_inside (λ other. is_same_location (located home global) other) (slot_locations p) it.0 it.1))

  typed_below : (home : Home) (global : Global) (ty : Ty) → globals_at p home global ≡ Some ty → nat_lt (slot_of_global p home global) (length (code_slots p)) ≡ true
  typed_below home global ty e = slot_below home global (some_slot home global ty e)

  -- ---- hash objects

  variables_below : (home : Home) (vs : List HashVariable) → AreHashVariables (globals_at p home) vs → all_below (length (code_slots p)) (variable_slots p home vs) ≡ true
  variables_below home [] typed = refl
  variables_below home (v ∷ vs) typed =
      and_from (nat_lt (slot_of_global p home v.global) (length (code_slots p))) (all_below (length (code_slots p)) (variable_slots p home vs)) (typed_below home v.global v.ty typed.0) (variables_below home vs typed.2)

  hashes_below : (home : Home) (hashes : List DeclaredHash) → AreTypedHashes (globals_at p home) hashes → list_all (hash_in_range (length (code_slots p))) (map (hash_part p home) hashes) ≡ true
  hashes_below home [] typed = refl
  hashes_below home (h ∷ hashes) typed =
      and_from (hash_in_range (length (code_slots p)) (hash_part p home h)) (list_all (hash_in_range (length (code_slots p))) (map (hash_part p home) hashes))
      (and_from (all_below (length (code_slots p)) (variable_slots p home h.key_variables)) (all_below (length (code_slots p)) (variable_slots p home h.data_variables))
      (variables_below home h.key_variables typed.0.0) (variables_below home h.data_variables typed.0.1))
      (hashes_below home hashes typed.1)

  module _ (typed : IsTypedUnit p) where
    -- the objects of a home that is looked up are typed
    found_objects : (u : UnitHome) → home_in (homes_of p) u.home ≡ Some u → AtHome p u.home ⊎ NoHome p u.home → objects_of p u.home ≡ u.objects
    found_objects u looked (inl it) = sym it.objects ∙ ap (λ (w : UnitHome). w.objects) (same_some it.unit u (sym it.looked ∙ looked))
    found_objects u looked (inr none) = absurd (none_looked u (sym none.1 ∙ looked))

    pub home_objects : (u : UnitHome) → home_in (homes_of p) u.home ≡ Some u → AreTypedObjects (globals_at p u.home) u.objects
    home_objects u looked = subst (λ o. AreTypedObjects (globals_at p u.home) o) (found_objects u looked (at_home p u.home)) (objects_typed_at p typed u.home)

    hash_parts_below : (us : List UnitHome) → AreLookedUp (homes_of p) us → list_all (hash_in_range (length (code_slots p))) (flat_map (hash_parts_of p) us) ≡ true
    hash_parts_below [] looked = refl
    hash_parts_below (u ∷ us) looked =
        all_both (hash_in_range (length (code_slots p))) (hash_parts_of p u) (flat_map (hash_parts_of p) us) (hashes_below u.home u.objects.hashes (home_objects u looked.0).0) (hash_parts_below us looked.1)

    -- ---- iterators

    walked_below : (u : UnitHome) (looked : home_in (homes_of p) u.home ≡ Some u) (i : DeclaredIterator) → IsTrue (is_some (hash_named u.objects.hashes i.hash)) → nat_lt (walked_hash p u.home i) (length (hash_parts p)) ≡ true
    walked_below u looked i there =
        let some = some_of (hash_named u.objects.hashes i.hash) there in
        let beside = hash_beside p typed u looked i.hash some.0 some.1 in
        subst (λ o. nat_lt (unwrap_or o 0) (length (hash_parts p)) ≡ true) (sym beside.1) (lt-ltb beside.0 (length (hash_parts p)) (slice_inside (hash_parts p) beside.0 (hash_part p u.home some.0) beside.2))

    iterators_below : (u : UnitHome) → home_in (homes_of p) u.home ≡ Some u → (iterators : List DeclaredIterator) → AreTypedIterators u.objects.hashes iterators → all_below (length (hash_parts p)) (map (walked_hash p u.home) iterators) ≡ true
    iterators_below u looked [] walks = refl
    iterators_below u looked (i ∷ iterators) walks =
        and_from (nat_lt (walked_hash p u.home i) (length (hash_parts p))) (all_below (length (hash_parts p)) (map (walked_hash p u.home) iterators)) (walked_below u looked i walks.0) (iterators_below u looked iterators walks.1)

    iterator_parts_below : (us : List UnitHome) → AreLookedUp (homes_of p) us → all_below (length (hash_parts p)) (flat_map (iterator_parts_of p) us) ≡ true
    iterator_parts_below [] looked = refl
    iterator_parts_below (u ∷ us) looked =
        all_both (λ k. nat_lt k (length (hash_parts p))) (iterator_parts_of p u) (flat_map (iterator_parts_of p) us) (iterators_below u looked.0 u.objects.iterators (home_objects u looked.0).1) (iterator_parts_below us looked.1)

  -- ---- parameters

  parameters_below : (vs : List Variable) → ((name : List ℕ) (ty : Ty) → type_in vs name ≡ Some ty → globals_of p (Parameter name) ≡ Some ty) → all_below (length (code_slots p)) (map (λ (v : Variable). slot_of_global p None (Parameter v.name)) vs) ≡ true
  parameters_below [] typed = refl
  parameters_below (v ∷ vs) typed =
      let here : type_in (v ∷ vs) v.name ≡ Some v.ty = ap (λ b. if b then Some v.ty else type_in vs v.name) (bytes_self v.name) in
      let some = some_slot None (Parameter v.name) v.ty (typed v.name v.ty here) in
      all_mapped (λ k. nat_lt k (length (code_slots p))) (λ (x : Variable). slot_of_global p None (Parameter x.name)) (v ∷ vs) (λ x. slot_below None (Parameter x.name) some)

  -- ---- reading

  columns_below : (columns : Columns) → AreVariables (data_vector p) columns → all_below (length (code_slots p)) (map (λ (c : Column). slot_of_global p None (Named c.name)) columns) ≡ true
  columns_below [] typed = refl
  columns_below (c ∷ columns) typed =
      and_from (nat_lt (slot_of_global p None (Named c.name)) (length (code_slots p))) (all_below (length (code_slots p)) (map (λ (x : Column). slot_of_global p None (Named x.name)) columns))
      (typed_below None (Named c.name) typed.0.0 typed.0.1) (columns_below columns typed.1)

  present_below : (present : Option (List ℕ)) → ((name : List ℕ) → is_flag_of present name ≡ true → globals_of p (Present name) ≡ Some BigInt)
      → option_map_or (λ n. nat_lt n (length (code_slots p))) (option_map (λ (name : List ℕ). slot_of_global p None (Present name)) present) true ≡ true
  present_below None typed = refl
  present_below (Some name) typed = typed_below None (Present name) BigInt (typed name (bytes_self name))

  first_there : (b rest : Bool) → b ≡ true → (if b then true else rest) ≡ true
  first_there true rest e = refl
  first_there false rest e = absurd (true≢false (sym e))

  rest_there : (b rest : Bool) → rest ≡ true → (if b then true else rest) ≡ true
  rest_there true rest e = refl
  rest_there false rest e = e

  inputs_below : (bys : List ByVariable) (inputs : List Input) → AreTypedInputs (data_vector p) bys inputs → ((name : List ℕ) → is_present inputs name ≡ true → globals_of p (Present name) ≡ Some BigInt)
      → list_all (read_in_range (length (code_slots p))) (map (input_part p) inputs) ≡ true
  inputs_below bys [] typed present = refl
  inputs_below bys (i ∷ inputs) typed present =
      and_from (read_in_range (length (code_slots p)) (input_part p i)) (list_all (read_in_range (length (code_slots p))) (map (input_part p) inputs))
      (and_from (all_below (length (code_slots p)) (map (λ (c : Column). slot_of_global p None (Named c.name)) i.columns))
      (option_map_or (λ n. nat_lt n (length (code_slots p))) (option_map (λ (name : List ℕ). slot_of_global p None (Present name)) i.present) true)
      (columns_below i.columns typed.1) (present_below i.present (λ name e. present name (first_there (is_flag_of i.present name) (is_present inputs name) e))))
      (inputs_below bys inputs typed.3 (λ name e. present name (rest_there (is_flag_of i.present name) (is_present inputs name) e)))

  bys_below : (bys : List ByVariable) → ((name : List ℕ) → is_by bys name ≡ true → globals_of p (First name) ≡ Some BigInt) → list_all (by_in_range (length (code_slots p))) (map (by_variable_part p) bys) ≡ true
  bys_below [] typed = refl
  bys_below (b ∷ bys) typed =
      let some = some_slot None (First b.name) BigInt (typed b.name (first_there (bytes_eq b.name b.name) (is_by bys b.name) (bytes_self b.name))) in
      all_mapped (by_in_range (length (code_slots p))) (by_variable_part p) (b ∷ bys)
      (λ x. and_from (nat_lt (slot_of_global p None (Named x.name)) (length (code_slots p))) (nat_lt (slot_of_global p None (First x.name)) (length (code_slots p)) && nat_lt (slot_of_global p None (Last x.name)) (length (code_slots p)))
      (slot_below None (Named x.name) some)
      (and_from (nat_lt (slot_of_global p None (First x.name)) (length (code_slots p))) (nat_lt (slot_of_global p None (Last x.name)) (length (code_slots p))) (slot_below None (First x.name) some) (slot_below None (Last x.name) some)))

  few_mapped : {A X : Type 0} (f : A → X) (xs : List A) → length xs ≤ 16 → nat_le (length (map f xs)) 16 ≡ true
  few_mapped f xs few = le-leb (length (map f xs)) 16 (subst (λ n. n ≤ 16) (sym (length-map xs f)) few)

  tables_below : (inputs : List Input) (bys : List ByVariable) → length inputs ≤ 16 → length bys ≤ 16 → AreTypedInputs (data_vector p) bys inputs → ((name : List ℕ) → is_present inputs name ≡ true → globals_of p (Present name) ≡ Some BigInt)
      → ((name : List ℕ) → is_by bys name ≡ true → globals_of p (First name) ≡ Some BigInt) → tables_in_range (length (code_slots p)) (map (input_part p) inputs) (map (by_variable_part p) bys) ≡ true
  tables_below inputs bys few least typed present first =
      and_from (nat_le (length (map (input_part p) inputs)) 16 && nat_le (length (map (by_variable_part p) bys)) 16)
      (list_all (read_in_range (length (code_slots p))) (map (input_part p) inputs) && list_all (by_in_range (length (code_slots p))) (map (by_variable_part p) bys))
      (and_from (nat_le (length (map (input_part p) inputs)) 16) (nat_le (length (map (by_variable_part p) bys)) 16) (few_mapped (input_part p) inputs few) (few_mapped (by_variable_part p) bys least))
      (and_from (list_all (read_in_range (length (code_slots p))) (map (input_part p) inputs)) (list_all (by_in_range (length (code_slots p))) (map (by_variable_part p) bys)) (inputs_below bys inputs typed present) (bys_below bys first))

  reading_below : (reading : Reading) → IsTypedReading (data_vector p) reading → ((name : List ℕ) → is_present (inputs_of reading) name ≡ true → globals_of p (Present name) ≡ Some BigInt)
      → ((name : List ℕ) → is_by (bys_of reading) name ≡ true → globals_of p (First name) ≡ Some BigInt) → reading_in_range (length (code_slots p)) (reading_part p reading) ≡ true
  reading_below read.Nothing typed present first = refl
  reading_below read.Once typed present first = refl
  reading_below (read.Set inputs bys) typed present first = tables_below inputs bys typed.0 typed.1 typed.2 present first
  reading_below (read.Merge inputs bys retains) typed present first = tables_below inputs bys typed.0 typed.1 typed.2 present first
  reading_below (read.From instance workers columns) typed present first = columns_below columns typed.2

  -- ---- outputs

  source_below : (name : List ℕ) (ty : Ty) → type_in (data_vector p) name ≡ Some ty → nat_lt (source_slot (program_slots p) name) (length (code_slots p)) ≡ true
  source_below name ty e =
      let it = slot_numbered p None (Named name) ty e in
      subst (λ o. nat_lt (unwrap_or o 0) (length (code_slots p)) ≡ true) (sym (slot_at_number p (located None (Named name)) it.0 it.1))
      (lt-ltb it.0 (length (code_slots p)) (layout_below it.0 (number_inside (λ other. is_same_location (located None (Named name)) other) (slot_locations p) it.0 it.1)))

  output_columns_below : (columns : List OutputColumn) → AreOutputColumns (data_vector p) columns
      → list_all (λ (c : List ℕ × ℕ). nat_lt c.1 (length (code_slots p))) (map (λ (c : OutputColumn). (c.name, source_slot (program_slots p) c.source)) columns) ≡ true
  output_columns_below [] typed = refl
  output_columns_below (c ∷ columns) typed =
      and_from (nat_lt (source_slot (program_slots p) c.source) (length (code_slots p)))
      (list_all (λ (x : List ℕ × ℕ). nat_lt x.1 (length (code_slots p))) (map (λ (x : OutputColumn). (x.name, source_slot (program_slots p) x.source)) columns))
      (source_below c.source c.ty typed.0) (output_columns_below columns typed.1)

  outputs_below : (outputs : List OutputTable) → AreTypedOutputs (data_vector p) outputs → list_all (output_in_range (length (code_slots p))) (map (output_part p) outputs) ≡ true
  outputs_below [] typed = refl
  outputs_below (o ∷ outputs) typed =
      and_from (output_in_range (length (code_slots p)) (output_part p o)) (list_all (output_in_range (length (code_slots p))) (map (output_part p) outputs)) (output_columns_below o.columns typed.2) (outputs_below outputs typed.3)

  -- ---- all of them

  ranges_hold : IsTypedUnit p → parts_in_range (program_code p) ≡ true
  ranges_hold typed =
      let slots = length (code_slots p) in
      let looked = all_looked (homes_of p) (homes_apart p typed) in
      let hashes = ap (λ l. list_all (hash_in_range slots) l) (hash_parts_by_home p) ∙ hash_parts_below typed (homes_of p) looked in
      let iterators = ap (λ l. all_below (length (hash_parts p)) l) (iterator_parts_by_home p) ∙ iterator_parts_below typed (homes_of p) looked in
      let parameters = parameters_below p.parameters (λ name ty e. e) in
      let reading = reading_below p.reading typed.reading (λ name e. ap flag_type e) (λ name e. ap flag_type e) in
      and_from (list_all (hash_in_range slots) (hash_parts p) && (all_below (length (hash_parts p)) (iterator_parts p) && all_below slots (map (λ (v : Variable). slot_of_global p None (Parameter v.name)) p.parameters)))
      (reading_in_range slots (reading_part p p.reading) && list_all (output_in_range slots) (map (output_part p) p.outputs))
      (and_from (list_all (hash_in_range slots) (hash_parts p)) (all_below (length (hash_parts p)) (iterator_parts p) && all_below slots (map (λ (v : Variable). slot_of_global p None (Parameter v.name)) p.parameters)) hashes
      (and_from (all_below (length (hash_parts p)) (iterator_parts p)) (all_below slots (map (λ (v : Variable). slot_of_global p None (Parameter v.name)) p.parameters)) iterators parameters))
      (and_from (reading_in_range slots (reading_part p p.reading)) (list_all (output_in_range slots) (map (output_part p) p.outputs)) reading (outputs_below p.outputs typed.outputs))

-- ---- names of outputs

other_by : (name : List ℕ) (names : List (List ℕ)) → is_listed names name ≡ false → is_other_name name names ≡ true
other_by name [] e = refl
other_by name (x ∷ names) e =
    let parts = or_parts (bytes_eq x name) (is_listed names name) e in
    and_from (not (bytes_eq name x)) (is_other_name name names) (not_from_false (bytes_eq name x) (bytes_swap name x ∙ parts.0)) (other_by name names parts.1)

differ_by : (names : List (List ℕ)) → are_distinct names ≡ true → names_differ names ≡ true
differ_by [] e = refl
differ_by (name ∷ names) e =
    let parts = and_parts (not (is_listed names name)) (are_distinct names) e in
    and_from (is_other_name name names) (names_differ names) (other_by name names (not-true (is_listed names name) parts.0)) (differ_by names parts.1)

output_names : (p : UnitTree) (outputs : List OutputTable) → map (λ (o : OutputPart). o.name) (map (output_part p) outputs) ≡ names_of_outputs outputs
output_names p [] = refl
output_names p (o ∷ outputs) = ap (λ names. o.name ∷ names) (output_names p outputs)

pub typed_programs_have_valid_parts : EachValueHasType → TypedProgramsHaveCode → TypedProgramsHaveValidParts
typed_programs_have_valid_parts values have p typed = record {
  ranges = ranges_hold values p typed;
  outputs = ap names_differ (output_names p p.outputs) ∙ differ_by (names_of_outputs p.outputs) typed.output_names;
  steps = IsCodeOfUnits.jumps (have p typed);
}
