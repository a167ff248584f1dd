-- Before its first unit the data of a typed program's code hold what the program opens with.
use Rattle.std.proofs.Common.{◌≡◌, ◌⊎◌, inl, inr, ℕ, zero, suc, ◌<◌, nat_eq, eqb-true, eq-eqb, Bool, true, false, ◌&&◌, ◌||◌, cond, List, [], ◌∷◌, ◌++◌, length, map, flat_map, filter, replicate, slice_get, bytes_eq, position, zip, Option, Some, None, unwrap_or, refl, sym, ap, ◌∙◌, subst, arith, length-append, if◌then◌else◌}
use Rattle.std.specs.Prelude.{slice_set}
use Rattle.std.specs.List.{AllByRecursion, list_any}
use Rattle.std.specs.Option.{option_map}
use Rattle.std.proofs.lemmas.Bool.{true≢false}
use Rattle.ds2_value.specs.HashList.{HashItems, hash_answer}
use Rattle.ds2_value.specs.Operations.{or_null_at_fault}
use Rattle.ds2_value.specs.Row.{Row, Columns}
use Rattle.ds2_value.specs.Types.{assign_of}
use Rattle.ds2_value.specs.Value.{or_null}
use Rattle.ds2_value.specs.declared.hash_function.HashFunction.TheVariants.{Add}
use Rattle.ds2_value.specs.declared.schema.Column.{Column}
use Rattle.ds2_value.specs.declared.ty.Ty.{Ty}
use Rattle.ds2_value.specs.declared.value.Value.{Value}
use Rattle.ds2_value.specs.declared.value.Value.TheVariants.{Null}
use Rattle.ds2_meaning.specs.declared.globals.Variable.{Variable}
use Rattle.ds2_meaning.specs.declared.hashes.DeclaredHash.{DeclaredHash}
use Rattle.ds2_meaning.specs.declared.hashes.DeclaredIterator.{DeclaredIterator}
use Rattle.ds2_meaning.specs.declared.hashes.HashVariable.{HashVariable}
use Rattle.ds2_meaning.specs.declared.hashes.LoadedTable.{LoadedTable}
use Rattle.ds2_meaning.specs.declared.hashes.ThreadInstance.{ThreadInstance}
use Rattle.ds2_meaning.specs.declared.location.Global.TheVariants.{Named, Parameter}
use Rattle.ds2_meaning.specs.declared.readings.MentionedTable.{MentionedTable}
use Rattle.ds2_meaning.specs.HashObjects.{DeclaredObjects, object_at}
use Rattle.ds2_meaning.specs.IsTyped.{column_type, AreHashVariables, AreLoadedVariables, IsTypedLoad, AreTypedHashes, IsTypedUnit}
use Rattle.ds2_meaning.specs.Location.{Home, Location, is_same_home, is_same_global, is_same_location, Content, Holds, Items, Position, Storage, held, items_held, position_held, with_content}
use Rattle.ds2_meaning.specs.ProgramMeaning.{nothing_kept, global_name, row_for_variables, with_rows_as_items, first_items, with_hashes_opened, with_iterators_opened, with_objects_opened, with_instances_opened, with_parameters, opening_of}
use Rattle.ds2_meaning.specs.ProgramTree.{InstanceTree, UnitTree}
use Rattle.ds2_meaning.specs.Reading.{TableRows, value_under, stage_instance}
use Rattle.ds2_meaning.specs.TableLaws.{tables_loaded, tables_loaded_by}
use Rattle.ds2_code.specs.declared.parts.HashPart.{HashPart}
use Rattle.ds2_code.specs.declared.parts.Slot.{Slot}
use Rattle.ds2_code.specs.CodeUnit.{assigned_to_slot, columns_for, with_rows_added, opening_hashes, opening_data}
use Rattle.ds2_code.specs.Desk.{ProgramData, SlotSettings, with_slot_settings, with_values_in}
use Rattle.ds2_gen.specs.CodeCells.{CodeCell, SlotCell, LocalCell, HashCell, IteratorCell, ParameterCell, CellHas}
use Rattle.ds2_gen.specs.UnitCode.{data_cells}
use Rattle.ds2_gen.proofs.CellLemmas.{get_set_same, get_set_other, room_kept}
use Rattle.ds2_program_code.specs.KeptTypes.{EachValueHasType}
use Rattle.ds2_program_code.specs.PlacedProgram.{number_of_first, number_of_location, slot_locations, hash_locations, iterators_at, iterator_locations, parameters_at, parameter_locations, first_cell}
use Rattle.ds2_program_code.specs.CodeParts.{slot_of_global, code_slots, variable_slots, columns_of_variables, hash_table_part, hash_part, hash_parts, walked_hash, iterator_parts}
use Rattle.ds2_program_code.specs.Opening.{opening_tables, TypedProgramsOpenAlike}
use Rattle.ds2_program_code.specs.ProgramCode.{program_code}
use Rattle.ds2_program_code.specs.ProgramRuns.{HoldsProgram}
use Rattle.ds2_program_code.proofs.Homes.{UnitHome, instance_home, homes_of, home_in, homes_apart, homes_typed, place_of_number, AreLookedUp, all_looked}
use Rattle.ds2_program_code.proofs.Layouts.{position_is}
use Rattle.ds2_program_code.proofs.Lists.{same_some, number_of_any, number_inside, number_passes, slice_mapped, slice_below}
use Rattle.ds2_program_code.proofs.Objects.{location_equal, numbers_tell, mapped_lengths, hashes_of_home, hash_parts_of, hash_locations_by_home, hash_parts_by_home, mapped_some}
use Rattle.ds2_program_code.proofs.Ranges.{layout_below, home_objects}
use Rattle.ds2_program_code.proofs.Slots.{located, globals_at, slot_numbered}
use Rattle.ds2_program_code.proofs.SlotTypes.{slot_has_type}
use Rattle.ds2_program_code.proofs.StageParameters.{all_listed_by, type_at}
use Rattle.ds2_program_code.proofs.TypedPoints.{slice_split}

-- ---- what is kept nowhere

module _ {X : Type 0} (f : Content → X) (x : X) (of_items : (items : HashItems) → f (Items items) ≡ x) (of_position : f (Position None) ≡ x) (tables : TableRows) where
  content_by : (b : Bool) (c d : Content) → f c ≡ x → f d ≡ x → f (if b then c else d) ≡ x
  content_by true c d e g = e
  content_by false c d e g = g

  hashes_give : (home : Home) (hashes : List DeclaredHash) (before : Storage) → ((at : Location) → f (before at) ≡ x) → (at : Location) → f (with_hashes_opened tables home hashes before at) ≡ x
  hashes_give home [] before each at = each at
  hashes_give home (h ∷ hashes) before each at =
      content_by (is_same_location at (object_at home h.name)) (Items (first_items h h.loaded tables)) (with_hashes_opened tables home hashes before at) (of_items (first_items h h.loaded tables)) (hashes_give home hashes before each at)

  iterators_give : (home : Home) (iterators : List DeclaredIterator) (before : Storage) → ((at : Location) → f (before at) ≡ x) → (at : Location) → f (with_iterators_opened home iterators before at) ≡ x
  iterators_give home [] before each at = each at
  iterators_give home (i ∷ iterators) before each at =
      content_by (is_same_location at (object_at home i.name)) (Position None) (with_iterators_opened home iterators before at) of_position (iterators_give home iterators before each at)

  objects_give : (home : Home) (objects : DeclaredObjects) (before : Storage) → ((at : Location) → f (before at) ≡ x) → (at : Location) → f (with_objects_opened tables home objects before at) ≡ x
  objects_give home objects before each at = hashes_give home objects.hashes (with_iterators_opened home objects.iterators before) (iterators_give home objects.iterators before each) at

  instances_give : (instances : List InstanceTree) (before : Storage) → ((at : Location) → f (before at) ≡ x) → (at : Location) → f (with_instances_opened tables instances before at) ≡ x
  instances_give [] before each at = each at
  instances_give (i ∷ instances) before each at = objects_give (Some i.name) i.objects (with_instances_opened tables instances before) (instances_give instances before each) at

-- what is kept before the parameters have their values
abbrev without_values : UnitTree → TableRows → Storage
without_values p tables = with_objects_opened tables None p.objects (with_instances_opened tables p.instances nothing_kept)

nothing_held : (p : UnitTree) (tables : TableRows) (at : Location) → held (without_values p tables at) ≡ Null
nothing_held p tables at =
    objects_give held Null (λ items. refl) refl tables None p.objects (with_instances_opened tables p.instances nothing_kept) (instances_give held Null (λ items. refl) refl tables p.instances nothing_kept (λ other. refl)) at

nowhere : (p : UnitTree) (tables : TableRows) (at : Location) → position_held (without_values p tables at) ≡ None
nowhere p tables at =
    objects_give position_held None (λ items. refl) refl tables None p.objects (with_instances_opened tables p.instances nothing_kept)
    (instances_give position_held None (λ items. refl) refl tables p.instances nothing_kept (λ other. refl)) at

-- values of parameters leave other locations alone
parameters_leave : (ps : List Variable) (vs : List Value) (kept : Storage) (at : Location) → ((name : List ℕ) → is_same_location at (located None (Parameter name)) ≡ false) → with_parameters ps vs kept at ≡ kept at
parameters_leave [] vs kept at other = refl
parameters_leave (q ∷ ps) [] kept at other = refl
parameters_leave (q ∷ ps) (v ∷ vs) kept at other =
    parameters_leave ps vs (with_content (located None (Parameter q.name)) (Holds v) kept) at other ∙ ap (λ b. if b then Holds v else kept at) (other q.name)

position_by : (b : Bool) (v : Value) (c : Content) → position_held c ≡ None → position_held (if b then Holds v else c) ≡ None
position_by true v c e = refl
position_by false v c e = e

parameters_nowhere : (ps : List Variable) (vs : List Value) (kept : Storage) (at : Location) → position_held (kept at) ≡ None → position_held (with_parameters ps vs kept at) ≡ None
parameters_nowhere [] vs kept at e = e
parameters_nowhere (q ∷ ps) [] kept at e = e
parameters_nowhere (q ∷ ps) (v ∷ vs) kept at e =
    parameters_nowhere ps vs (with_content (located None (Parameter q.name)) (Holds v) kept) at (position_by (is_same_location at (located None (Parameter q.name))) v (kept at) e)

-- ---- slots

replicated : {X : Type 0} (x : X) (m n : ℕ) → n < m → slice_get (replicate m x) n ≡ Some x
replicated x zero n less = let no : n < 0 = less in absurd (omega arith)
replicated x (suc m) zero less = refl
replicated x (suc m) (suc n) less = let next : n < m = omega arith in replicated x m n next

module _ (p : UnitTree) where
  -- each slot has what is kept at its location
  abbrev SlotsHold : Row → Storage → Type 0
  SlotsHold slots kept = (at : Location) (n : ℕ) → number_of_location (slot_locations p) at ≡ Some n → slice_get slots n ≡ Some (held (kept at))

  set_by : (slots : Row) (kept : Storage) (here at : Location) (m n : ℕ) (v : Value) (b : Bool) → SlotsHold slots kept → number_of_location (slot_locations p) here ≡ Some m → number_of_location (slot_locations p) at ≡ Some n
      → nat_eq n m ≡ b → slice_get (slice_set slots m v) n ≡ Some (held (if b then Holds v else kept at))
  set_by slots kept here at m n v true hold e f same = ap (λ k. slice_get (slice_set slots m v) k) (eqb-true n m same) ∙ get_set_same slots m (held (kept here)) v (hold here m e)
  set_by slots kept here at m n v false hold e f same = sym (get_set_other slots m n v (λ one. true≢false (sym (eq-eqb n m one) ∙ same))) ∙ hold at n f

  set_slot : (slots : Row) (kept : Storage) (here : Location) (m : ℕ) (v : Value) → SlotsHold slots kept → number_of_location (slot_locations p) here ≡ Some m → SlotsHold (slice_set slots m v) (with_content here (Holds v) kept)
  set_slot slots kept here m v hold e at n f = set_by slots kept here at m n v (is_same_location at here) hold e f (numbers_tell (slot_locations p) at here n m f e)

  -- the slot of a parameter has its number
  abbrev IsPlaced : Variable → Type 0
  IsPlaced q = number_of_location (slot_locations p) (located None (Parameter q.name)) ≡ Some (slot_of_global p None (Parameter q.name))

  values_hold : (ps : List Variable) (vs : List Value) (slots : Row) (kept : Storage) → SlotsHold slots kept → AllByRecursion IsPlaced ps
      → SlotsHold (with_values_in (map (λ (q : Variable). slot_of_global p None (Parameter q.name)) ps) vs slots) (with_parameters ps vs kept)
  values_hold [] vs slots kept hold placed = hold
  values_hold (q ∷ ps) [] slots kept hold placed = hold
  values_hold (q ∷ ps) (v ∷ vs) slots kept hold placed =
      let here = located None (Parameter q.name) in
      let n = slot_of_global p None (Parameter q.name) in
      values_hold ps vs (slice_set slots n v) (with_content here (Holds v) kept) (set_slot slots kept here n v hold placed.0) placed.1

  parameters_placed : IsTypedUnit p → AllByRecursion IsPlaced p.parameters
  parameters_placed typed =
      all_listed_by p.parameters
      (λ k q listed.
      let it = slot_numbered p None (Parameter q.name) q.ty (type_at p.parameters k q (IsTypedUnit.parameters typed).1 listed) in
      it.1 ∙ sym (ap (λ o. Some (unwrap_or o 0)) it.1))

  slots_open : EachValueHasType → (tables : TableRows) → SlotsHold (replicate (length (code_slots p)) Null) (without_values p tables)
  slots_open values tables at n e =
      replicated Null (length (code_slots p)) n (layout_below values p n (number_inside (λ other. is_same_location at other) (slot_locations p) n e)) ∙ ap Some (sym (nothing_held p tables at))

-- there is room for what system methods keep
still_there : (sets : SlotSettings) (slots : Row) (n : ℕ) (u : Value) → slice_get slots n ≡ Some u → (w : Value) × (slice_get (with_slot_settings sets slots) n ≡ Some w)
still_there [] slots n u e = (u, e)
still_there (set ∷ sets) slots n u e =
    let it = room_kept slots set.0 n set.1 u e in
    still_there sets (slice_set slots set.0 set.1) n it.0 it.1

-- ---- hash objects: the rows of a table

column_there_by : (b : Bool) (c : Column) (rest : Bool) (o : Option Ty) (ty : Ty) → (if b then Some c.ty else o) ≡ Some ty → (o ≡ Some ty → rest ≡ true) → (b || rest) ≡ true
column_there_by true c rest o ty e later = refl
column_there_by false c rest o ty e later = later e

column_there : (columns : Columns) (name : List ℕ) (ty : Ty) → column_type columns name ≡ Some ty → list_any (λ (c : Column). bytes_eq c.name name) columns ≡ true
column_there [] name ty e = absurd cc
column_there (c ∷ columns) name ty e = column_there_by (bytes_eq c.name name) c (list_any (λ (x : Column). bytes_eq x.name name) columns) (column_type columns name) ty e (λ f. column_there columns name ty f)

under_by : (b : Bool) (o : Option ℕ) (v u : Value) (row : Row) (k : ℕ) → (if b then Some 0 else option_map (λ n. suc n) o) ≡ Some k → ((n : ℕ) → o ≡ Some n → or_null (slice_get row n) ≡ u) → or_null (slice_get (v ∷ row) k) ≡ (if b then v else u)
under_by true o v u row k e later = ap (λ n. or_null (slice_get (v ∷ row) n)) (sym (same_some 0 k e))
under_by false None v u row k e later = absurd cc
under_by false (Some n) v u row k e later = ap (λ m. or_null (slice_get (v ∷ row) m)) (sym (same_some (suc n) k e)) ∙ later n refl

-- a column's value by its number is that under its name
under_name : (columns : Columns) (row : Row) (name : List ℕ) (k : ℕ) → number_of_first (λ (c : Column). bytes_eq c.name name) columns ≡ Some k → or_null (slice_get row k) ≡ value_under name columns row
under_name [] row name k e = absurd cc
under_name (c ∷ columns) [] name k e = refl
under_name (c ∷ columns) (v ∷ row) name k e =
    under_by (bytes_eq c.name name) (number_of_first (λ (x : Column). bytes_eq x.name name) columns) v (value_under name columns row) row k e (λ n f. under_name columns row name n f)

module _ (p : UnitTree) (home : Home) (columns : Columns) where
  assigned_alike : (v : HashVariable) (ty : Ty) (row : Row) → globals_at p home v.global ≡ Some v.ty → column_type columns (global_name v.global) ≡ Some ty
      → assigned_to_slot (slice_get (code_slots p) (slot_of_global p home v.global)) (or_null (slice_get row (unwrap_or (position (λ (c : Column). bytes_eq c.name (global_name v.global)) columns) 0)))
      ≡ or_null_at_fault (assign_of (value_under (global_name v.global) columns row) v.ty)
  assigned_alike v ty row e f =
      let test : Column → Bool = λ c. bytes_eq c.name (global_name v.global) in
      let it = number_of_any test columns (column_there columns (global_name v.global) ty f) in
      let value : or_null (slice_get row (unwrap_or (position test columns) 0)) ≡ value_under (global_name v.global) columns row =
      ap (λ o. or_null (slice_get row (unwrap_or o 0))) (position_is test columns it.0 it.1) ∙ under_name columns row (global_name v.global) it.0 it.1 in
      let slot = mapped_some (λ (s : Slot). s.ty) (slice_get (code_slots p) (slot_of_global p home v.global)) v.ty (slot_has_type p home v.global v.ty e) in
      ap (λ o. assigned_to_slot o (or_null (slice_get row (unwrap_or (position test columns) 0)))) slot.1
      ∙ ap (λ t. or_null_at_fault (assign_of (or_null (slice_get row (unwrap_or (position test columns) 0))) t)) slot.2 ∙ ap (λ w. or_null_at_fault (assign_of w v.ty)) value

  row_alike : (vs : List HashVariable) (row : Row) → AreHashVariables (globals_at p home) vs → AreLoadedVariables columns vs → columns_for (code_slots p) (variable_slots p home vs) (columns_of_variables columns vs) row ≡ row_for_variables vs columns row
  row_alike [] row is loaded = refl
  row_alike (v ∷ vs) row is loaded =
      let first = assigned_to_slot (slice_get (code_slots p) (slot_of_global p home v.global)) (or_null (slice_get row (unwrap_or (position (λ (c : Column). bytes_eq c.name (global_name v.global)) columns) 0))) in
      ap (λ rest. first ∷ rest) (row_alike vs row is.2 loaded.1) ∙ ap (λ x. x ∷ row_for_variables vs columns row) (assigned_alike v loaded.0.0 row is.0 loaded.0.1)

-- ---- hash objects: their items

module _ (p : UnitTree) (tables : TableRows) where
  rows_alike : (home : Home) (h : DeclaredHash) (loaded : LoadedTable) (rows : List Row) (items : HashItems) → AreHashVariables (globals_at p home) h.key_variables → AreHashVariables (globals_at p home) h.data_variables
      → AreLoadedVariables loaded.columns h.key_variables → AreLoadedVariables loaded.columns h.data_variables
      → with_rows_added (code_slots p) (hash_part p home h) (hash_table_part h loaded) rows items ≡ with_rows_as_items h loaded.columns rows items
  rows_alike home h loaded [] items keys data' key_columns data_columns = refl
  rows_alike home h loaded (row ∷ rows) items keys data' key_columns data_columns =
      let key = row_for_variables h.key_variables loaded.columns row in
      let value = row_for_variables h.data_variables loaded.columns row in
      let coded = columns_for (code_slots p) (variable_slots p home h.data_variables) (columns_of_variables loaded.columns h.data_variables) row in
      let next : HashItems → HashItems = λ its. with_rows_added (code_slots p) (hash_part p home h) (hash_table_part h loaded) rows its in
      ap (λ k. next (hash_answer Add k coded items).items) (row_alike p home loaded.columns h.key_variables row keys key_columns)
      ∙ ap (λ d. next (hash_answer Add key d items).items) (row_alike p home loaded.columns h.data_variables row data' data_columns)
      ∙ rows_alike home h loaded rows (hash_answer Add key value items).items keys data' key_columns data_columns

  -- the items of the hash objects of a home
  abbrev items_of_home : UnitHome → List HashItems
  items_of_home u = map (λ (h : DeclaredHash). first_items h h.loaded tables) u.objects.hashes

  one_opens : (home : Home) (h : DeclaredHash) (o : Option LoadedTable) (hashes : List DeclaredHash) (rest : List HashPart) (more : List MentionedTable) → AreHashVariables (globals_at p home) h.key_variables
      → AreHashVariables (globals_at p home) h.data_variables → IsTypedLoad h o
      → opening_hashes (code_slots p) (hash_part p home (record h { loaded = o }) ∷ rest) (map tables (tables_loaded (record h { loaded = o } ∷ hashes) ++ more))
      ≡ first_items (record h { loaded = o }) o tables ∷ opening_hashes (code_slots p) rest (map tables (tables_loaded hashes ++ more))
  one_opens home h None hashes rest more keys data' is = refl
  one_opens home h (Some loaded) hashes rest more keys data' is =
      ap (λ items. items ∷ opening_hashes (code_slots p) rest (map tables (tables_loaded hashes ++ more)))
      (rows_alike home (record h { loaded = Some loaded }) loaded (tables loaded.table) [] keys data' is.1 is.2)

  home_opens : (home : Home) (hashes : List DeclaredHash) (rest : List HashPart) (more : List MentionedTable) → AreTypedHashes (globals_at p home) hashes
      → opening_hashes (code_slots p) (map (hash_part p home) hashes ++ rest) (map tables (tables_loaded hashes ++ more))
      ≡ map (λ (h : DeclaredHash). first_items h h.loaded tables) hashes ++ opening_hashes (code_slots p) rest (map tables more)
  home_opens home [] rest more is = refl
  home_opens home (h ∷ hashes) rest more is =
      one_opens home h h.loaded hashes (map (hash_part p home) hashes ++ rest) more is.0.0 is.0.1 is.0.3
      ∙ ap (λ items. first_items h h.loaded tables ∷ items) (home_opens home hashes rest more is.1)

  -- the tables of homes
  abbrev tables_of_homes : List UnitHome → List MentionedTable
  tables_of_homes [] = []
  tables_of_homes (u ∷ us) = tables_loaded u.objects.hashes ++ tables_of_homes us

  instance_tables : (instances : List InstanceTree) → tables_loaded_by instances ≡ tables_of_homes (map instance_home instances)
  instance_tables [] = refl
  instance_tables (i ∷ instances) = ap (λ rest. tables_loaded i.objects.hashes ++ rest) (instance_tables instances)

  module _ (values : EachValueHasType) (typed : IsTypedUnit p) where
    homes_open : (us : List UnitHome) → AreLookedUp (homes_of p) us → opening_hashes (code_slots p) (flat_map (hash_parts_of p) us) (map tables (tables_of_homes us)) ≡ flat_map items_of_home us
    homes_open [] looked = refl
    homes_open (u ∷ us) looked =
        home_opens u.home u.objects.hashes (flat_map (hash_parts_of p) us) (tables_of_homes us) (home_objects values p typed u looked.0).0
        ∙ ap (λ rest. items_of_home u ++ rest) (homes_open us looked.1)

    hashes_open : opening_hashes (code_slots p) (hash_parts p) (opening_tables p tables) ≡ flat_map items_of_home (homes_of p)
    hashes_open =
        ap (λ l. opening_hashes (code_slots p) l (opening_tables p tables)) (hash_parts_by_home p)
        ∙ ap (λ l. opening_hashes (code_slots p) (flat_map (hash_parts_of p) (homes_of p)) (map tables (tables_loaded p.objects.hashes ++ l))) (instance_tables p.instances)
        ∙ homes_open (homes_of p) (all_looked (homes_of p) (homes_apart p typed))

-- ---- hash objects: what is kept

named_apart : (b : Bool) → (b && false) ≡ false
named_apart true = refl
named_apart false = refl

no_home : (b x : Bool) → b ≡ false → (b && x) ≡ false
no_home true x e = absurd (true≢false e)
no_home false x e = refl

-- the first hash object of a place, and its items there
record OpensAt (tables : TableRows) (at : Location) (home : Home) (hashes : List DeclaredHash) (k : ℕ) : Type 0 where
  hash : DeclaredHash
  listed : slice_get hashes k ≡ Some hash
  items : (before : Storage) → with_hashes_opened tables home hashes before at ≡ Items (first_items hash hash.loaded tables)

module _ (tables : TableRows) (at : Location) where
  hashes_leave : (home : Home) (hashes : List DeclaredHash) (before : Storage) → is_same_home at.home home ≡ false → with_hashes_opened tables home hashes before at ≡ before at
  hashes_leave home [] before other = refl
  hashes_leave home (h ∷ hashes) before other =
      ap (λ b. if b then Items (first_items h h.loaded tables) else with_hashes_opened tables home hashes before at) (no_home (is_same_home at.home home) (is_same_global at.global (Named h.name)) other) ∙ hashes_leave home hashes before other

  iterators_leave : (home : Home) (iterators : List DeclaredIterator) (before : Storage) → is_same_home at.home home ≡ false → with_iterators_opened home iterators before at ≡ before at
  iterators_leave home [] before other = refl
  iterators_leave home (i ∷ iterators) before other =
      ap (λ b. if b then Position None else with_iterators_opened home iterators before at) (no_home (is_same_home at.home home) (is_same_global at.global (Named i.name)) other) ∙ iterators_leave home iterators before other

  -- homes, each with its objects opened
  abbrev opened : List UnitHome → Storage
  opened [] = nothing_kept
  opened (u ∷ us) = with_objects_opened tables u.home u.objects (opened us)

  instances_opened : (instances : List InstanceTree) → with_instances_opened tables instances nothing_kept ≡ opened (map instance_home instances)
  instances_opened [] = refl
  instances_opened (i ∷ instances) = ap (λ kept. with_objects_opened tables (Some i.name) i.objects kept) (instances_opened instances)

  found_by : (b : Bool) (v u : UnitHome) (vs : List UnitHome) (c : Content) → is_same_home at.home v.home ≡ b → cond b (Some v) (home_in vs at.home) ≡ Some u → ((before : Storage) → with_objects_opened tables u.home u.objects before at ≡ c)
      → (home_in vs at.home ≡ Some u → opened vs at ≡ c) → with_objects_opened tables v.home v.objects (opened vs) at ≡ c
  found_by true v u vs c same found here later = subst (λ (w : UnitHome). with_objects_opened tables w.home w.objects (opened vs) at ≡ c) (sym (same_some v u found)) (here (opened vs))
  found_by false v u vs c other found here later =
      hashes_leave v.home v.objects.hashes (with_iterators_opened v.home v.objects.iterators (opened vs)) other ∙ iterators_leave v.home v.objects.iterators (opened vs) other ∙ later found

  -- what stands there of the home that is found stands there of all
  opened_there : (us : List UnitHome) (u : UnitHome) (c : Content) → home_in us at.home ≡ Some u → ((before : Storage) → with_objects_opened tables u.home u.objects before at ≡ c) → opened us at ≡ c
  opened_there [] u c found here = absurd cc
  opened_there (v ∷ vs) u c found here = found_by (is_same_home at.home v.home) v u vs c refl found here (λ e. opened_there vs u c e here)

  opens_by : (b : Bool) (home : Home) (h : DeclaredHash) (hashes : List DeclaredHash) (o : Option ℕ) (k : ℕ) → is_same_location at (object_at home h.name) ≡ b → (if b then Some 0 else option_map (λ n. suc n) o) ≡ Some k
      → ((n : ℕ) → o ≡ Some n → OpensAt tables at home hashes n) → OpensAt tables at home (h ∷ hashes) k
  opens_by true home h hashes o k same e later =
      record {
        hash = h;
        listed = ap (λ n. slice_get (h ∷ hashes) n) (sym (same_some 0 k e));
        items = λ before. ap (λ b. if b then Items (first_items h h.loaded tables) else with_hashes_opened tables home hashes before at) same;
      }
  opens_by false home h hashes None k same e later = absurd cc
  opens_by false home h hashes (Some n) k same e later =
      let it = later n refl in
      record {
        hash = it.hash;
        listed = ap (λ m. slice_get (h ∷ hashes) m) (sym (same_some (suc n) k e)) ∙ it.listed;
        items = λ before. ap (λ b. if b then Items (first_items h h.loaded tables) else with_hashes_opened tables home hashes before at) same ∙ it.items before;
      }

  opens_at : (home : Home) (hashes : List DeclaredHash) (k : ℕ) → number_of_first (λ l. is_same_location at l) (map (λ (h : DeclaredHash). object_at home h.name) hashes) ≡ Some k → OpensAt tables at home hashes k
  opens_at home [] k e = absurd cc
  opens_at home (h ∷ hashes) k e =
      opens_by (is_same_location at (object_at home h.name)) home h hashes (number_of_first (λ l. is_same_location at l) (map (λ (x : DeclaredHash). object_at home x.name) hashes)) k refl e (λ n f. opens_at home hashes n f)

-- ---- cells

-- an iterator that stands nowhere
abbrev none_yet : Option ℕ
none_yet = None

-- what a cell was found from
abbrev CellFrom : (s h i q : Option ℕ) → CodeCell → Type 0
CellFrom s h i q (SlotCell n) = s ≡ Some n
CellFrom s h i q (LocalCell n) = ⊥
CellFrom s h i q (HashCell n) = h ≡ Some n
CellFrom s h i q (IteratorCell n) = i ≡ Some n
CellFrom s h i q (ParameterCell n) = q ≡ Some n

cell_from : (s h i q : Option ℕ) (c : CodeCell) → first_cell (option_map SlotCell s) (first_cell (option_map HashCell h) (first_cell (option_map IteratorCell i) (option_map ParameterCell q))) ≡ Some c → CellFrom s h i q c
cell_from (Some n) h i q c e = subst (λ x. CellFrom (Some n) h i q x) (same_some (SlotCell n) c e) refl
cell_from None (Some n) i q c e = subst (λ x. CellFrom None (Some n) i q x) (same_some (HashCell n) c e) refl
cell_from None None (Some n) q c e = subst (λ x. CellFrom None None (Some n) q x) (same_some (IteratorCell n) c e) refl
cell_from None None None (Some n) c e = subst (λ x. CellFrom None None None (Some n) x) (same_some (ParameterCell n) c e) refl
cell_from None None None None c e = absurd cc

flat_lengths : {A X Y : Type 0} (f : A → List X) (g : A → List Y) (xs : List A) → ((x : A) → length (f x) ≡ length (g x)) → length (flat_map f xs) ≡ length (flat_map g xs)
flat_lengths f g [] same = refl
flat_lengths f g (x ∷ xs) same = omega (arith, length-append (f x) (flat_map f xs), length-append (g x) (flat_map g xs), same x, flat_lengths f g xs same)

iterator_count : (p : UnitTree) → length (iterator_locations p) ≡ length (iterator_parts p)
iterator_count p =
    let own = iterators_at None p.objects in
    let parts = map (walked_hash p None) p.objects.iterators in
    let others = flat_map (λ (i : InstanceTree). iterators_at (Some i.name) i.objects) p.instances in
    let more = flat_map (λ (i : InstanceTree). map (walked_hash p (Some i.name)) i.objects.iterators) p.instances in
    let first : length own ≡ length parts = mapped_lengths (λ (i : DeclaredIterator). object_at None i.name) (walked_hash p None) p.objects.iterators in
    let rest : length others ≡ length more =
    flat_lengths (λ (i : InstanceTree). iterators_at (Some i.name) i.objects) (λ (i : InstanceTree). map (walked_hash p (Some i.name)) i.objects.iterators) p.instances
    (λ i. mapped_lengths (λ (x : DeclaredIterator). object_at (Some i.name) x.name) (walked_hash p (Some i.name)) i.objects.iterators) in
    omega (arith, length-append own others, length-append parts more, first, rest)

home_by : (t : ThreadInstance) (threads : List ThreadInstance) (k : ℕ) (y : Location) → (slice_get (parameters_at t) k ≡ Some y) ⊎ ((n : ℕ) × (slice_get (flat_map parameters_at threads) n ≡ Some y))
    → ((n : ℕ) → slice_get (flat_map parameters_at threads) n ≡ Some y → (name : List ℕ) × (y.home ≡ Some name)) → (name : List ℕ) × (y.home ≡ Some name)
home_by t threads k y (inl f) later =
    let place : Variable → Location = λ v. located (Some t.name) (Parameter v.name) in
    let it = mapped_some place (slice_get t.parameters k) y (sym (slice_mapped place t.parameters k) ∙ f) in
    (t.name, sym (ap (λ (l : Location). l.home) it.2))
home_by t threads k y (inr f) later = later f.0 f.1

-- a parameter of an instance of a thread program is no parameter of the program
places_home : (threads : List ThreadInstance) (k : ℕ) (y : Location) → slice_get (flat_map parameters_at threads) k ≡ Some y → (name : List ℕ) × (y.home ≡ Some name)
places_home [] k y e = absurd cc
places_home (t ∷ threads) k y e = home_by t threads k y (slice_split (parameters_at t) (flat_map parameters_at threads) k y e) (λ n f. places_home threads n y f)

-- ---- the whole

module _ (values : EachValueHasType) (p : UnitTree) (tables : TableRows) (given : List Value) (typed : IsTypedUnit p) where
  abbrev kept : Storage
  kept = opening_of p tables given

  abbrev data_open : ProgramData
  data_open = opening_data (program_code p) given (opening_tables p tables) (length (parameter_locations p))

  hash_opens : (at : Location) (n : ℕ) → number_of_location (hash_locations p) at ≡ Some n → slice_get (opening_hashes (code_slots p) (hash_parts p) (opening_tables p tables)) n ≡ Some (items_held (kept at))
  hash_opens at n e =
      let test : Location → Bool = λ l. is_same_location at l in
      let place = place_of_number test hashes_of_home (items_of_home p tables) (λ u. mapped_lengths (λ (h : DeclaredHash). object_at u.home h.name) (λ (h : DeclaredHash). first_items h h.loaded tables) u.objects.hashes) (homes_of p) n
      (homes_apart p typed) (homes_typed p typed) (ap (λ l. number_of_first test l) (sym (hash_locations_by_home p)) ∙ e) in
      let u = place.unit in
      let it = opens_at tables at u.home u.objects.hashes place.number place.numbered in
      let passes = number_passes test (hashes_of_home u) place.number place.numbered in
      let object : slice_get (hashes_of_home u) place.number ≡ Some (object_at u.home it.hash.name) =
      slice_mapped (λ (h : DeclaredHash). object_at u.home h.name) u.objects.hashes place.number ∙ ap (λ o. option_map (λ (h : DeclaredHash). object_at u.home h.name) o) it.listed in
      let where_is : at ≡ object_at u.home it.hash.name = location_equal at passes.0 passes.2 ∙ same_some passes.0 (object_at u.home it.hash.name) (sym passes.1 ∙ object) in
      let home : at.home ≡ u.home = ap (λ (l : Location). l.home) where_is in
      let all : without_values p tables at ≡ Items (first_items it.hash it.hash.loaded tables) =
      ap (λ (before : Storage). with_objects_opened tables None p.objects before at) (instances_opened tables at p.instances)
      ∙ opened_there tables at (homes_of p) u (Items (first_items it.hash it.hash.loaded tables)) (ap (λ h. home_in (homes_of p) h) home ∙ place.looked) (λ before. it.items (with_iterators_opened u.home u.objects.iterators before)) in
      let alone : (name : List ℕ) → is_same_location at (located None (Parameter name)) ≡ false =
      λ name. ap (λ (l : Location). is_same_location l (located None (Parameter name))) where_is ∙ named_apart (is_same_home u.home None) in
      ap (λ l. slice_get l n) (hashes_open p tables values typed) ∙ place.there ∙ slice_mapped (λ (h : DeclaredHash). first_items h h.loaded tables) u.objects.hashes place.number
      ∙ ap (λ o. option_map (λ (h : DeclaredHash). first_items h h.loaded tables) o) it.listed
      ∙ ap (λ c. Some (items_held c)) (sym (parameters_leave p.parameters given (without_values p tables) at alone ∙ all))

  iterator_opens : (at : Location) (n : ℕ) → number_of_location (iterator_locations p) at ≡ Some n → slice_get (map (λ (h : ℕ). none_yet) (iterator_parts p)) n ≡ Some (position_held (kept at))
  iterator_opens at n e =
      let inside : n < length (iterator_parts p) = subst (λ m. n < m) (iterator_count p) (number_inside (λ other. is_same_location at other) (iterator_locations p) n e) in
      let it = slice_below (iterator_parts p) n inside in
      slice_mapped (λ (h : ℕ). none_yet) (iterator_parts p) n ∙ ap (λ o. option_map (λ (h : ℕ). none_yet) o) it.1
      ∙ ap Some (sym (parameters_nowhere p.parameters given (without_values p tables) at (nowhere p tables at)))

  parameter_opens : (at : Location) (n : ℕ) → number_of_location (parameter_locations p) at ≡ Some n → slice_get (replicate (length (parameter_locations p)) Null) n ≡ Some (held (kept at))
  parameter_opens at n e =
      let passes = number_passes (λ other. is_same_location at other) (parameter_locations p) n e in
      let it = places_home (filter (λ (t : ThreadInstance). bytes_eq t.name (stage_instance p.reading)) p.threads) n passes.0 passes.1 in
      let home : at.home ≡ Some it.0 = ap (λ (l : Location). l.home) (location_equal at passes.0 passes.2) ∙ it.1 in
      let alone : (name : List ℕ) → is_same_location at (located None (Parameter name)) ≡ false =
      λ name. no_home (is_same_home at.home None) (is_same_global at.global (Parameter name)) (ap (λ h. is_same_home h None) home) in
      replicated Null (length (parameter_locations p)) n (number_inside (λ other. is_same_location at other) (parameter_locations p) n e)
      ∙ ap Some (sym (nothing_held p tables at)) ∙ ap (λ c. Some (held c)) (sym (parameters_leave p.parameters given (without_values p tables) at alone))

  slot_opens : SlotsHold p (with_values_in (map (λ (q : Variable). slot_of_global p None (Parameter q.name)) p.parameters) given (replicate (length (code_slots p)) Null)) kept
  slot_opens = values_hold p p.parameters given (replicate (length (code_slots p)) Null) (without_values p tables) (slots_open p values tables) (parameters_placed p typed)

  cell_opens : (at : Location) (c : CodeCell) → CellFrom (number_of_location (slot_locations p) at) (number_of_location (hash_locations p) at) (number_of_location (iterator_locations p) at) (number_of_location (parameter_locations p) at) c
      → CellHas c (kept at) (data_cells data_open)
  cell_opens at (SlotCell n) e = slot_opens at n e
  cell_opens at (LocalCell n) e = absurd e
  cell_opens at (HashCell n) e = hash_opens at n e
  cell_opens at (IteratorCell n) e = iterator_opens at n e
  cell_opens at (ParameterCell n) e = parameter_opens at n e

  program_opens : HoldsProgram p kept data_open
  program_opens = record {
    globals = λ at c e.
        cell_opens at c (cell_from (number_of_location (slot_locations p) at) (number_of_location (hash_locations p) at) (number_of_location (iterator_locations p) at) (number_of_location (parameter_locations p) at) c e);
    own = λ n from less.
        still_there (zip (map (λ (q : Variable). slot_of_global p None (Parameter q.name)) p.parameters) given) (replicate (length (code_slots p)) Null) n Null (replicated Null (length (code_slots p)) n less);
  }

pub typed_programs_open_alike : EachValueHasType → TypedProgramsOpenAlike
typed_programs_open_alike values p tables given typed = program_opens values p tables given typed
