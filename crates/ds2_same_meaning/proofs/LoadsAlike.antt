-- The loads of a typed program's code are those of the program, and each sets what the program's load sets.
use Rattle.std.proofs.Common.{◌≡◌, ℕ, zero, suc, ◌+◌, Bool, true, false, not, ◌&&◌, ◌||◌, cond, bytes_eq, ◌==◌, List, [], ◌∷◌, ◌++◌, map, drop, slice_get, Option, Some, None, IsTrue, refl, sym, ap, ◌∙◌, add-one, arith, if◌then◌else◌}
use Rattle.std.specs.Option.{option_map, option_map_or}
use Rattle.std.proofs.lemmas.Bool.{eq-eqb, eqb-true}
use Rattle.std.proofs.lemmas.Slice.Eq.{bytes_eq-Decides}
use Rattle.ds2_value.specs.Row.{Row, Columns}
use Rattle.ds2_value.specs.Schema.{has_column, distinct_names, types_in_bounds}
use Rattle.ds2_value.specs.Value.{or_null}
use Rattle.ds2_value.specs.declared.schema.Column.{Column}
use Rattle.ds2_value.specs.declared.ty.Ty.{Ty}
use Rattle.ds2_value.specs.declared.value.Value.{Value}
use Rattle.ds2_value.specs.declared.value.Value.TheVariants.{Null}
use Rattle.ds2_table.specs.Loads.{Load, set_loads, merge_loads}
use Rattle.ds2_table.specs.Table.{Contents}
use Rattle.ds2_reading.specs.declared.reading.ByKey.{ByKey}
use Rattle.ds2_reading.specs.ReadingKeys.{directions_of, column_of_slot, columns_of_bys, key_in_columns, keys_in_columns, keys_of_table}
use Rattle.ds2_meaning.specs.declared.location.Global.{Global}
use Rattle.ds2_meaning.specs.declared.location.Global.TheVariants.{Named, First, Last, Present}
use Rattle.ds2_meaning.specs.declared.readings.ByVariable.{ByVariable}
use Rattle.ds2_meaning.specs.declared.readings.Input.{Input}
use Rattle.ds2_meaning.specs.declared.readings.Reading.{Reading}
use Rattle.ds2_meaning.specs.declared.readings.Reading.TheVariants as read
use Rattle.ds2_meaning.specs.IsTyped.{type_in, AreVariables, AreByColumns, AreTypedInputs, IsTypedReading}
use Rattle.ds2_meaning.specs.ProgramTree.{UnitTree, data_vector}
use Rattle.ds2_meaning.specs.Reading.{TableRows, inputs_of, input_tables, value_under, key_in, keys_in, descending_of, keyed_loads, nulls, all_nulls, settings_of_row, row_numbered, tables_settings, present_setting, present_settings, by_settings, settings_in, settings_of}
use Rattle.ds2_code.specs.Desk.{SlotSettings, with_slot_settings}
use Rattle.ds2_program_code.specs.CodeParts.{slot_of_global, code_slots, input_part, by_variable_part, reading_part}
use Rattle.ds2_program_code.specs.LoadSettings.{slot_settings}
use Rattle.ds2_code_answer.specs.CodeLoads.{reads_numbered, by_key_of_part, reading_over, reading_numbered, retains_columns, slot_flag, column_nulls, table_nulls, row_of_table, settings_of_read, read_settings, in_flag_setting, in_flag_settings, by_flag_settings, first_flag_of, last_flag_of, load_settings, keyed_loads_over}
use Rattle.ds2_code_answer.specs.CodeTables.{rows_of_each}
use Rattle.ds2_same_meaning.proofs.RowSlots.{settings_append, slots_differ, rows_alike}

-- ---- lists

pub map_append : {A B : Type 0} (f : A → B) (xs ys : List A) → map f (xs ++ ys) ≡ map f xs ++ map f ys
map_append f [] ys = refl
map_append f (x ∷ xs) ys = ap (λ z. f x ∷ z) (map_append f xs ys)

five_mapped : {A B : Type 0} (f : A → B) (a b c d e : List A) → map f ((((a ++ b) ++ c) ++ d) ++ e) ≡ (((map f a ++ map f b) ++ map f c) ++ map f d) ++ map f e
five_mapped f a b c d e =
    map_append f (((a ++ b) ++ c) ++ d) e
    ∙ ap (λ z. z ++ map f e)
    (map_append f ((a ++ b) ++ c) d ∙ ap (λ z. z ++ map f d) (map_append f (a ++ b) c ∙ ap (λ z. z ++ map f c) (map_append f a b)))

five_set : (a b c d e : SlotSettings) (s : Row) → with_slot_settings ((((a ++ b) ++ c) ++ d) ++ e) s ≡ with_slot_settings e (with_slot_settings d (with_slot_settings c (with_slot_settings b (with_slot_settings a s))))
five_set a b c d e s =
    settings_append (((a ++ b) ++ c) ++ d) e s
    ∙ ap (λ z. with_slot_settings e z)
    (settings_append ((a ++ b) ++ c) d s ∙ ap (λ z. with_slot_settings d z) (settings_append (a ++ b) c s ∙ ap (λ z. with_slot_settings c z) (settings_append a b s)))

-- the first of the tables from a number on
pub record StandsFirst (contents : List Contents) (n : ℕ) (rows : List Row) (more : List (List Row)) : Type 0 where
  pub table : Contents
  pub here : slice_get contents n ≡ Some table
  pub has : table.rows ≡ rows
  pub behind : rows_of_each (drop (n + 1) contents) ≡ more

first_behind : (contents : List Contents) (n : ℕ) (rows : List Row) (more : List (List Row)) → rows_of_each (drop n contents) ≡ rows ∷ more
    → (t : Contents) × (slice_get contents n ≡ Some t) × (t.rows ≡ rows) × (rows_of_each (drop (suc n) contents) ≡ more)
first_behind [] zero rows more h = absurd cc
first_behind [] (suc n) rows more h = absurd cc
first_behind (t ∷ contents) zero rows more h = (t, refl, cc, cc)
first_behind (t ∷ contents) (suc n) rows more h = first_behind contents n rows more h

pub stands_first : (contents : List Contents) (n : ℕ) (rows : List Row) (more : List (List Row)) → rows_of_each (drop n contents) ≡ rows ∷ more → StandsFirst contents n rows more
stands_first contents n rows more h =
    let it = first_behind contents n rows more h in
    record { table = it.0; here = it.1; has = it.2; behind = ap (λ k. rows_of_each (drop k contents)) (add-one n) ∙ it.3 }

module _ (p : UnitTree) where
  abbrev slot : List ℕ → ℕ
  slot name = slot_of_global p None (Named name)

  abbrev slots_of : Columns → List ℕ
  slots_of columns = map (λ (c : Column). slot_of_global p None (Named c.name)) columns

  abbrev set : Global × Value → ℕ × Value
  set s = (slot_of_global p None s.0, s.1)

  -- ---- nulls

  columns_null : (columns : Columns) → column_nulls (slots_of columns) ≡ slot_settings p (nulls columns)
  columns_null [] = refl
  columns_null (c ∷ columns) = ap (λ z. (slot c.name, Null) ∷ z) (columns_null columns)

  tables_null : (n : ℕ) (inputs : List Input) → table_nulls (reads_numbered n (map (input_part p) inputs)) ≡ slot_settings p (all_nulls inputs)
  tables_null n [] = refl
  tables_null n (input ∷ inputs) =
      ap (λ z. z ++ table_nulls (reads_numbered (n + 1) (map (input_part p) inputs))) (columns_null input.columns)
      ∙ ap (λ z. slot_settings p (nulls input.columns) ++ z) (tables_null (n + 1) inputs)
      ∙ sym (map_append set (nulls input.columns) (all_nulls inputs))

  nulls_where : (b : Bool) (n : ℕ) (inputs : List Input) → (if b then table_nulls (reads_numbered n (map (input_part p) inputs)) else []) ≡ slot_settings p (if b then all_nulls inputs else [])
  nulls_where true n inputs = tables_null n inputs
  nulls_where false n inputs = refl

  -- ---- rows

  row_is : (contents : List Contents) (n : ℕ) (rows : List Row) (more : List (List Row)) (number : Option ℕ) → StandsFirst contents n rows more → row_of_table contents n number ≡ row_numbered rows number
  row_is contents n rows more None it = refl
  row_is contents n rows more (Some k) it =
      ap (λ o. option_map_or (λ (t : Contents). slice_get t.rows k) o None) it.here ∙ ap (λ rs. slice_get rs k) it.has

  one_row : (columns : Columns) (row : Option Row) (slots : Row) → AreVariables (data_vector p) columns → IsTrue (distinct_names columns)
      → with_slot_settings (settings_of_read (code_slots p) (slots_of columns) row) slots ≡ with_slot_settings (slot_settings p (settings_of_row (data_vector p) columns row)) slots
  one_row columns None slots typed distinct = refl
  one_row columns (Some row) slots typed distinct = rows_alike p columns row slots typed distinct

  both_rules : (a b : Bool) → (a && b) ≡ true → a ≡ true
  both_rules true b h = refl
  both_rules false b h = absurd cc

  reads_alike : (tables : TableRows) (contents : List Contents) (bys : List ByVariable) (n : ℕ) (inputs : List Input) (numbers : List (Option ℕ)) (slots : Row) → AreTypedInputs (data_vector p) bys inputs
      → rows_of_each (drop n contents) ≡ input_tables tables inputs
      → with_slot_settings (read_settings (code_slots p) contents (reads_numbered n (map (input_part p) inputs)) numbers) slots
      ≡ with_slot_settings (slot_settings p (tables_settings (data_vector p) inputs (input_tables tables inputs) numbers)) slots
  reads_alike tables contents bys n [] numbers slots typed h = refl
  reads_alike tables contents bys n (input ∷ inputs) [] slots typed h = refl
  reads_alike tables contents bys n (input ∷ inputs) (number ∷ numbers) slots typed h =
      let it = stands_first contents n (tables input.table) (input_tables tables inputs) h in
      let own = settings_of_read (code_slots p) (slots_of input.columns) (row_of_table contents n number) in
      let rest = read_settings (code_slots p) contents (reads_numbered (n + 1) (map (input_part p) inputs)) numbers in
      let own_meant = settings_of_row (data_vector p) input.columns (row_numbered (tables input.table) number) in
      let rest_meant = tables_settings (data_vector p) inputs (input_tables tables inputs) numbers in
      let distinct : IsTrue (distinct_names input.columns) = both_rules (distinct_names input.columns) (types_in_bounds input.columns) typed.0 in
      settings_append own rest slots
      ∙ ap (λ (z : Row). with_slot_settings rest z)
      (ap (λ (o : Option Row). with_slot_settings (settings_of_read (code_slots p) (slots_of input.columns) o) slots) (row_is contents n (tables input.table) (input_tables tables inputs) number it)
      ∙ one_row input.columns (row_numbered (tables input.table) number) slots typed.1 distinct)
      ∙ reads_alike tables contents bys (n + 1) inputs numbers (with_slot_settings (slot_settings p own_meant) slots) typed.3 it.behind
      ∙ sym (settings_append (slot_settings p own_meant) (slot_settings p rest_meant) slots)
      ∙ ap (λ xs. with_slot_settings xs slots) (sym (map_append set own_meant rest_meant))

  -- ---- flags

  in_flag_alike : (present : Option (List ℕ)) (b : Bool) → in_flag_setting (option_map (λ (name : List ℕ). slot_of_global p None (Present name)) present) b ≡ slot_settings p (present_setting present b)
  in_flag_alike None b = refl
  in_flag_alike (Some name) b = refl

  in_flags_alike : (n : ℕ) (inputs : List Input) (present : List Bool) → in_flag_settings (reads_numbered n (map (input_part p) inputs)) present ≡ slot_settings p (present_settings inputs present)
  in_flags_alike n [] present = refl
  in_flags_alike n (input ∷ inputs) [] = refl
  in_flags_alike n (input ∷ inputs) (b ∷ present) =
      ap (λ z. z ++ in_flag_settings (reads_numbered (n + 1) (map (input_part p) inputs)) present) (in_flag_alike input.present b)
      ∙ ap (λ z. slot_settings p (present_setting input.present b) ++ z) (in_flags_alike (n + 1) inputs present)
      ∙ sym (map_append set (present_setting input.present b) (present_settings inputs present))

  abbrev keys_of : List ByVariable → List ByKey
  keys_of bys = map by_key_of_part (map (by_variable_part p) bys)

  firsts_alike : (bys : List ByVariable) (flags : List Bool) → by_flag_settings first_flag_of (keys_of bys) flags ≡ slot_settings p (by_settings First bys flags)
  firsts_alike [] flags = refl
  firsts_alike (by ∷ bys) [] = refl
  firsts_alike (by ∷ bys) (flag ∷ flags) = ap (λ z. (slot_of_global p None (First by.name), slot_flag flag) ∷ z) (firsts_alike bys flags)

  lasts_alike : (bys : List ByVariable) (flags : List Bool) → by_flag_settings last_flag_of (keys_of bys) flags ≡ slot_settings p (by_settings Last bys flags)
  lasts_alike [] flags = refl
  lasts_alike (by ∷ bys) [] = refl
  lasts_alike (by ∷ bys) (flag ∷ flags) = ap (λ z. (slot_of_global p None (Last by.name), slot_flag flag) ∷ z) (lasts_alike bys flags)

  -- ---- one load

  statement_load : (tables : TableRows) (contents : List Contents) (n : ℕ) (inputs : List Input) (bys : List ByVariable) (retains : Bool) (load : Load) (slots : Row) → AreTypedInputs (data_vector p) bys inputs
      → rows_of_each (drop n contents) ≡ input_tables tables inputs
      → with_slot_settings (load_settings (code_slots p) (reading_over n (map (input_part p) inputs) (map (by_variable_part p) bys)) retains contents load) slots
      ≡ with_slot_settings (slot_settings p (settings_in (data_vector p) inputs bys retains (input_tables tables inputs) load)) slots
  statement_load tables contents n inputs bys retains load slots typed h =
      let b = not retains || load.is_fresh in
      let reads = reads_numbered n (map (input_part p) inputs) in
      let rows = input_tables tables inputs in
      let empty = (if b then table_nulls reads else []) in
      let own = read_settings (code_slots p) contents reads load.rows in
      let present = in_flag_settings reads load.present in
      let first = by_flag_settings first_flag_of (keys_of bys) load.first in
      let last = by_flag_settings last_flag_of (keys_of bys) load.last in
      let empty_meant = (if b then all_nulls inputs else []) in
      let own_meant = tables_settings (data_vector p) inputs rows load.rows in
      let present_meant = present_settings inputs load.present in
      let first_meant = by_settings First bys load.first in
      let last_meant = by_settings Last bys load.last in
      let begun = with_slot_settings (slot_settings p empty_meant) slots in
      let read_so = with_slot_settings (slot_settings p own_meant) begun in
      let flagged = with_slot_settings (slot_settings p present_meant) read_so in
      five_set empty own present first last slots
      ∙ ap (λ xs. with_slot_settings last (with_slot_settings first (with_slot_settings present (with_slot_settings own (with_slot_settings xs slots))))) (nulls_where b n inputs)
      ∙ ap (λ (z : Row). with_slot_settings last (with_slot_settings first (with_slot_settings present z))) (reads_alike tables contents bys n inputs load.rows begun typed h)
      ∙ ap (λ xs. with_slot_settings last (with_slot_settings first (with_slot_settings xs read_so))) (in_flags_alike n inputs load.present)
      ∙ ap (λ xs. with_slot_settings last (with_slot_settings xs flagged)) (firsts_alike bys load.first)
      ∙ ap (λ xs. with_slot_settings xs (with_slot_settings (slot_settings p first_meant) flagged)) (lasts_alike bys load.last)
      ∙ sym (five_set (slot_settings p empty_meant) (slot_settings p own_meant) (slot_settings p present_meant) (slot_settings p first_meant) (slot_settings p last_meant) slots)
      ∙ ap (λ xs. with_slot_settings xs slots) (sym (five_mapped set empty_meant own_meant present_meant first_meant last_meant))

  -- ---- keys

  no_value : (row : Row) (k : ℕ) → row ≡ [] → slice_get row k ≡ None
  no_value [] zero e = refl
  no_value [] (suc k) e = refl
  no_value (v ∷ row) k e = absurd cc

  equal_names : (a b : List ℕ) → bytes_eq a b ≡ true → a ≡ b
  equal_names a b h = (bytes_eq-Decides a b).0 h

  -- the value of a row in the first of these columns with the slot of a name, or in one behind them
  value_by : (b s : Bool) (k : ℕ) (v : Value) (row : Row) (rest : Value) → s ≡ b → (b ≡ false → or_null (slice_get row k) ≡ rest)
      → or_null (slice_get (v ∷ row) (cond (not s) (1 + k) 0)) ≡ (if b then v else rest)
  value_by true true k v row rest e later = refl
  value_by true false k v row rest e later = absurd cc
  value_by false true k v row rest e later = absurd cc
  value_by false false k v row rest e later = let one : 1 + k ≡ suc k = omega arith in ap (λ n. or_null (slice_get (v ∷ row) n)) one ∙ later refl

  behind_other : (b x : Bool) → b ≡ false → (b || x) ≡ true → x ≡ true
  behind_other true x e h = absurd cc
  behind_other false x e h = h

  slot_test : (a name : List ℕ) (t ty : Ty) (b : Bool) → type_in (data_vector p) a ≡ Some t → type_in (data_vector p) name ≡ Some ty → bytes_eq a name ≡ b → (slot a == slot name) ≡ b
  slot_test a name t ty true e f h = eq-eqb (slot a) (slot name) (ap slot (equal_names a name h))
  slot_test a name t ty false e f h = otherwise (slot a == slot name) refl
    where
      otherwise : (s : Bool) → (slot a == slot name) ≡ s → (slot a == slot name) ≡ false
      otherwise false is = is
      otherwise true is = absurd (slots_differ p a name t ty e f h (eqb-true (slot a) (slot name) is))

  value_at : (columns : Columns) (row : Row) (name : List ℕ) (ty : Ty) → type_in (data_vector p) name ≡ Some ty → AreVariables (data_vector p) columns → IsTrue (has_column name columns)
      → or_null (slice_get row (column_of_slot (slots_of columns) (slot name))) ≡ value_under name columns row
  value_at [] row name ty e typed there = absurd cc
  value_at (c ∷ columns) [] name ty e typed there = ap or_null (no_value [] (column_of_slot (slots_of (c ∷ columns)) (slot name)) refl)
  value_at (c ∷ columns) (v ∷ row) name ty e typed there =
      value_by (bytes_eq c.name name) (slot c.name == slot name) (column_of_slot (slots_of columns) (slot name)) v row (value_under name columns row)
      (slot_test c.name name typed.0.0 ty (bytes_eq c.name name) typed.0.1 e refl)
      (λ other. value_at columns row name ty e typed.1 (behind_other (bytes_eq c.name name) (has_column name columns) other there))

  -- the type of the variable of a column
  column_typed : (columns : Columns) (name : List ℕ) → AreVariables (data_vector p) columns → IsTrue (has_column name columns) → (ty : Ty) × (type_in (data_vector p) name ≡ Some ty)
  column_typed [] name typed there = absurd cc
  column_typed (c ∷ columns) name typed there =
      here (bytes_eq c.name name) refl (λ other. column_typed columns name typed.1 (behind_other (bytes_eq c.name name) (has_column name columns) other there))
    where
      here : (b : Bool) → bytes_eq c.name name ≡ b → (bytes_eq c.name name ≡ false → (ty : Ty) × (type_in (data_vector p) name ≡ Some ty)) → (ty : Ty) × (type_in (data_vector p) name ≡ Some ty)
      here true is later = (typed.0.0, ap (λ z. type_in (data_vector p) z) (sym (equal_names c.name name is)) ∙ typed.0.1)
      here false is later = later is

  key_alike : (columns : Columns) (row : Row) (bys : List ByVariable) → AreVariables (data_vector p) columns → AreByColumns bys columns
      → key_in_columns (columns_of_bys (slots_of columns) (keys_of bys)) row ≡ key_in bys columns row
  key_alike columns row [] typed there = refl
  key_alike columns row (by ∷ bys) typed there =
      let ty = column_typed columns by.name typed there.0 in
      ap (λ v. v ∷ key_in_columns (columns_of_bys (slots_of columns) (keys_of bys)) row) (value_at columns row by.name ty.0 ty.1 typed there.0)
      ∙ ap (λ z. value_under by.name columns row ∷ z) (key_alike columns row bys typed there.1)

  keys_of_rows_alike : (columns : Columns) (rows : List Row) (bys : List ByVariable) → AreVariables (data_vector p) columns → AreByColumns bys columns
      → keys_in_columns (columns_of_bys (slots_of columns) (keys_of bys)) rows ≡ map (key_in bys columns) rows
  keys_of_rows_alike columns [] bys typed there = refl
  keys_of_rows_alike columns (row ∷ rows) bys typed there =
      ap (λ z. z ∷ keys_in_columns (columns_of_bys (slots_of columns) (keys_of bys)) rows) (key_alike columns row bys typed there)
      ∙ ap (λ z. key_in bys columns row ∷ z) (keys_of_rows_alike columns rows bys typed there)

  keys_alike : (tables : TableRows) (contents : List Contents) (bys : List ByVariable) (n : ℕ) (inputs : List Input) → AreTypedInputs (data_vector p) bys inputs
      → rows_of_each (drop n contents) ≡ input_tables tables inputs
      → map (keys_of_table contents (keys_of bys)) (reads_numbered n (map (input_part p) inputs)) ≡ keys_in bys inputs (input_tables tables inputs)
  keys_alike tables contents bys n [] typed h = refl
  keys_alike tables contents bys n (input ∷ inputs) typed h =
      let it = stands_first contents n (tables input.table) (input_tables tables inputs) h in
      let columns = columns_of_bys (slots_of input.columns) (keys_of bys) in
      let later = map (keys_of_table contents (keys_of bys)) (reads_numbered (n + 1) (map (input_part p) inputs)) in
      ap (λ (o : Option Contents). option_map_or (λ (t : Contents). keys_in_columns columns t.rows) o [] ∷ later) it.here
      ∙ ap (λ rows. keys_in_columns columns rows ∷ later) it.has
      ∙ ap (λ z. z ∷ later) (keys_of_rows_alike input.columns (tables input.table) bys typed.1 typed.2)
      ∙ ap (λ z. map (key_in bys input.columns) (tables input.table) ∷ z) (keys_alike tables contents bys (n + 1) inputs typed.3 it.behind)

  -- ---- the loads

  directions_alike : (bys : List ByVariable) → directions_of (keys_of bys) ≡ descending_of bys
  directions_alike [] = refl
  directions_alike (by ∷ bys) = ap (λ z. by.is_descending ∷ z) (directions_alike bys)

  module _ (tables : TableRows) (contents : List Contents) (n : ℕ) where
    pub loads_are : (r : Reading) → IsTypedReading (data_vector p) r → rows_of_each (drop n contents) ≡ input_tables tables (inputs_of r)
        → keyed_loads_over n (reading_part p r) contents ≡ keyed_loads r (input_tables tables (inputs_of r))
    loads_are read.Nothing typed h = refl
    loads_are read.Once typed h = refl
    loads_are (read.Set inputs bys) typed h =
        ap (λ ds. set_loads ds (map (keys_of_table contents (keys_of bys)) (reads_numbered n (map (input_part p) inputs)))) (directions_alike bys)
        ∙ ap (λ ks. set_loads (descending_of bys) ks) (keys_alike tables contents bys n inputs typed.2 h)
    loads_are (read.Merge inputs bys retains) typed h =
        ap (λ ds. merge_loads ds (map (keys_of_table contents (keys_of bys)) (reads_numbered n (map (input_part p) inputs)))) (directions_alike bys)
        ∙ ap (λ ks. merge_loads (descending_of bys) ks) (keys_alike tables contents bys n inputs typed.2 h)
    loads_are (read.From instance workers columns) typed h = refl

    pub load_sets : (r : Reading) (load : Load) (slots : Row) → IsTypedReading (data_vector p) r → rows_of_each (drop n contents) ≡ input_tables tables (inputs_of r)
        → with_slot_settings (load_settings (code_slots p) (reading_numbered n (reading_part p r)) (retains_columns (reading_part p r)) contents load) slots
        ≡ with_slot_settings (slot_settings p (settings_of (data_vector p) r (input_tables tables (inputs_of r)) load)) slots
    load_sets read.Nothing load slots typed h = refl
    load_sets read.Once load slots typed h = refl
    load_sets (read.Set inputs bys) load slots typed h = statement_load tables contents n inputs bys false load slots typed.2 h
    load_sets (read.Merge inputs bys retains) load slots typed h = statement_load tables contents n inputs bys retains load slots typed.2 h
    load_sets (read.From instance workers columns) load slots typed h = refl
