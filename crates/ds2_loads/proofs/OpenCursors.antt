-- Places in the loads of a program, before the first load.
use Rattle.std.proofs.Common.{◌≡◌, ℕ, Bool, false, List, [], ◌∷◌, ◌++◌, length, map, take, drop, Option, Some, None, refl, sym, ap, ◌∙◌, subst, append_assoc, arith}
use Rattle.std.specs.Prelude.{slice_get}
use Rattle.std.specs.Option.{option_map, option_map_or}
use Rattle.std.proofs.lemmas.List.{map-append, append-nil, length-map}
use Rattle.ds2_value.specs.Row.{Row}
use Rattle.ds2_value.specs.Value.{or_null}
use Rattle.ds2_table.specs.LoadLaws.{one_after_another, AreKeys, HaveTableKeys}
use Rattle.ds2_table.specs.Loads.{Load, KeyedLoad, keyed_load, groups}
use Rattle.ds2_table.specs.Table.{Contents}
use Rattle.ds2_reading.specs.CursorState.{Cursor, cursor_at_start, next_load_of, behind_next}
use Rattle.ds2_reading.specs.LoadMeaning.{load_meaning}
use Rattle.ds2_reading.specs.ReadingKeys.{directions_of, column_of_slot, columns_of_bys, key_in_columns, keys_in_columns, keys_of_table}
use Rattle.ds2_reading.specs.declared.reading.ByKey.{ByKey}
use Rattle.ds2_reading.specs.declared.reading.ReadTable.{ReadTable}
use Rattle.ds2_reading.specs.declared.load.Load.{Load as LoadInCode}
use Rattle.ds2_reading.specs.declared.reading.Reading.{Reading}
use Rattle.ds2_code.specs.declared.parts.ProgramParts.{ProgramParts}
use Rattle.ds2_code.specs.declared.parts.Slot.{Slot}
use Rattle.ds2_code.specs.Desk.{SlotSettings}
use Rattle.ds2_code_answer.specs.CodeLoads.{load_settings, code_reading, retains_columns}
use Rattle.ds2_loads.specs.declared.table_load.TableLoad.{TableLoad}
use Rattle.ds2_loads.specs.StatementSource.{settings_of_statement, settings_left}
use Rattle.ds2_loads.proofs.LoadsLeft.{first_left, none_left}
use Rattle.ds2_loads.specs.Grains.{IsGrainOf}
use Rattle.ds2_loads.specs.GroupedLoads.{settings_of_code}
use Rattle.ds2_loads.specs.LoadCursors.{settings_of_numbers, settings_of_keyed, in_parts, settings_in_parts, IsCursorOver, IsOpenCursor}
use Rattle.ds2_loads.specs.declared.kept_loads.KeptLoads.{KeptLoads}
use Rattle.ds2_loads.specs.declared.load_cursor.LoadCursor.TheVariants as cursor

-- ---- groups divide the loads

all_of_key : (columns : List ℕ) (bys : List ByKey) (slots : List ℕ) (row : Row) → columns ≡ columns_of_bys slots bys → length (key_in_columns columns row) ≡ length (directions_of bys)
all_of_key columns bys slots row is =
    length-map columns (λ column. or_null (slice_get row column))
    ∙ ap length is
    ∙ length-map bys (λ (by : ByKey). column_of_slot slots by.slot)
    ∙ sym (length-map bys (λ (by : ByKey). by.is_descending))

keys_are : (bys : List ByKey) (slots : List ℕ) (rows : List Row) → AreKeys (directions_of bys) (keys_in_columns (columns_of_bys slots bys) rows)
keys_are bys slots [] = tt
keys_are bys slots (row ∷ rows) = (all_of_key (columns_of_bys slots bys) bys slots row refl, keys_are bys slots rows)

keys_had : (bys : List ByKey) (slots : List ℕ) (o : Option Contents) → AreKeys (directions_of bys) (option_map_or (λ (t : Contents). keys_in_columns (columns_of_bys slots bys) t.rows) o [])
keys_had bys slots None = tt
keys_had bys slots (Some t) = keys_are bys slots t.rows

pub have_table_keys : (tables : List Contents) (bys : List ByKey) (reads : List ReadTable) → HaveTableKeys (directions_of bys) (map (keys_of_table tables bys) reads)
have_table_keys tables bys [] = tt
have_table_keys tables bys (read ∷ reads) = (keys_had bys read.slots (slice_get tables read.table), have_table_keys tables bys reads)

take_front : {A : Type 0} (xs ys : List A) → take (length xs) (xs ++ ys) ≡ xs
take_front [] ys = refl
take_front (x ∷ xs) ys = ap (λ z. x ∷ z) (take_front xs ys)

drop_front : {A : Type 0} (xs ys : List A) → drop (length xs) (xs ++ ys) ≡ ys
drop_front [] ys = refl
drop_front (x ∷ xs) ys = drop_front xs ys

module _ {A : Type 0} (f : KeyedLoad → A) where
  parts_are : (gs : List (List KeyedLoad)) → in_parts (map (λ (group : List KeyedLoad). length group) gs) (map f (one_after_another gs)) ≡ map (map f) gs
  parts_are [] = refl
  parts_are (group ∷ gs) =
      let rest = map f (one_after_another gs) in
      let both : map f (group ++ one_after_another gs) ≡ map f group ++ rest = map-append f group (one_after_another gs) in
      let len : length group ≡ length (map f group) = sym (length-map group f) in
      ap (λ xs. take (length group) xs ∷ in_parts (map (λ (g : List KeyedLoad). length g) gs) (drop (length group) xs)) both
      ∙ ap (λ n. take n (map f group ++ rest) ∷ in_parts (map (λ (g : List KeyedLoad). length g) gs) (drop n (map f group ++ rest))) len
      ∙ ap (λ xs. xs ∷ in_parts (map (λ (g : List KeyedLoad). length g) gs) (drop (length (map f group)) (map f group ++ rest))) (take_front (map f group) rest)
      ∙ ap (λ xs. map f group ∷ in_parts (map (λ (g : List KeyedLoad). length g) gs) xs) (drop_front (map f group) rest)
      ∙ ap (λ xs. map f group ∷ xs) (parts_are gs)

-- ---- cursors

module _ (statement : Reading) (grain : ℕ) (loads : List KeyedLoad) (c : Cursor) (is : c ≡ cursor_at_start (length statement.tables) (length statement.bys) grain loads)
    (divided : one_after_another (groups grain loads) ≡ loads) where
  in_groups : (at : TableLoad) → settings_in_parts at c ≡ map (map (settings_of_keyed at)) (groups grain loads)
  in_groups at =
      let lengths = map (λ (group : List KeyedLoad). length group) (groups grain loads) in
      ap (settings_in_parts at) is
      ∙ ap (λ (xs : List KeyedLoad). in_parts lengths (map (settings_of_keyed at) xs)) (sym divided)
      ∙ parts_are (settings_of_keyed at) (groups grain loads)

  pub set_opened : IsOpenCursor statement grain loads (cursor.Set c)
  set_opened = record {
    over = let P : Cursor → Type 0 = λ x. IsCursorOver statement (cursor.Set x) in subst P (sym is) (refl, refl, omega arith);
    left = λ at same. ap (settings_left at) is;
    groups = λ at same. in_groups at;
  }

  pub merge_opened : IsOpenCursor statement grain loads (cursor.Merge c)
  merge_opened = record {
    over = let P : Cursor → Type 0 = λ x. IsCursorOver statement (cursor.Merge x) in subst P (sym is) (refl, refl, omega arith);
    left = λ at same. ap (settings_left at) is;
    groups = λ at same. in_groups at;
  }

-- ---- kept loads

twice : {A B C : Type 0} (f : B → C) (g : A → B) (xs : List A) → map f (map g xs) ≡ map (λ x. f (g x)) xs
twice f g [] = refl
twice f g (x ∷ xs) = ap (λ z. f (g x) ∷ z) (twice f g xs)

module _ (statement : Reading) (loads : List KeyedLoad) (k : KeptLoads)
    (means : map (load_meaning (length statement.tables) (length statement.bys)) k.loads ≡ map (λ (l : KeyedLoad). l.load) loads) where
  all_settings : (at : TableLoad) → at.reading.now ≡ statement → map (settings_of_numbers at) k.loads ≡ map (settings_of_keyed at) loads
  all_settings at same =
      sym (twice (settings_of_statement at) (load_meaning (length at.reading.now.tables) (length at.reading.now.bys)) k.loads)
      ∙ ap (λ (r : Reading). map (settings_of_statement at) (map (load_meaning (length r.tables) (length r.bys)) k.loads)) same
      ∙ ap (map (settings_of_statement at)) means
      ∙ twice (settings_of_statement at) (λ (l : KeyedLoad). l.load) loads

  alone_settings : (at : TableLoad) → at.reading.now ≡ statement → map (λ (l : LoadInCode). settings_of_numbers at l ∷ []) k.loads ≡ map (map (settings_of_keyed at)) (groups 0 loads)
  alone_settings at same =
      let alone : SlotSettings → List SlotSettings = λ s. s ∷ [] in
      sym (twice alone (settings_of_numbers at) k.loads)
      ∙ ap (map alone) (all_settings at same)
      ∙ twice alone (settings_of_keyed at) loads
      ∙ sym (twice (map (settings_of_keyed at)) (λ (l : KeyedLoad). l ∷ []) loads)

  pub kept_opened : k.given ≡ 0 → IsOpenCursor statement 0 loads (cursor.Kept k)
  kept_opened none = record {
    over = (refl, refl, omega arith);
    left = λ at same. ap (λ n. map (settings_of_numbers at) (drop n k.loads)) none ∙ all_settings at same;
    groups = λ at same. alone_settings at same;
  }

-- a load that reads nothing
pub bare_meaning : (l : LoadInCode) (tables bys : ℕ) → tables ≡ 0 → bys ≡ 0 → l.is_fresh ≡ false → load_meaning tables bys l ≡ (keyed_load [] [] []).load
bare_meaning l tables bys none nor fresh =
    ap (λ n. load_meaning n bys l) none ∙ ap (λ n. load_meaning 0 n l) nor ∙ (λ i. record { rows = []; is_fresh = fresh i; first = []; last = []; present = [] })

-- ---- the loads that a walk has left

module _ (first walk after : Cursor) (tables : walk.tables ≡ first.tables) (bys : walk.bys ≡ first.bys) (left : after ≡ behind_next walk) where
  pub kept_more : (loads : List LoadInCode) (load : LoadInCode) (given : Option LoadInCode) → option_map (load_meaning walk.tables walk.bys) given ≡ next_load_of walk → given ≡ Some load
      → map (load_meaning first.tables first.bys) loads ++ map (λ (l : KeyedLoad). l.load) (drop walk.given walk.loads) ≡ map (λ (l : KeyedLoad). l.load) (drop first.given first.loads)
      → map (load_meaning first.tables first.bys) (loads ++ load ∷ []) ++ map (λ (l : KeyedLoad). l.load) (drop after.given after.loads) ≡ map (λ (l : KeyedLoad). l.load) (drop first.given first.loads)
  kept_more loads load given next is so_far =
      let it = first_left walk.loads walk.given (load_meaning walk.tables walk.bys load) (sym next ∙ ap (option_map (load_meaning walk.tables walk.bys)) is) in
      let front = map (load_meaning first.tables first.bys) loads in
      let rest : Cursor → List Load = λ (x : Cursor). map (λ (l : KeyedLoad). l.load) (drop x.given x.loads) in
      ap (λ (z : List Load). z ++ rest after) (map-append (load_meaning first.tables first.bys) loads (load ∷ []))
      ∙ append_assoc front (load_meaning first.tables first.bys load ∷ []) (rest after)
      ∙ ap (λ (x : Cursor). front ++ load_meaning first.tables first.bys load ∷ rest x) left
      ∙ ap (λ n. front ++ load_meaning n first.bys load ∷ rest (behind_next walk)) (sym tables)
      ∙ ap (λ n. front ++ load_meaning walk.tables n load ∷ rest (behind_next walk)) (sym bys)
      ∙ ap (λ (z : Load). front ++ z ∷ rest (behind_next walk)) (sym it.is)
      ∙ ap (λ (ls : List KeyedLoad). front ++ map (λ (l : KeyedLoad). l.load) ls) (sym it.left)
      ∙ so_far

pub kept_all : (first walk : Cursor) (loads : List LoadInCode) (given : Option LoadInCode) → option_map (load_meaning walk.tables walk.bys) given ≡ next_load_of walk → given ≡ None
    → map (load_meaning first.tables first.bys) loads ++ map (λ (l : KeyedLoad). l.load) (drop walk.given walk.loads) ≡ map (λ (l : KeyedLoad). l.load) (drop first.given first.loads)
    → map (load_meaning first.tables first.bys) loads ≡ map (λ (l : KeyedLoad). l.load) (drop first.given first.loads)
kept_all first walk loads given next is so_far =
    let front = map (load_meaning first.tables first.bys) loads in
    let none = none_left walk.loads walk.given (sym next ∙ ap (option_map (load_meaning walk.tables walk.bys)) is) in
    sym (append-nil front) ∙ ap (λ (ls : List KeyedLoad). front ++ map (λ (l : KeyedLoad). l.load) ls) (sym none) ∙ so_far

pub walked_all : (tables bys : ℕ) (all : List KeyedLoad) (walk : Cursor) (loads : List LoadInCode) → walk ≡ cursor_at_start tables bys 0 all
    → map (load_meaning walk.tables walk.bys) loads ≡ map (λ (l : KeyedLoad). l.load) (drop walk.given walk.loads) → map (load_meaning tables bys) loads ≡ map (λ (l : KeyedLoad). l.load) all
walked_all tables bys all walk loads is kept =
    let P : Cursor → Type 0 = λ x. map (load_meaning x.tables x.bys) loads ≡ map (λ (l : KeyedLoad). l.load) (drop x.given x.loads) in
    subst P is kept

-- ---- a program's loads

abbrev settings_with : List Slot → Reading → Bool → List Contents → KeyedLoad → SlotSettings
settings_with slots statement retains tables load = load_settings slots statement retains tables load.load

module _ (at : TableLoad) (code : ProgramParts) (tables : List Contents) (slots : at.slots.now ≡ code.slots) (statement : at.reading.now ≡ code_reading code)
    (retains : at.retains ≡ retains_columns code.reading) (same : at.tables.now ≡ tables) where
  pub settings_are : (loads : List KeyedLoad) → map (settings_of_keyed at) loads ≡ map (settings_of_code code tables) loads
  settings_are loads = λ i. map (settings_with (slots i) (statement i) (retains i) (same i)) loads

  pub groups_are : (gs : List (List KeyedLoad)) → map (map (settings_of_keyed at)) gs ≡ map (map (settings_of_code code tables)) gs
  groups_are gs = λ i. map (map (settings_with (slots i) (statement i) (retains i) (same i))) gs

-- no BY variable, no grain
pub no_grain : (bys grain : ℕ) → IsGrainOf bys grain → bys ≡ 0 → grain ≡ 0
no_grain bys grain h none = omega (arith, h.within, none)
