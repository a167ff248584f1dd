-- Where a cursor of `merge` stands, from one key to the next.
use Rattle.std.proofs.Common.{◌≡◌, ℕ, zero, suc, ◌+◌, ◌-◌, ◌^◌, ◌<◌, ◌≤◌, true, cond, List, [], ◌∷◌, ◌++◌, length, take, drop, refl, sym, ap, ◌∙◌, subst, arith}
use Rattle.std.specs.Prelude.{slice_get, get_or, Option, Some, None}
use Rattle.std.specs.Option.{option_map}
use Rattle.std.proofs.lemmas.List.{length-append, length-drop, length-map, length-take, append_assoc, append_cancel_right, take-append-drop, drop-drop}
use Rattle.ds2_value.specs.Order.{same_row}
use Rattle.ds2_value.specs.declared.value.Value.{Value}
use Rattle.ds2_table.specs.LoadLaws.{rows_of_key}
use Rattle.ds2_table.specs.Loads.{InputRow, KeyedLoad, input_rows, rows_with_key, matches, most_rows, merge_load, loads_of_key, loads_of_keys, each_once, keys_of_rows}
use Rattle.ds2_reading.specs.KeyOrder.{InputKeys}
use Rattle.ds2_reading.specs.Places.{item_before}
use Rattle.ds2_reading.proofs.AllRows.{stable_of, key_joined, input_fit}
use Rattle.ds2_merge.specs.KeyPlaces.{opening_key_place, key_place_behind, most_between, HaveNewKeys, ordered_rows, loads_of_rows, loads_of_all, left_behind, rows_between, key_at, HasTables, HaveLikeKeys, IsBetweenKeys, IsKeyEnd, IsKeyRun, IsTableOfKey, HaveTablePlaces, IsKeyEntered}
use Rattle.ds2_merge.specs.declared.key_place.KeyPlace.{KeyPlace}
use Rattle.ds2_merge.specs.declared.key_place.KeyRows.{KeyRows}
use Rattle.ds2_merge.proofs.TableRows.{AreBelow, of_table, eq_self, numbers_of_key, inputs_below, kept_below}
use Rattle.ds2_merge.proofs.KeySplits.{own_key, new_left, all_new, once_split}
use Rattle.ds2_merge.proofs.KeyLoads.{get_after, get_in_first, drop_first, drop_twice, most_within, most_at_least, most_is, key_load_count, key_load_at}
use Rattle.ds2_merge.proofs.KeyWalk.{row_there, key_is}

-- ---- parts of the rows

-- the rows from one place up to another, and those behind
pub parted : (input : InputKeys) (a b : ℕ) → a ≤ b → left_behind input a ≡ rows_between input a b ++ left_behind input b
parted input a b l =
    let e : a + (b - a) ≡ b = omega (arith, l) in
    sym (take-append-drop (b - a) (left_behind input a)) ∙ ap (λ r. rows_between input a b ++ r) (drop-drop (b - a) a (ordered_rows input) ∙ ap (λ n. drop n (ordered_rows input)) e)

pub between_length : (input : InputKeys) (a b : ℕ) → b ≤ length (ordered_rows input) → length (rows_between input a b) ≡ b - a
between_length input a b l = omega (arith, l, length-take (b - a) (left_behind input a), length-drop a (ordered_rows input))

-- ---- a key that has rows

-- the row at a place between keys, and with it its key, has a load
module _ (input : InputKeys) (tables : HasTables input) (place : KeyPlace) (here : IsBetweenKeys input place) (row : InputRow)
    (there : slice_get (ordered_rows input) place.start ≡ Some row) (front : left_behind input place.start ≡ row ∷ left_behind input (place.start + 1)) where
  abbrev rows : List InputRow
  rows = input_rows 0 input.tables

  abbrev before : List InputRow
  before = take place.start (ordered_rows input)

  abbrev tail : List InputRow
  tail = left_behind input (place.start + 1)

  new_first : HaveNewKeys before (row ∷ tail)
  new_first = let P : List InputRow → Type 0 = HaveNewKeys before in subst P front here.new_keys

  -- all rows of the key are left
  all_left : rows_of_key row.key rows ≡ rows_of_key row.key (left_behind input place.start)
  all_left =
      sym (stable_of input.descending row.key rows (input_fit input.descending 0 input.tables tables.keys))
      ∙ ap (rows_of_key row.key) (sym (take-append-drop place.start (ordered_rows input)))
      ∙ key_joined row.key before (left_behind input place.start)
      ∙ ap (λ r. r ++ rows_of_key row.key (left_behind input place.start)) new_first.0

  first_of_key : rows_of_key row.key rows ≡ row ∷ rows_of_key row.key tail
  first_of_key = all_left ∙ ap (rows_of_key row.key) front ∙ own_key row tail

  table_there : row.table < length input.tables
  table_there =
      let z : 0 + length input.tables ≡ length input.tables = omega arith in
      let P : List InputRow → Type 0 = AreBelow (0 + length input.tables) in
      let below : AreBelow (0 + length input.tables) (row ∷ rows_of_key row.key tail) =
      subst P first_of_key (kept_below (λ (r : InputRow). same_row r.key row.key) (0 + length input.tables) rows (inputs_below 0 input.tables)) in
      omega (arith, below.0, z)

  own_found : length (rows_with_key row.table row.key rows) ≡ suc (length (of_table row.table (rows_of_key row.key tail)))
  own_found =
      ap (λ (xs : List ℕ). length xs) (numbers_of_key row.table row.key rows)
      ∙ length-map (of_table row.table (rows_of_key row.key rows)) (λ (r : InputRow). r.number)
      ∙ ap (λ (xs : List InputRow). length (of_table row.table xs)) first_of_key
      ∙ ap (λ b. length (cond b (row ∷ of_table row.table (rows_of_key row.key tail)) (of_table row.table (rows_of_key row.key tail)))) (eq_self row.table)

  has_loads : 0 < most_rows (matches (length input.tables) row.key rows)
  has_loads = omega (arith, own_found, most_at_least (length input.tables) row.table row.key rows table_there)

  -- its first load comes next
  first_key : option_map (λ (l : KeyedLoad). l.key) (slice_get (loads_of_all input) place.loads) ≡ Some row.key
  first_key =
      let n = length input.tables in
      let z : place.loads ≡ place.loads + 0 = omega arith in
      let more = each_once (row.key ∷ []) (keys_of_rows tail) in
      ap (option_map (λ (l : KeyedLoad). l.key))
      (ap (slice_get (loads_of_all input)) z
      ∙ sym (get_after (loads_of_all input) place.loads 0)
      ∙ ap (λ (xs : List KeyedLoad). slice_get xs 0) (here.loads ∙ ap (loads_of_rows input) front)
      ∙ get_in_first (loads_of_key n rows row.key) (loads_of_keys n rows more) 0 (omega (arith, has_loads, key_load_count n row.key rows))
      ∙ key_load_at n row.key rows 0 has_loads)

  own : key_at input place.start ≡ row.key
  own = key_is input place.start row there

  -- the rows up to the key's end are all of the key
  run_of : (end : ℕ) → IsKeyEnd input place.start end → IsKeyRun input place.start end
  run_of end e = record {
    low = omega (arith, e.low);
    high = e.high;
    rows =
        append_cancel_right (rows_between input place.start end) (rows_of_key (key_at input place.start) rows) (left_behind input end)
        (sym (parted input place.start end (omega (arith, e.low)))
        ∙ e.rows
        ∙ ap (λ r. r ++ left_behind input end)
        (ap (λ key. rows_of_key key (left_behind input place.start)) own ∙ sym all_left ∙ ap (λ key. rows_of_key key rows) (sym own)));
  }

pub key_run : (input : InputKeys) (tables : HasTables input) (place : KeyPlace) → IsBetweenKeys input place → (end : ℕ) → IsKeyEnd input place.start end → IsKeyRun input place.start end
key_run input tables place here end e =
    let found = row_there (ordered_rows input) place.start (omega (arith, e.low, e.high)) in run_of input tables place here found.0 found.1 found.2 end e

-- the key of the load that comes next is that of the row at the place
pub next_key_is : (input : InputKeys) (place : KeyPlace) → HasTables input → IsBetweenKeys input place
    → option_map (λ (l : KeyedLoad). l.key) (slice_get (loads_of_all input) place.loads) ≡ option_map (λ (r : InputRow). r.key) (slice_get (ordered_rows input) place.start)
next_key_is input place tables here = by (slice_get (ordered_rows input) place.start) refl
  where
    none : (xs : List InputRow) (k : ℕ) → slice_get xs k ≡ None → drop k xs ≡ []
    none [] zero e = refl
    none [] (suc k) e = refl
    none (x ∷ xs) zero e = let no : Some x ≡ None = e in cc
    none (x ∷ xs) (suc k) e = none xs k e

    within : (xs : List InputRow) (k : ℕ) (x : InputRow) → slice_get xs k ≡ Some x → drop k xs ≡ x ∷ drop (k + 1) xs
    within [] k x e = let no : None ≡ Some x = e in cc
    within (y ∷ xs) zero x e = let one : y ≡ x = cc in ap (λ z. z ∷ xs) one
    within (y ∷ xs) (suc k) x e = let z : suc k + 1 ≡ suc (k + 1) = omega arith in within xs k x e ∙ ap (λ n. x ∷ drop n (y ∷ xs)) (sym z)

    by : (row : Option InputRow) → slice_get (ordered_rows input) place.start ≡ row
        → option_map (λ (l : KeyedLoad). l.key) (slice_get (loads_of_all input) place.loads) ≡ option_map (λ (r : InputRow). r.key) row
    by None e =
        let z : place.loads ≡ place.loads + 0 = omega arith in
        ap (option_map (λ (l : KeyedLoad). l.key))
        (ap (slice_get (loads_of_all input)) z
        ∙ sym (get_after (loads_of_all input) place.loads 0)
        ∙ ap (λ (xs : List KeyedLoad). slice_get xs 0) (here.loads ∙ ap (loads_of_rows input) (none (ordered_rows input) place.start e)))
    by (Some row) e = first_key input tables place here row e (within (ordered_rows input) place.start row e)

-- behind the last key no load is left
pub none_left : (input : InputKeys) (place : KeyPlace) → IsBetweenKeys input place → left_behind input place.start ≡ [] → length (loads_of_all input) ≡ place.loads
none_left input place here e =
    omega (
      arith,
      here.within,
      length-drop place.loads (loads_of_all input),
      ap (λ (xs : List KeyedLoad). length xs) (here.loads ∙ ap (loads_of_rows input) e),
    )

-- ---- entering a key

pub entered : (input : InputKeys) (tables : HasTables input) (place : KeyPlace) (here : IsBetweenKeys input place) (key : KeyRows)
    → IsKeyEnd input place.start key.end → IsKeyRun input place.start key.end → HaveTablePlaces input place.start key.begins key.ends
    → key.count ≡ most_between key.begins key.ends (length input.tables) → IsKeyEntered input place key
entered input tables place here key end run places count =
    let value = key_at input place.start in
    let rows = input_rows 0 input.tables in
    let found = row_there (ordered_rows input) place.start (omega (arith, end.low, end.high)) in
    let own = key_is input place.start found.0 found.1 in
    let P : List Value → Type 0 = λ v. 0 < most_rows (matches (length input.tables) v rows) in
    let some : 0 < most_rows (matches (length input.tables) value rows) = subst P (sym own) (has_loads input tables place here found.0 found.1 found.2) in
    let most = most_is key.begins key.ends value rows (length input.tables) (length input.tables) (omega arith) (long value rows places) in
    record {
      here = here;
      end = end;
      run = run;
      tables = places;
      count = count ∙ most;
      some = omega (arith, count, most, some);
    }
  where
    long : (value : List Value) (rows : List InputRow)
        → ((t : ℕ) → t < length input.tables → IsTableOfKey input place.start t (get_or key.begins t 0) (get_or key.ends t 0))
        → (t : ℕ) → t < length input.tables → length (rows_with_key t (key_at input place.start) (input_rows 0 input.tables)) ≡ get_or key.ends t 0 - get_or key.begins t 0
    long value rows places t l =
        let here = places t l in
        ap (λ (xs : List ℕ). length xs) here.rows
        ∙ length-map (rows_between input (get_or key.begins t 0) (get_or key.ends t 0)) (λ (row : InputRow). row.number)
        ∙ between_length input (get_or key.begins t 0) (get_or key.ends t 0) here.high

-- ---- the loads of a key that was entered

like_of : (l : Option KeyedLoad) (r : Option InputRow) (load : KeyedLoad) (row : InputRow) → l ≡ Some load → r ≡ Some row → same_row row.key load.key ≡ true → HaveLikeKeys l r
like_of l r load row e f h =
    let P : Option KeyedLoad → Type 0 = λ x. HaveLikeKeys x r in
    let Q : Option InputRow → Type 0 = λ y. HaveLikeKeys (Some load) y in
    subst P (sym e) (subst Q (sym f) h)

module _ (input : InputKeys) (tables : HasTables input) (place : KeyPlace) (key : KeyRows) (h : IsKeyEntered input place key) where
  abbrev n : ℕ
  n = length input.tables

  abbrev inputs : List InputRow
  inputs = input_rows 0 input.tables

  abbrev value : List Value
  value = key_at input place.start

  abbrev behind : List InputRow
  behind = left_behind input key.end

  abbrev loads : List KeyedLoad
  loads = loads_of_key n inputs value

  abbrev all : List KeyedLoad
  all = loads_of_all input

  loads_length : length loads ≡ key.count
  loads_length = key_load_count n value inputs ∙ sym h.count

  split_rows : left_behind input place.start ≡ rows_of_key value inputs ++ behind
  split_rows = parted input place.start key.end h.run.low ∙ ap (λ r. r ++ behind) h.run.rows

  pub loads_split : drop place.loads all ≡ loads ++ loads_of_rows input behind
  loads_split =
      let found = row_there (ordered_rows input) place.start (omega (arith, h.end.low, h.end.high)) in
      let own = key_is input place.start found.0 found.1 in
      let P : List Value → Type 0 = λ v. rows_of_key v behind ≡ [] in
      let Q : List Value → Type 0 = λ v. left_behind input place.start ≡ rows_of_key v inputs ++ behind in
      h.here.loads
      ∙ ap (loads_of_rows input) found.2
      ∙ ap (loads_of_keys n inputs)
      (once_split found.0 (left_behind input (place.start + 1)) inputs behind (sym found.2 ∙ subst Q own split_rows) (subst P own h.end.others))
      ∙ ap (λ v. loads_of_keys n inputs (v ∷ each_once [] (keys_of_rows behind))) (sym own)

  -- each load of the key stands at its number
  pub load_at : (i : ℕ) → i < key.count → slice_get all (place.loads + i) ≡ Some (merge_load value (matches n value inputs) i)
  load_at i l =
      sym (get_after all place.loads i)
      ∙ ap (λ (xs : List KeyedLoad). slice_get xs i) loads_split
      ∙ get_in_first loads (loads_of_rows input behind) i (omega (arith, l, loads_length))
      ∙ key_load_at n value inputs i (omega (arith, l, h.count))

  pub loads_fit : length all ≡ place.loads + (key.count + length (loads_of_rows input behind))
  loads_fit =
      omega (
        arith,
        h.here.within,
        h.some,
        loads_length,
        length-drop place.loads all,
        ap (λ (xs : List KeyedLoad). length xs) loads_split,
        length-append loads (loads_of_rows input behind),
      )

  few_loads : place.loads + key.count ≤ key.end
  few_loads =
      omega (
        arith,
        h.here.few,
        h.count,
        h.end.low,
        most_within n value inputs,
        ap (λ (xs : List InputRow). length xs) h.run.rows,
        between_length input place.start key.end h.end.high,
      )

  pub last_load : item_before all (place.loads + key.count) ≡ Some (merge_load value (matches n value inputs) (key.count - 1))
  last_load =
      let last : key.count - 1 < key.count = omega (arith, h.some) in
      let e : place.loads + key.count ≡ suc (place.loads + (key.count - 1)) = omega (arith, h.some) in
      ap (item_before all) e ∙ load_at (key.count - 1) last

  front_rows : take key.end (ordered_rows input) ≡ take place.start (ordered_rows input) ++ rows_of_key value inputs
  front_rows =
      append_cancel_right (take key.end (ordered_rows input)) (take place.start (ordered_rows input) ++ rows_of_key value inputs) behind
      (take-append-drop key.end (ordered_rows input)
      ∙ sym (append_assoc (take place.start (ordered_rows input)) (rows_of_key value inputs) behind
      ∙ ap (λ r. take place.start (ordered_rows input) ++ r) (sym split_rows)
      ∙ take-append-drop place.start (ordered_rows input)))

  -- behind them stands a place between keys
  pub behind_key : IsBetweenKeys input (key_place_behind place key)
  behind_key = record {
    there = h.end.high;
    new_keys =
        let P : List InputRow → Type 0 = λ before. HaveNewKeys before behind in
        subst P (sym front_rows)
        (new_left value (take place.start (ordered_rows input)) inputs (left_behind input place.start) behind h.here.new_keys split_rows h.end.others);
    few = few_loads;
    loads = drop_twice all place.loads key.count ∙ ap (drop key.count) loads_split ∙ drop_first loads (loads_of_rows input behind) key.count loads_length;
    within = omega (arith, loads_fit);
    previous =
        like_of (item_before all (place.loads + key.count)) (item_before (ordered_rows input) key.end) (merge_load value (matches n value inputs) (key.count - 1)) h.end.last
        last_load h.end.last_there h.end.last_has;
  }

  -- as many loads as rows at the most
  pub count_fits : place.loads + key.count < 2 ^ 64
  count_fits = omega (arith, few_loads, h.end.high, tables.room)

-- ---- before the first load

pub at_start : (input : InputKeys) → HasTables input → IsBetweenKeys input opening_key_place
at_start input h = record {
  there = omega arith;
  new_keys = all_new (ordered_rows input);
  few = omega arith;
  loads = refl;
  within = omega arith;
  previous = tt;
}
