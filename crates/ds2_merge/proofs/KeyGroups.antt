-- The places where the groups of `merge` begin.
use Rattle.std.proofs.Common.{◌≡◌, ℕ, zero, suc, ◌+◌, ◌<◌, ◌≤◌, Bool, true, false, not, ◌&&◌, List, [], ◌∷◌, ◌++◌, map, length, drop, refl, sym, ap, ◌∙◌, subst, arith}
use Rattle.std.specs.Prelude.{slice_get, get_or, take, Option, Some, None, if◌then◌else◌}
use Rattle.std.specs.List.{range_with_len}
use Rattle.std.specs.Option.{option_map, option_map_or}
use Rattle.std.proofs.lemmas.List.{append-nil, length-map, length_push, map-append}
use Rattle.std.proofs.lemmas.Option.{slice_get-map, slice_get_within, get_or_from_slice_get}
use Rattle.ds2_value.specs.Order.{value_eq, same_row}
use Rattle.ds2_value.specs.declared.value.Value.{Value}
use Rattle.ds2_table.specs.LoadLaws.{AreInByOrder}
use Rattle.ds2_table.specs.Loads.{InputRow, KeyedLoad, input_rows, matches, most_rows, merge_load, loads_of_key, merge_loads, groups}
use Rattle.ds2_table.proofs.ByOrder.{rows_equiv}
use Rattle.ds2_table.proofs.LoadOrder.{loads_stand_in_by_order}
use Rattle.ds2_table.proofs.Sorted.{first_part, second_part}
use Rattle.ds2_reading.specs.CursorState.{start_at}
use Rattle.ds2_reading.specs.GroupStarts.{opens_group, opens_group_at, group_openings, keys_of_loads}
use Rattle.ds2_reading.specs.KeyOrder.{InputKeys}
use Rattle.ds2_reading.specs.Places.{item_before}
use Rattle.ds2_reading.proofs.Flagged.{flagged_length, flagged_keys}
use Rattle.ds2_reading.proofs.Starts.{openings_are, as_many, beginnings}
use Rattle.ds2_merge.specs.KeyPlaces.{opening_key_place, key_place_behind, loads_of_rows, loads_of_all, key_at, left_behind, HasTables, IsBetweenKeys, IsKeyEntered, key_openings_left, ordered_rows, HaveLikeKeys, HasKeyPlaces, StandAtKeys}
use Rattle.ds2_merge.specs.declared.key_place.KeyPlace.{KeyPlace}
use Rattle.ds2_merge.specs.declared.key_place.KeyRows.{KeyRows}
use Rattle.ds2_merge.proofs.KeyStates.{loads_split, last_load, behind_key, at_start, none_left}
use Rattle.ds2_merge.proofs.KeyWalk.{row_there, key_is}

abbrev load_key : KeyedLoad → List Value
load_key l = l.key

abbrev row_key : InputRow → List Value
row_key row = row.key

abbrev place_loads : KeyPlace → ℕ
place_loads p = p.loads

-- ---- lists of places

pushed_each : (P : KeyPlace → Type 0) (xs : List KeyPlace) (x : KeyPlace) → ((g : ℕ) (p : KeyPlace) → slice_get xs g ≡ Some p → P p) → P x
    → (g : ℕ) (p : KeyPlace) → slice_get (xs ++ x ∷ []) g ≡ Some p → P p
pushed_each P [] x h px zero p e = let one : x ≡ p = cc in subst P one px
pushed_each P [] x h px (suc g) p e = let none : None ≡ Some p = e in cc
pushed_each P (y ∷ ys) x h px zero p e = h 0 p e
pushed_each P (y ∷ ys) x h px (suc g) p e = pushed_each P ys x (λ i q k. h (suc i) q k) px g p e

-- ---- the loads of a key

-- a further load of a key opens no group
further_openings : (p k : ℕ) (key : List Value) (found : List (List ℕ)) (xs : List ℕ) (rest : List (List Value))
    → group_openings (suc p) k (Some key) (map load_key (map (merge_load key found) xs) ++ rest) ≡ group_openings (suc p) (k + length xs) (Some key) rest
further_openings p k key found [] rest = let z : k ≡ k + 0 = omega arith in ap (λ j. group_openings (suc p) j (Some key) rest) z
further_openings p k key found (x ∷ xs) rest =
    let q = rows_equiv in
    let z : k + 1 + length xs ≡ k + suc (length xs) = omega arith in
    let more = group_openings (suc p) (k + 1) (Some key) (map load_key (map (merge_load key found) xs) ++ rest) in
    ap (λ b. if not b then k ∷ more else more) (q.refl (take (suc p) key))
    ∙ further_openings p (k + 1) key found xs rest
    ∙ ap (λ j. group_openings (suc p) j (Some key) rest) z

key_openings : (p k : ℕ) (previous : Option (List Value)) (key : List Value) (found : List (List ℕ)) (xs : List ℕ) (c : ℕ) (rest : List (List Value)) → length xs ≡ c → 0 < c
    → group_openings (suc p) k previous (map load_key (map (merge_load key found) xs) ++ rest)
    ≡ (if opens_group (suc p) previous key then k ∷ group_openings (suc p) (k + c) (Some key) rest else group_openings (suc p) (k + c) (Some key) rest)
key_openings p k previous key found [] c rest e l = absurd (omega (arith, e, l))
key_openings p k previous key found (x ∷ xs) c rest e l =
    let z : k + 1 + length xs ≡ k + c = omega (arith, e) in
    ap (λ r. if opens_group (suc p) previous key then k ∷ r else r)
    (further_openings p (k + 1) key found xs rest ∙ ap (λ j. group_openings (suc p) j (Some key) rest) z)

-- keys that are equal begin alike
taken_like : (p : ℕ) (a b : List Value) → same_row a b ≡ true → same_row (take p a) (take p b) ≡ true
taken_like zero a b e = refl
taken_like (suc p) [] [] e = refl
taken_like (suc p) [] (b ∷ bs) e = cc
taken_like (suc p) (a ∷ cs) [] e = cc
taken_like (suc p) (a ∷ cs) (b ∷ bs) e =
    (λ i. first_part (value_eq a b) (same_row cs bs) e i && same_row (take p cs) (take p bs)) ∙ taken_like p cs bs (second_part (value_eq a b) (same_row cs bs) e)

-- before the first load
pub begin_places : (input : InputKeys) (grain : ℕ) → HasTables input → HasKeyPlaces input grain opening_key_place []
begin_places input grain h = record { here = at_start input h; each = none_each; openings = refl }
  where
    none_each : (g : ℕ) (p : KeyPlace) → slice_get [] g ≡ Some p → IsBetweenKeys input p
    none_each g p e = let none : None ≡ Some p = e in cc

module _ (input : InputKeys) (p : ℕ) (tables : HasTables input) (place : KeyPlace) (starts : List KeyPlace) (key : KeyRows)
    (h : HasKeyPlaces input (suc p) place starts) (e : IsKeyEntered input place key) where
  abbrev all : List KeyedLoad
  all = loads_of_all input

  abbrev value : List Value
  value = key_at input place.start

  abbrev found : List (List ℕ)
  found = matches (length input.tables) value (input_rows 0 input.tables)

  abbrev behind : KeyPlace
  behind = key_place_behind place key

  abbrev opens : Bool
  opens = opens_group (suc p) (option_map load_key (item_before all place.loads)) value

  range_length : (a n : ℕ) → length (range_with_len a n) ≡ n
  range_length a zero = refl
  range_length a (suc n) = ap suc (range_length (a + 1) n)

  keys_left : map load_key (drop place.loads all) ≡ map load_key (loads_of_key (length input.tables) (input_rows 0 input.tables) value) ++ map load_key (drop behind.loads all)
  keys_left =
      let b = behind_key input tables place key e in
      ap (map load_key) (loads_split input tables place key e)
      ∙ map-append load_key (loads_of_key (length input.tables) (input_rows 0 input.tables) value) (loads_of_rows input (left_behind input key.end))
      ∙ ap (λ r. map load_key (loads_of_key (length input.tables) (input_rows 0 input.tables) value) ++ map load_key r) (sym b.loads)

  before_behind : option_map load_key (item_before all behind.loads) ≡ Some value
  before_behind = ap (option_map load_key) (last_load input tables place key e)

  before_it : key_openings_left (suc p) all place.loads
      ≡ (if opens then place.loads ∷ key_openings_left (suc p) all behind.loads else key_openings_left (suc p) all behind.loads)
  before_it =
      let b = behind_key input tables place key e in
      ap (group_openings (suc p) place.loads (option_map load_key (item_before all place.loads))) keys_left
      ∙ key_openings p place.loads (option_map load_key (item_before all place.loads)) value found (range_with_len 0 (most_rows found)) key.count (map load_key (drop behind.loads all))
      (range_length 0 (most_rows found) ∙ sym e.count) e.some
      ∙ ap (λ before. if opens then place.loads ∷ group_openings (suc p) behind.loads before (map load_key (drop behind.loads all))
      else group_openings (suc p) behind.loads before (map load_key (drop behind.loads all))) (sym before_behind)

  joined : (xs : List ℕ) (k : ℕ) (rest : List ℕ) → (xs ++ k ∷ []) ++ rest ≡ xs ++ k ∷ rest
  joined [] k rest = refl
  joined (x ∷ xs) k rest = ap (λ r. x ∷ r) (joined xs k rest)

  pub opened : opens ≡ true → HasKeyPlaces input (suc p) behind (starts ++ place ∷ [])
  opened t = record {
    here = behind_key input tables place key e;
    each = pushed_each (IsBetweenKeys input) starts place h.each h.here;
    openings =
        ap (λ r. r ++ key_openings_left (suc p) all behind.loads) (map-append place_loads starts (place ∷ []))
        ∙ joined (map place_loads starts) place.loads (key_openings_left (suc p) all behind.loads)
        ∙ ap (λ r. map place_loads starts ++ r)
        (sym (before_it ∙ ap (λ b. if b then place.loads ∷ key_openings_left (suc p) all behind.loads else key_openings_left (suc p) all behind.loads) t))
        ∙ h.openings;
  }

  pub passed : opens ≡ false → HasKeyPlaces input (suc p) behind starts
  passed t = record {
    here = behind_key input tables place key e;
    each = h.each;
    openings =
        ap (λ r. map place_loads starts ++ r)
        (sym (before_it ∙ ap (λ b. if b then place.loads ∷ key_openings_left (suc p) all behind.loads else key_openings_left (suc p) all behind.loads) t))
        ∙ h.openings;
  }

-- whether a key opens a group, by the row before it
pub opens_is : (input : InputKeys) (p : ℕ) (place : KeyPlace) (key : KeyRows) → IsKeyEntered input place key
    → opens_group_at (suc p) (ordered_rows input) place.start ≡ opens_group (suc p) (option_map load_key (item_before (loads_of_all input) place.loads)) (key_at input place.start)
opens_is input p place key e =
    let found = row_there (ordered_rows input) place.start (omega (arith, e.end.low, e.end.high)) in
    ap (λ row. option_map_or (λ (r : InputRow). opens_group (suc p) (option_map row_key (item_before (ordered_rows input) place.start)) r.key) row false) found.1
    ∙ ap (opens_group (suc p) (option_map row_key (item_before (ordered_rows input) place.start))) (sym (key_is input place.start found.0 found.1))
    ∙ like (item_before (loads_of_all input) place.loads) (item_before (ordered_rows input) place.start) (key_at input place.start) e.here.previous
  where
    like : (load : Option KeyedLoad) (row : Option InputRow) (key : List Value) → HaveLikeKeys load row
        → opens_group (suc p) (option_map row_key row) key ≡ opens_group (suc p) (option_map load_key load) key
    like None None key h = refl
    like None (Some row) key h = absurd h
    like (Some load) None key h = absurd h
    like (Some load) (Some row) key h =
        let q = rows_equiv in ap not (q.congr (take (suc p) row.key) (take (suc p) load.key) (take (suc p) key) (taken_like (suc p) row.key load.key h))

-- at a grain above 0
pub opened_above : (input : InputKeys) (grain : ℕ) (tables : HasTables input) (place : KeyPlace) (starts : List KeyPlace) (key : KeyRows) → 1 ≤ grain
    → HasKeyPlaces input grain place starts → IsKeyEntered input place key → opens_group_at grain (ordered_rows input) place.start ≡ true
    → HasKeyPlaces input grain (key_place_behind place key) (starts ++ place ∷ [])
opened_above input zero tables place starts key l h e t = absurd (omega (arith, l))
opened_above input (suc p) tables place starts key l h e t = opened input p tables place starts key h e (sym (opens_is input p place key e) ∙ t)

pub passed_above : (input : InputKeys) (grain : ℕ) (tables : HasTables input) (place : KeyPlace) (starts : List KeyPlace) (key : KeyRows) → 1 ≤ grain
    → HasKeyPlaces input grain place starts → IsKeyEntered input place key → opens_group_at grain (ordered_rows input) place.start ≡ false
    → HasKeyPlaces input grain (key_place_behind place key) starts
passed_above input zero tables place starts key l h e t = absurd (omega (arith, l))
passed_above input (suc p) tables place starts key l h e t = passed input p tables place starts key h e (sym (opens_is input p place key e) ∙ t)

module _ (input : InputKeys) (grain : ℕ) (tables : HasTables input) (place : KeyPlace) (starts : List KeyPlace) (h : HasKeyPlaces input grain place starts)
    (none : left_behind input place.start ≡ []) where
  abbrev loads : List KeyedLoad
  loads = merge_loads input.descending input.tables

  abbrev with_last : List KeyPlace
  with_last = starts ++ place ∷ []

  ordered : AreInByOrder input.descending loads
  ordered = let law = loads_stand_in_by_order input.descending input.tables tables.keys in law.1

  at_end : place.loads ≡ length loads
  at_end = sym (none_left input place h.here none) ∙ sym (flagged_length None (loads_of_all input))

  no_more : key_openings_left grain (loads_of_all input) place.loads ≡ []
  no_more =
      ap (λ (ls : List KeyedLoad). group_openings grain place.loads (option_map load_key (item_before (loads_of_all input) place.loads)) (map load_key ls))
      (h.here.loads ∙ ap (loads_of_rows input) none)

  whole : map place_loads starts ≡ group_openings grain 0 None (keys_of_loads loads)
  whole =
      sym (append-nil (map place_loads starts))
      ∙ ap (λ r. map place_loads starts ++ r) (sym no_more)
      ∙ h.openings
      ∙ ap (group_openings grain 0 None) (sym (flagged_keys None (loads_of_all input)))

  numbers : map place_loads with_last ≡ group_openings grain 0 None (keys_of_loads loads) ++ length loads ∷ []
  numbers = map-append place_loads starts (place ∷ []) ∙ (λ i. whole i ++ at_end i ∷ [])

  count : length with_last ≡ length (groups grain loads) + 1
  count =
      omega (
        arith,
        length_push starts place,
        length-map starts place_loads,
        ap (λ (r : List ℕ). length r) whole,
        ap (λ (r : List ℕ). length r) (openings_are input.descending grain loads ordered),
        as_many 0 (groups grain loads),
      )

  start : (g : ℕ) (q : KeyPlace) → slice_get with_last g ≡ Some q → q.loads ≡ start_at grain loads g
  start g q e =
      let l : g ≤ length (groups grain loads) = omega (arith, count, slice_get_within with_last g q e) in
      sym (get_or_from_slice_get (map place_loads with_last) g q.loads 0 (slice_get-map place_loads with_last g ∙ ap (option_map place_loads) e))
      ∙ ap (λ ns. get_or ns g 0) numbers
      ∙ beginnings input.descending grain loads ordered g 0 l

  pub all_places : StandAtKeys input grain with_last
  all_places = record {
    count = count;
    each = λ g q e. (pushed_each (IsBetweenKeys input) starts place h.each h.here g q e, start g q e);
  }
