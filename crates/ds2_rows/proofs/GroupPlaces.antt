-- The places where the groups of `set` begin.
use Rattle.std.proofs.Common.{◌≡◌, ℕ, zero, suc, ◌+◌, ◌<◌, ◌≤◌, true, false, List, [], ◌∷◌, ◌++◌, map, length, drop, refl, sym, ap, ◌∙◌, subst, arith}
use Rattle.std.specs.Prelude.{slice_get, get_or, Some, None, if◌then◌else◌}
use Rattle.std.specs.Option.{option_map, option_map_or}
use Rattle.std.proofs.lemmas.List.{append-nil, drop_all, length_push}
use Rattle.std.proofs.lemmas.Option.{slice_get_within, get_or_from_slice_get}
use Rattle.ds2_value.specs.declared.value.Value.{Value}
use Rattle.ds2_table.specs.LoadLaws.{HaveTableKeys, AreInByOrder}
use Rattle.ds2_table.specs.Loads.{InputRow, KeyedLoad, set_loads, groups}
use Rattle.ds2_table.proofs.LoadOrder.{loads_stand_in_by_order}
use Rattle.ds2_reading.specs.CursorState.{start_at}
use Rattle.ds2_reading.specs.GroupStarts.{opens_group, group_openings, opens_group_at, keys_of_loads}
use Rattle.ds2_reading.specs.KeyOrder.{InputKeys}
use Rattle.ds2_reading.specs.Places.{item_before, all_rows}
use Rattle.ds2_reading.proofs.Starts.{openings_are, as_many, beginnings}
use Rattle.ds2_rows.specs.SetPlaces.{openings_left, HasStarts, StandAtGroups}
use Rattle.ds2_rows.proofs.SetLoads.{keys_of_set, as_many_loads}

-- before the first row
pub begin_starts : (input : InputKeys) (grain : ℕ) → HasStarts input grain 0 []
begin_starts input grain = record { each = none_each; openings = refl }
  where
    none_each : (g start : ℕ) → slice_get [] g ≡ Some start → start ≤ length (all_rows input.descending input.tables)
    none_each g start e = let none : None ≡ Some start = e in cc

pushed_each : (P : ℕ → Type 0) (xs : List ℕ) (x : ℕ) → ((g p : ℕ) → slice_get xs g ≡ Some p → P p) → P x
    → (g p : ℕ) → slice_get (xs ++ x ∷ []) g ≡ Some p → P p
pushed_each P [] x h px zero p e = let one : x ≡ p = cc in subst P one px
pushed_each P [] x h px (suc g) p e = let none : None ≡ Some p = e in cc
pushed_each P (y ∷ ys) x h px zero p e = h 0 p e
pushed_each P (y ∷ ys) x h px (suc g) p e = pushed_each P ys x (λ i q k. h (suc i) q k) px g p e

openings_joined : (xs : List ℕ) (k : ℕ) (rest : List ℕ) → (xs ++ k ∷ []) ++ rest ≡ xs ++ k ∷ rest
openings_joined [] k rest = refl
openings_joined (x ∷ xs) k rest = ap (λ r. x ∷ r) (openings_joined xs k rest)

split_at : {A : Type 0} (xs : List A) (k : ℕ) → k < length xs → (x : A) × (slice_get xs k ≡ Some x) × (drop k xs ≡ x ∷ drop (k + 1) xs)
split_at [] k l = absurd (omega (arith, l))
split_at (x ∷ xs) zero l = (x, refl, refl)
split_at (x ∷ xs) (suc k) l =
    let e : suc k + 1 ≡ suc (k + 1) = omega arith in
    let rest = split_at xs k (omega (arith, l)) in (rest.0, rest.1, rest.2 ∙ ap (λ n. rest.0 ∷ drop n (x ∷ xs)) (sym e))

module _ (input : InputKeys) (grain place : ℕ) (starts : List ℕ) (h : HasStarts input grain place starts) (there : place < length (all_rows input.descending input.tables)) where
  abbrev rows : List InputRow
  rows = all_rows input.descending input.tables

  abbrev key : InputRow → List Value
  key row = row.key

  before_it : openings_left grain rows place
      ≡ (if opens_group_at grain rows place then place ∷ openings_left grain rows (place + 1) else openings_left grain rows (place + 1))
  before_it =
      let found = split_at rows place there in
      let e : place + 1 ≡ suc place = omega arith in
      let rest = group_openings grain (place + 1) (Some found.0.key) (map key (drop (place + 1) rows)) in
      let behind : openings_left grain rows (place + 1) ≡ rest =
      ap (λ row. group_openings grain (place + 1) (option_map key row) (map key (drop (place + 1) rows))) (ap (item_before rows) e ∙ found.1) in
      ap (λ (rs : List InputRow). group_openings grain place (option_map key (item_before rows place)) (map key rs)) found.2
      ∙ (λ i. if sym (ap (λ row. option_map_or (λ (r : InputRow). opens_group grain (option_map key (item_before rows place)) r.key) row false) found.1) i
      then place ∷ sym behind i else sym behind i)

  -- the starts with this place, where a group opens there
  pub opened : opens_group_at grain rows place ≡ true → HasStarts input grain (place + 1) (starts ++ place ∷ [])
  opened e = record {
    each = pushed_each (λ p. p ≤ length rows) starts place h.each (omega (arith, there));
    openings =
        openings_joined starts place (openings_left grain rows (place + 1))
        ∙ ap (λ r. starts ++ r) (sym (before_it ∙ ap (λ b. if b then place ∷ openings_left grain rows (place + 1) else openings_left grain rows (place + 1)) e))
        ∙ h.openings;
  }

  pub passed : opens_group_at grain rows place ≡ false → HasStarts input grain (place + 1) starts
  passed e = record {
    each = h.each;
    openings =
        ap (λ r. starts ++ r) (sym (before_it ∙ ap (λ b. if b then place ∷ openings_left grain rows (place + 1) else openings_left grain rows (place + 1)) e))
        ∙ h.openings;
  }

module _ (input : InputKeys) (grain : ℕ) (keys : HaveTableKeys input.descending input.tables) (place : ℕ) (starts : List ℕ) (h : HasStarts input grain place starts)
    (end : place ≡ length (all_rows input.descending input.tables)) where
  abbrev all : List InputRow
  all = all_rows input.descending input.tables

  abbrev loads : List KeyedLoad
  loads = set_loads input.descending input.tables

  abbrev with_last : List ℕ
  with_last = starts ++ place ∷ []

  ordered : AreInByOrder input.descending loads
  ordered = let law = loads_stand_in_by_order input.descending input.tables keys in law.0

  at_end : place ≡ length loads
  at_end = end ∙ sym (as_many_loads input.descending input.tables)

  whole : starts ≡ group_openings grain 0 None (keys_of_loads loads)
  whole =
      sym (append-nil starts)
      ∙ ap (λ r. starts ++ r)
      (sym (ap (λ (rest : List InputRow). group_openings grain place (option_map (λ (r : InputRow). r.key) (item_before all place)) (map (λ (r : InputRow). r.key) rest))
      (drop_all place all (omega (arith, end)))))
      ∙ h.openings
      ∙ ap (group_openings grain 0 None) (sym (keys_of_set input.descending input.tables))

  numbers : with_last ≡ group_openings grain 0 None (keys_of_loads loads) ++ length loads ∷ []
  numbers = λ i. whole i ++ at_end i ∷ []

  count : length with_last ≡ length (groups grain loads) + 1
  count =
      omega (
        arith,
        length_push starts place,
        ap (λ (r : List ℕ). length r) whole,
        ap (λ (r : List ℕ). length r) (openings_are input.descending grain loads ordered),
        as_many 0 (groups grain loads),
      )

  start : (g p : ℕ) → slice_get with_last g ≡ Some p → p ≡ start_at grain loads g
  start g p e =
      let l : g ≤ length (groups grain loads) = omega (arith, count, slice_get_within with_last g p e) in
      sym (get_or_from_slice_get with_last g p 0 e) ∙ ap (λ ns. get_or ns g 0) numbers ∙ beginnings input.descending grain loads ordered g 0 l

  pub all_groups : StandAtGroups input grain with_last
  all_groups = record {
    count = count;
    each = λ g p e. (pushed_each (λ q. q ≤ length all) starts place h.each (omega (arith, end)) g p e, start g p e);
  }
