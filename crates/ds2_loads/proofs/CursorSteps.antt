-- Steps of a place in the loads of a program.
use Rattle.std.proofs.Common.{◌≡◌, ℕ, zero, suc, ◌+◌, ◌<◌, ◌≤◌, Bool, true, false, List, [], ◌∷◌, length, map, take, drop, get_or, Option, Some, None, refl, sym, ap, ◌∙◌, subst, arith}
use Rattle.std.specs.Prelude.{slice_get, MatchOption}
use Rattle.std.specs.Option.{option_map}
use Rattle.std.proofs.lemmas.List.{length-append, length-map, drop-map}
use Rattle.ds2_table.specs.LoadLaws.{one_after_another}
use Rattle.ds2_table.specs.Loads.{Load, KeyedLoad, set_load, groups}
use Rattle.ds2_table.specs.Table.{Contents}
use Rattle.ds2_reading.specs.CursorState.{Cursor, next_load_of, behind_next, before_group, group_count, start_of_group}
use Rattle.ds2_reading.specs.LoadMeaning.{load_meaning}
use Rattle.ds2_reading.specs.declared.load.Load.{Load as LoadInCode}
use Rattle.ds2_reading.specs.declared.reading.ReadTable.{ReadTable}
use Rattle.ds2_code.specs.Desk.{SlotSettings}
use Rattle.ds2_loads.specs.declared.table_load.TableLoad.{TableLoad}
use Rattle.ds2_loads.specs.RowsBehind.{rows_behind, IsRowGiven}
use Rattle.ds2_loads.specs.Sources.{IsNextLoad}
use Rattle.ds2_loads.specs.StatementSource.{settings_of_statement, current_settings, settings_left}
use Rattle.ds2_loads.proofs.LoadsLeft.{none_set, first_set}
use Rattle.ds2_loads.specs.LoadCursors.{settings_of_numbers, settings_of_keyed, settings_of_input_row, settings_of_rows, in_parts, group_lengths, settings_in_parts, cursor_left, cursor_groups, group_number, load_gone_to, IsCursorOver, HasGivenNext, HasEntered}
use Rattle.ds2_loads.specs.declared.kept_loads.KeptLoads.{KeptLoads}
use Rattle.ds2_loads.specs.declared.load_cursor.LoadCursor.{LoadCursor}
use Rattle.ds2_loads.specs.declared.load_cursor.LoadCursor.TheVariants as cursor
use Rattle.ds2_loads.specs.declared.row_place.RowPlace.{RowPlace}

-- ---- the items of a list behind so many

pub past_end : {A : Type 0} (xs : List A) (n : ℕ) → slice_get xs n ≡ None → drop n xs ≡ []
past_end [] zero h = refl
past_end [] (suc n) h = refl
past_end (x ∷ xs) zero h = absurd cc
past_end (x ∷ xs) (suc n) h = past_end xs n h

pub first_at : {A : Type 0} (xs : List A) (n : ℕ) (x : A) → slice_get xs n ≡ Some x → drop n xs ≡ x ∷ drop (n + 1) xs
first_at [] zero x h = absurd cc
first_at [] (suc n) x h = absurd cc
first_at (y ∷ xs) zero x h =
    let same : x ≡ y = cc in
    let one : 0 + 1 ≡ suc zero = omega arith in
    ap (λ z. z ∷ xs) (sym same) ∙ ap (λ k. x ∷ drop k (y ∷ xs)) (sym one)
first_at (y ∷ xs) (suc n) x h =
    let more : suc n + 1 ≡ suc (n + 1) = omega arith in
    first_at xs n x h ∙ ap (λ k. x ∷ drop k (y ∷ xs)) (sym more)

pub some_default : {A : Type 0} (xs : List A) (n : ℕ) (d : A) → n < length xs → slice_get xs n ≡ Some (get_or xs n d)
some_default [] n d h = absurd (omega (arith, h))
some_default (y ∷ xs) zero d h = refl
some_default (y ∷ xs) (suc n) d h = some_default xs n d (omega (arith, h))

-- ---- the next load

module _ (at : TableLoad) (c new : Cursor) (left : new ≡ behind_next c) (given : Option LoadInCode) (is : option_map (load_meaning c.tables c.bys) given ≡ next_load_of c) where
  given_next : (o : Option LoadInCode) → given ≡ o → c.tables ≡ length at.reading.now.tables → c.bys ≡ length at.reading.now.bys
      → MatchOption o (settings_left at c ≡ []) (λ load. settings_left at c ≡ settings_of_numbers at load ∷ settings_left at new)
  given_next None same tables bys = none_set at c given is same
  given_next (Some load) same tables bys = first_set at c given is load new same left tables bys

  same_groups : settings_in_parts at new ≡ settings_in_parts at c
  same_groups = ap (settings_in_parts at) left

  pub set_next : IsCursorOver at.reading.now (cursor.Set c) → HasGivenNext at given (cursor.Set c) (cursor.Set new)
  set_next over = let P : Cursor → Type 0 = λ x. IsCursorOver at.reading.now (cursor.Set x) in record { next = given_next given refl over.0 over.1; groups = same_groups; over = subst P (sym left) over }

  pub merge_next : IsCursorOver at.reading.now (cursor.Merge c) → HasGivenNext at given (cursor.Merge c) (cursor.Merge new)
  merge_next over = let P : Cursor → Type 0 = λ x. IsCursorOver at.reading.now (cursor.Merge x) in record { next = given_next given refl over.0 over.1; groups = same_groups; over = subst P (sym left) over }

  pub set_walked : IsCursorOver at.reading.now (cursor.SetWalk c) → HasGivenNext at given (cursor.SetWalk c) (cursor.SetWalk new)
  set_walked over = let P : Cursor → Type 0 = λ x. IsCursorOver at.reading.now (cursor.SetWalk x) in record { next = given_next given refl over.0 over.1; groups = refl; over = subst P (sym left) over }

  pub merge_walked : IsCursorOver at.reading.now (cursor.MergeWalk c) → HasGivenNext at given (cursor.MergeWalk c) (cursor.MergeWalk new)
  merge_walked over = let P : Cursor → Type 0 = λ x. IsCursorOver at.reading.now (cursor.MergeWalk x) in record { next = given_next given refl over.0 over.1; groups = refl; over = subst P (sym left) over }

module _ (at : TableLoad) (tables : List Contents) (reads : List ReadTable) (same_tables : at.tables.now ≡ tables) (same_reads : at.reading.now.tables ≡ reads)
    (before after : RowPlace) (over : IsCursorOver at.reading.now (cursor.Rows before)) where
  settings_there : (place : RowPlace) → settings_of_rows at place ≡ map (settings_of_input_row at) (rows_behind tables place.table place.row (drop place.table reads))
  settings_there place = λ i. map (settings_of_input_row at) (rows_behind (same_tables i) place.table place.row (drop place.table (same_reads i)))

  row_given : (load : LoadInCode) → IsRowGiven tables reads before after load → settings_of_rows at before ≡ settings_of_numbers at load ∷ settings_of_rows at after
  row_given load it =
      let behind : List SlotSettings = map (settings_of_input_row at) (rows_behind tables after.table after.row (drop after.table reads)) in
      let count : length at.reading.now.tables ≡ length reads = ap (λ (rs : List ReadTable). length rs) same_reads in
      settings_there before
      ∙ ap (map (settings_of_input_row at)) it.left
      ∙ ap (λ n. settings_of_statement at (set_load n it.row).load ∷ behind) count
      ∙ ap (λ (z : Load). settings_of_statement at z ∷ behind) (sym it.means)
      ∙ ap (λ n. settings_of_statement at (load_meaning n 0 load) ∷ behind) (sym count)
      ∙ ap (λ n. settings_of_statement at (load_meaning (length at.reading.now.tables) n load) ∷ behind) over.1
      ∙ ap (λ (xs : List SlotSettings). settings_of_numbers at load ∷ xs) (sym (settings_there after))

  pub rows_next : (given : Option LoadInCode) → MatchOption given (rows_behind tables before.table before.row (drop before.table reads) ≡ []) (λ load. IsRowGiven tables reads before after load)
      → HasGivenNext at given (cursor.Rows before) (cursor.Rows after)
  rows_next None h = record { next = settings_there before ∙ ap (map (settings_of_input_row at)) h; groups = refl; over = over }
  rows_next (Some load) h = record { next = row_given load h; groups = refl; over = over }

-- ---- the load at which a source stands

-- a source at another load
abbrev at_load : TableLoad → LoadInCode → TableLoad
at_load at load = record { slots = at.slots; reading = at.reading; retains = at.retains; tables = at.tables; load = load; in_bounds = at.in_bounds }

-- what is left does not depend on it
same_left : (at : TableLoad) (load : LoadInCode) (c : LoadCursor) → cursor_left (at_load at load) c ≡ cursor_left at c
same_left at load (cursor.Rows place) = refl
same_left at load (cursor.SetWalk c) = refl
same_left at load (cursor.MergeWalk c) = refl
same_left at load (cursor.Set c) = refl
same_left at load (cursor.Merge c) = refl
same_left at load (cursor.Kept k) = refl

pub groups_stay : (at : TableLoad) (load : LoadInCode) (c : LoadCursor) → cursor_groups (at_load at load) c ≡ cursor_groups at c
groups_stay at load (cursor.Rows place) = refl
groups_stay at load (cursor.SetWalk c) = refl
groups_stay at load (cursor.MergeWalk c) = refl
groups_stay at load (cursor.Set c) = refl
groups_stay at load (cursor.Merge c) = refl
groups_stay at load (cursor.Kept k) = refl

pub goes_on : (at : TableLoad) (load : LoadInCode) (there : Bool) (before after : LoadCursor) → HasGivenNext at (load_gone_to there load) before after
    → IsNextLoad there (cursor_left at before) (current_settings (at_load at load)) (cursor_left (at_load at load) after)
goes_on at load true before after it = it.next ∙ ap (λ (xs : List SlotSettings). settings_of_numbers at load ∷ xs) (sym (same_left at load after))
goes_on at load false before after it = it.next

-- ---- a group

-- how many items the first parts have
abbrev sum_of : List ℕ → ℕ
sum_of [] = 0
sum_of (n ∷ ns) = n + sum_of ns

nothing_left : {A : Type 0} (m : ℕ) → drop {A = A} m [] ≡ []
nothing_left zero = refl
nothing_left (suc m) = refl

drop_more : {A : Type 0} (n m : ℕ) (xs : List A) → drop (n + m) xs ≡ drop m (drop n xs)
drop_more zero m xs = let e : 0 + m ≡ m = omega arith in ap (λ k. drop k xs) e
drop_more (suc n) m [] = nothing_left (suc n + m) ∙ sym (nothing_left m)
drop_more (suc n) m (x ∷ xs) = let e : suc n + m ≡ suc (n + m) = omega arith in ap (λ k. drop k (x ∷ xs)) e ∙ drop_more n m xs

part_at : {A : Type 0} (ns : List ℕ) (xs : List A) (g : ℕ) → g < length ns → slice_get (in_parts ns xs) g ≡ Some (take (get_or ns g 0) (drop (sum_of (take g ns)) xs))
part_at [] xs g h = absurd (omega (arith, h))
part_at (n ∷ ns) xs zero h = refl
part_at (n ∷ ns) xs (suc g) h = part_at ns (drop n xs) g (omega (arith, h)) ∙ ap (λ ys. Some (take (get_or ns g 0) ys)) (sym (drop_more n (sum_of (take g ns)) xs))

starts_are : (gs : List (List KeyedLoad)) (g : ℕ) → length (one_after_another (take g gs)) ≡ sum_of (take g (map (λ (group : List KeyedLoad). length group) gs))
starts_are gs zero = refl
starts_are [] (suc g) = refl
starts_are (group ∷ gs) (suc g) = length-append group (one_after_another (take g gs)) ∙ ap (λ n. length group + n) (starts_are gs g)

sum_next : (ns : List ℕ) (g : ℕ) → g < length ns → sum_of (take (g + 1) ns) ≡ sum_of (take g ns) + get_or ns g 0
sum_next [] g h = absurd (omega (arith, h))
sum_next (n ∷ ns) zero h = let e : n + 0 ≡ 0 + n = omega arith in e
sum_next (n ∷ ns) (suc g) h =
    let more : suc g + 1 ≡ suc (g + 1) = omega arith in
    let next = sum_next ns g (omega (arith, h)) in
    let sums : n + sum_of (take (g + 1) ns) ≡ (n + sum_of (take g ns)) + get_or ns g 0 = omega (arith, next) in
    ap (λ k. sum_of (take k (n ∷ ns))) more ∙ sums

-- as many lengths as groups
as_many_lengths : (gs : List (List KeyedLoad)) (g : ℕ) → g < length gs → g < length (map (λ (group : List KeyedLoad). length group) gs)
as_many_lengths gs g here = let P : ℕ → Type 0 = λ n. g < n in subst P (sym (length-map gs (λ (group : List KeyedLoad). length group))) here

-- a group begins behind the ones before it
pub start_grows : (c : Cursor) (g : ℕ) → g < group_count c → start_of_group c g ≤ start_of_group c (g + 1)
start_grows c g here =
    let all = groups c.grain c.loads in
    let start = starts_are all g in
    let next = starts_are all (g + 1) in
    let more = sum_next (group_lengths c) g (as_many_lengths all g here) in
    omega (arith, start, next, more)

-- as many parts as lengths
length_of_parts : {A : Type 0} (ns : List ℕ) (xs : List A) → length (in_parts ns xs) ≡ length ns
length_of_parts [] xs = refl
length_of_parts (n ∷ ns) xs = ap suc (length_of_parts ns (drop n xs))

pub as_many_parts : (at : TableLoad) (c : Cursor) → length (settings_in_parts at c) ≡ group_count c
as_many_parts at c = length_of_parts (group_lengths c) (map (settings_of_keyed at) c.loads) ∙ length-map (groups c.grain c.loads) (λ (group : List KeyedLoad). length group)

pub as_many_groups : (at : TableLoad) (s : LoadCursor) → length (cursor_groups at s) ≡ group_number s
as_many_groups at (cursor.Rows place) = refl
as_many_groups at (cursor.SetWalk c) = refl
as_many_groups at (cursor.MergeWalk c) = refl
as_many_groups at (cursor.Set c) = as_many_parts at c
as_many_groups at (cursor.Merge c) = as_many_parts at c
as_many_groups at (cursor.Kept k) = length-map k.loads (λ (l : LoadInCode). settings_of_numbers at l ∷ [])

module _ (at : TableLoad) (c new : Cursor) (g count : ℕ) (here : g < group_count c) (entered : new ≡ before_group g c)
    (counts : count + start_of_group c g ≡ start_of_group c (g + 1)) where
  abbrev lengths : List ℕ
  lengths = map (λ (group : List KeyedLoad). length group) (groups c.grain c.loads)

  few : g < length lengths
  few = as_many_lengths (groups c.grain c.loads) g here

  as_many : count ≡ get_or lengths g 0
  as_many =
      let start = starts_are (groups c.grain c.loads) g in
      let next = starts_are (groups c.grain c.loads) (g + 1) in
      let more = sum_next lengths g few in
      omega (arith, counts, start, next, more)

  left_there : settings_left at new ≡ drop (sum_of (take g lengths)) (map (settings_of_keyed at) c.loads)
  left_there =
      ap (settings_left at) entered
      ∙ ap (λ n. map (settings_of_keyed at) (drop n c.loads)) (starts_are (groups c.grain c.loads) g)
      ∙ sym (drop-map (settings_of_keyed at) (sum_of (take g lengths)) c.loads)

  there : slice_get (settings_in_parts at c) g ≡ Some (take count (settings_left at new))
  there =
      part_at lengths (map (settings_of_keyed at) c.loads) g few
      ∙ ap (λ n. Some (take n (drop (sum_of (take g lengths)) (map (settings_of_keyed at) c.loads)))) (sym as_many)
      ∙ ap (λ (xs : List SlotSettings). Some (take count xs)) (sym left_there)

  pub set_entered : HasEntered at g count (cursor.Set c) (cursor.Set new)
  set_entered = let P : Cursor → Type 0 = λ x. IsCursorOver at.reading.now (cursor.Set x) in record { entered = there; groups = ap (settings_in_parts at) entered; over = λ over. subst P (sym entered) over }

  pub merge_entered : HasEntered at g count (cursor.Merge c) (cursor.Merge new)
  merge_entered = let P : Cursor → Type 0 = λ x. IsCursorOver at.reading.now (cursor.Merge x) in record { entered = there; groups = ap (settings_in_parts at) entered; over = λ over. subst P (sym entered) over }

pub alone_there : {A B : Type 0} (f : A → B) (xs : List A) (g : ℕ) → g < length xs → slice_get (map (λ x. f x ∷ []) xs) g ≡ Some (take 1 (map f (drop g xs)))
alone_there f [] g h = absurd (omega (arith, h))
alone_there f (x ∷ xs) zero h = refl
alone_there f (x ∷ xs) (suc g) h = alone_there f xs g (omega (arith, h))

pub kept_entered : (at : TableLoad) (before after : KeptLoads) (g : ℕ) → g < length before.loads → after.loads ≡ before.loads → after.given ≡ g → HasEntered at g 1 (cursor.Kept before) (cursor.Kept after)
kept_entered at before after g here same given = record {
  entered = alone_there (settings_of_numbers at) before.loads g here
      ∙ ap (λ n. Some (take 1 (map (settings_of_numbers at) (drop n before.loads)))) (sym given)
      ∙ ap (λ (ls : List LoadInCode). Some (take 1 (map (settings_of_numbers at) (drop after.given ls)))) (sym same);
  groups = ap (λ (ls : List LoadInCode). map (λ (l : LoadInCode). settings_of_numbers at l ∷ []) ls) same;
  over = λ over. (refl, refl, omega arith);
}

module _ (at : TableLoad) (before after : KeptLoads) (same : after.loads ≡ before.loads) where
  pub kept_next : (given : Option LoadInCode)
      → MatchOption given (slice_get before.loads before.given ≡ None) (λ load. (slice_get before.loads before.given ≡ Some load) × (after.given ≡ before.given + 1))
      → HasGivenNext at given (cursor.Kept before) (cursor.Kept after)
  kept_next None h = record {
    next = ap (map (settings_of_numbers at)) (past_end before.loads before.given h);
    groups = ap (λ (ls : List LoadInCode). map (λ (l : LoadInCode). settings_of_numbers at l ∷ []) ls) same;
    over = (refl, refl, omega arith);
  }
  kept_next (Some load) h = record {
    next = ap (map (settings_of_numbers at)) (first_at before.loads before.given load h.0)
        ∙ ap (λ n. settings_of_numbers at load ∷ map (settings_of_numbers at) (drop n before.loads)) (sym h.1)
        ∙ ap (λ (ls : List LoadInCode). settings_of_numbers at load ∷ map (settings_of_numbers at) (drop after.given ls)) (sym same);
    groups = ap (λ (ls : List LoadInCode). map (λ (l : LoadInCode). settings_of_numbers at l ∷ []) ls) same;
    over = (refl, refl, omega arith);
  }
