-- What the load of a key means.
use Rattle.std.proofs.Common.{◌≡◌, ℕ, zero, suc, ◌+◌, ◌-◌, ◌^◌, ◌<◌, ◌≤◌, max, Bool, true, false, not, ◌||◌, nat_eq, nat_lt, List, [], ◌∷◌, map, length, take, drop, set, refl, sym, ap, ◌∙◌, subst, true≢false, arith, ◌⊎◌, inl, inr}
use Rattle.std.specs.Prelude.{slice_get, get_or, is_some, if◌then◌else◌, Option, Some, None}
use Rattle.std.specs.List.{range_with_len}
use Rattle.std.specs.Option.{option_map}
use Rattle.std.proofs.lemmas.Bool.Decides.{Decides-eqb, Decides-ltb, Decides-like, same_from_decides}
use Rattle.std.proofs.lemmas.List.{get_or-set_same, get_or-set_other, length-map}
use Rattle.std.proofs.lemmas.Option.{slice_get-map, slice_get_past}
use Rattle.ds2_value.specs.Order.{same_row}
use Rattle.ds2_value.specs.declared.value.Value.{Value}
use Rattle.ds2_reading.specs.declared.load.Load.{Load as LoadInCode}
use Rattle.ds2_reading.specs.declared.table_row.TableRow.{TableRow}
use Rattle.ds2_table.specs.Loads.{InputRow, KeyedLoad, flags_beside, is_new_key, flagged_load, input_rows, rows_with_key, matches, merge_load, merge_loads}
use Rattle.ds2_table.proofs.ByOrder.{rows_equiv}
use Rattle.ds2_reading.specs.KeyOrder.{InputKeys, IsThere, row_in}
use Rattle.ds2_reading.specs.LoadMeaning.{row_or_none, bits_of, flags_behind, load_meaning}
use Rattle.ds2_reading.specs.Places.{item_before, common_with, common_before}
use Rattle.ds2_reading.proofs.AllRows.{rows_of_one_within}
use Rattle.ds2_reading.proofs.FlagLemmas.{all_flags, common_flags, like_differences, like_common, self_common}
use Rattle.ds2_reading.proofs.Flagged.{flagged_at}
use Rattle.ds2_reading.proofs.PlaceFlags.{before_within, flags_first, fresh, long as row_long}
use Rattle.ds2_merge.specs.KeyPlaces.{key_place_behind, common_at_load, common_behind_load, ordered_rows, left_behind, rows_between, key_at, loads_of_all, HaveLikeKeys, IsTableOfKey, IsAmongLoads}
use Rattle.ds2_merge.specs.declared.key_place.KeyPlace.{KeyPlace}
use Rattle.ds2_merge.specs.declared.key_place.KeyRows.{KeyRows}
use Rattle.ds2_merge.proofs.TableRows.{eq_self, eq_apart}
use Rattle.ds2_merge.proofs.KeyLoads.{get_after, some_first}
use Rattle.ds2_merge.proofs.KeyStates.{between_length, load_at, behind_key, next_key_is}
use Rattle.ds2_merge.proofs.KeyWalk.{row_there, key_is}

-- ---- lists over tables

pub map_twice : {A : Type 0} {B : Type 0} {C : Type 0} (f : A → B) (g : B → C) (xs : List A) → map g (map f xs) ≡ map (λ x. g (f x)) xs
map_twice f g [] = refl
map_twice f g (x ∷ xs) = ap (λ r. g (f x) ∷ r) (map_twice f g xs)

alike_from : {A : Type 0} (f g : ℕ → A) (a n : ℕ) → ((t : ℕ) → t < n → f (a + t) ≡ g (a + t)) → map f (range_with_len a n) ≡ map g (range_with_len a n)
alike_from f g a zero h = refl
alike_from f g a (suc n) h =
    let z : a + 0 ≡ a = omega arith in
    let first : f a ≡ g a = sym (ap f z) ∙ h 0 (omega arith) ∙ ap g z in
    (λ i. first i ∷ alike_from f g (a + 1) n (λ t l. let e : a + suc t ≡ a + 1 + t = omega arith in sym (ap f e) ∙ h (suc t) (omega (arith, l)) ∙ ap g e) i)

-- two lists over the numbers below n
pub alike_below : {A : Type 0} (f g : ℕ → A) (n : ℕ) → ((t : ℕ) → t < n → f t ≡ g t) → map f (range_with_len 0 n) ≡ map g (range_with_len 0 n)
alike_below f g n h = alike_from f g 0 n (λ t l. let e : 0 + t ≡ t = omega arith in ap f e ∙ h t l ∙ sym (ap g e))

read_from : (f : ℕ → Option ℕ) (xs : List ℕ) (a n : ℕ) → n ≤ length xs → ((t : ℕ) → t < n → row_or_none (get_or xs t 0) ≡ f (a + t))
    → map row_or_none (take n xs) ≡ map f (range_with_len a n)
read_from f xs a zero l h = refl
read_from f [] a (suc n) l h = absurd (omega (arith, l))
read_from f (x ∷ xs) a (suc n) l h =
    let z : a + 0 ≡ a = omega arith in
    let first : row_or_none x ≡ f a = h 0 (omega arith) ∙ ap f z in
    (λ i. first i ∷ read_from f xs (a + 1) n (omega (arith, l)) (λ t k. let e : a + suc t ≡ a + 1 + t = omega arith in h (suc t) (omega (arith, k)) ∙ ap f e) i)

-- the rows of so many tables
pub rows_read : (n : ℕ) (key : List Value) (rows : List InputRow) (xs : List ℕ) (i : ℕ) → n ≤ length xs
    → ((t : ℕ) → t < n → row_or_none (get_or xs t 0) ≡ slice_get (rows_with_key t key rows) i)
    → map row_or_none (take n xs) ≡ map (λ found. slice_get found i) (matches n key rows)
rows_read n key rows xs i l h =
    read_from (λ t. slice_get (rows_with_key t key rows) i) xs 0 n l (λ t k. let e : 0 + t ≡ t = omega arith in h t k ∙ sym (ap (λ u. slice_get (rows_with_key u key rows) i) e))
    ∙ sym (map_twice (λ t. rows_with_key t key rows) (λ found. slice_get found i) (range_with_len 0 n))

below : (t k : ℕ) → t < k + 1 → (t ≡ k → ⊥) → t < k
below zero zero l n = absurd (n refl)
below zero (suc k) l n = omega arith
below (suc t) zero l n = absurd (omega (arith, l))
below (suc t) (suc k) l n = let less : t < k = below t k (omega (arith, l)) (λ e. n (ap suc e)) in omega (arith, less)

-- one row more
pub one_more_read : (f : ℕ → Option ℕ) (xs ys : List ℕ) (k x : ℕ) → ys ≡ set xs k x → k < length xs → row_or_none x ≡ f k
    → ((t : ℕ) → t < k → row_or_none (get_or xs t 0) ≡ f t) → (t : ℕ) → t < k + 1 → row_or_none (get_or ys t 0) ≡ f t
one_more_read f xs ys k x e l this before t m = by (nat_eq t k) refl
  where
    by : (b : Bool) → nat_eq t k ≡ b → row_or_none (get_or ys t 0) ≡ f t
    by true h =
        let d = Decides-eqb t k in
        let same = d.0 h in
        (λ i. row_or_none (get_or (e i) (same i) 0)) ∙ ap row_or_none (get_or-set_same xs k x 0 l) ∙ this ∙ ap f (sym same)
    by false h =
        let d = Decides-eqb t k in
        let apart : t ≡ k → ⊥ = λ q. true≢false (sym (d.1 q) ∙ h) in
        let earlier : t < k = below t k m apart in
        ap (λ (zs : List ℕ). row_or_none (get_or zs t 0)) e ∙ ap row_or_none (get_or-set_other xs k t x 0 apart) ∙ before t earlier

less_or_not : (a b : ℕ) → (a < b) ⊎ (b ≤ a)
less_or_not a zero = inr (omega arith)
less_or_not zero (suc b) = inl (omega arith)
less_or_not (suc a) (suc b) = next (less_or_not a b)
  where
    next : (a < b) ⊎ (b ≤ a) → (suc a < suc b) ⊎ (suc b ≤ suc a)
    next (inl l) = inl (omega (arith, l))
    next (inr l) = inr (omega (arith, l))

-- ---- the row of one table

none_read : row_or_none 18446744073709551615 ≡ None
none_read = ap (λ b. if b then None else Some 18446744073709551615) (eq_self 18446744073709551615)

some_read : (number : ℕ) → number + 1 < 2 ^ 64 → row_or_none number ≡ Some number
some_read number l =
    let apart : number ≡ 18446744073709551615 → ⊥ = λ e. absurd (omega (arith, e, l)) in
    ap (λ b. if b then None else Some number) (eq_apart number 18446744073709551615 apart)

module _ (input : InputKeys) (place : KeyPlace) (key : KeyRows) (h : IsAmongLoads input place key) (t : ℕ) (l : t < length input.tables) where
  abbrev begin : ℕ
  begin = get_or key.begins t 0

  abbrev end : ℕ
  end = get_or key.ends t 0

  abbrev found : List ℕ
  found = rows_with_key t (key_at input place.start) (input_rows 0 input.tables)

  own : IsTableOfKey input place.start t begin end
  own = let e = h.entered in e.tables t l

  found_length : length found ≡ end - begin
  found_length =
      ap (λ (xs : List ℕ). length xs) own.rows
      ∙ length-map (rows_between input begin end) (λ (row : InputRow). row.number)
      ∙ between_length input begin end own.high

  taken : {A : Type 0} (xs : List A) (n i : ℕ) → i < n → slice_get (take n xs) i ≡ slice_get xs i
  taken xs zero i l = absurd (omega (arith, l))
  taken [] (suc n) zero l = refl
  taken [] (suc n) (suc i) l = refl
  taken (x ∷ xs) (suc n) zero l = refl
  taken (x ∷ xs) (suc n) (suc i) l = taken xs n i (omega (arith, l))

  found_at : key.given < end - begin → slice_get found key.given ≡ option_map (λ (row : InputRow). row.number) (slice_get (ordered_rows input) (begin + key.given))
  found_at m =
      ap (λ (xs : List ℕ). slice_get xs key.given) own.rows
      ∙ slice_get-map (λ (row : InputRow). row.number) (rows_between input begin end) key.given
      ∙ ap (option_map (λ (row : InputRow). row.number)) (taken (left_behind input begin) (end - begin) key.given m ∙ get_after (ordered_rows input) begin key.given)

  pub past_rows : end - begin ≤ key.given → row_or_none 18446744073709551615 ≡ slice_get found key.given
  past_rows m = none_read ∙ sym (slice_get_past found key.given (omega (arith, m, found_length)))

  pub no_row : key.given < end - begin → None ≡ slice_get (ordered_rows input) (begin + key.given) → row_or_none 18446744073709551615 ≡ slice_get found key.given
  no_row m read = none_read ∙ ap (option_map (λ (row : InputRow). row.number)) read ∙ sym (found_at m)

  pub this_row : key.given < end - begin → (row : TableRow) → IsThere input.tables row → Some (row_in input.tables row) ≡ slice_get (ordered_rows input) (begin + key.given)
      → row_or_none row.row ≡ slice_get found key.given
  this_row m row there read =
      some_read row.row (omega (arith, there.within, h.tables.room, rows_of_one_within input.descending input.tables row.table))
      ∙ ap (option_map (λ (r : InputRow). r.number)) read
      ∙ sym (found_at m)

  pub place_there : key.given < end - begin → begin + key.given < 2 ^ 64
  place_there m = omega (arith, m, own.high, h.tables.room)

  some_between : (a b : ℕ) → nat_lt 0 (b - a) ≡ nat_lt a b
  some_between a b =
      same_from_decides (nat_lt 0 (b - a)) (nat_lt a b)
      (Decides-like (nat_lt 0 (b - a)) (λ k. omega (arith, k)) (λ k. omega (arith, k)) (Decides-ltb 0 (b - a))) (Decides-ltb a b)

  there_is : nat_lt begin end ≡ is_some (slice_get found 0)
  there_is = sym (some_first found (end - begin) found_length ∙ some_between begin end)

-- the tables that have rows of the key
pub present_is : (input : InputKeys) (place : KeyPlace) (key : KeyRows) → IsAmongLoads input place key
    → map (λ t. nat_lt (get_or key.begins t 0) (get_or key.ends t 0)) (range_with_len 0 (length input.tables))
    ≡ map (λ found. is_some (slice_get found 0)) (matches (length input.tables) (key_at input place.start) (input_rows 0 input.tables))
present_is input place key h =
    let n = length input.tables in
    let value = key_at input place.start in
    let rows = input_rows 0 input.tables in
    alike_below (λ t. nat_lt (get_or key.begins t 0) (get_or key.ends t 0)) (λ t. is_some (slice_get (rows_with_key t value rows) 0)) n (λ t l. there_is input place key h t l)
    ∙ sym (map_twice (λ t. rows_with_key t value rows) (λ found. is_some (slice_get found 0)) (range_with_len 0 n))

-- ---- the whole load

-- a load that reads these rows, with the flags between two keys
pub load_means : (n m bys : ℕ) (key : List Value) (of_tables : List (List ℕ)) (i number : ℕ) (l : LoadInCode) (previous next : Option (List Value)) (first last : ℕ)
    → m ≡ bys
    → map row_or_none (take n l.rows) ≡ map (λ rows. slice_get rows i) of_tables
    → l.is_fresh ≡ (nat_eq number 0 || nat_lt first m)
    → is_new_key previous key ≡ (nat_eq number 0 || nat_lt first bys)
    → bits_of m l.first ≡ flags_behind m first
    → flags_behind bys first ≡ flags_beside previous key
    → bits_of m l.last ≡ flags_behind m last
    → flags_behind bys last ≡ flags_beside next key
    → bits_of n l.present ≡ map (λ rows. is_some (slice_get rows 0)) of_tables
    → load_meaning n bys l ≡ (flagged_load previous next (merge_load key of_tables i)).load
load_means n m bys key of_tables i number l previous next first last e rows fresh new-key first-bits first-flags last-bits last-flags present =
    let is-fresh = fresh ∙ ap (λ k. nat_eq number 0 || nat_lt first k) e ∙ sym new-key in
    let first-is = ap (λ k. bits_of k l.first) (sym e) ∙ first-bits ∙ ap (λ k. flags_behind k first) e ∙ first-flags in
    let last-is = ap (λ k. bits_of k l.last) (sym e) ∙ last-bits ∙ ap (λ k. flags_behind k last) e ∙ last-flags in
    λ j. record { rows = rows j; is_fresh = is-fresh j; first = first-is j; last = last-is j; present = present j }

-- ---- flags

-- beside a load and beside a row whose key is equal
like_flags : (load : Option KeyedLoad) (row : Option InputRow) (key : List Value) → HaveLikeKeys load row
    → flags_beside (option_map (λ (r : InputRow). r.key) row) key ≡ flags_beside (option_map (λ (l : KeyedLoad). l.key) load) key
like_flags None None key h = refl
like_flags None (Some row) key h = absurd h
like_flags (Some load) None key h = absurd h
like_flags (Some load) (Some row) key h = like_differences false key row.key load.key h

like_new : (load : Option KeyedLoad) (row : Option InputRow) (key : List Value) → HaveLikeKeys load row
    → is_new_key (option_map (λ (r : InputRow). r.key) row) key ≡ is_new_key (option_map (λ (l : KeyedLoad). l.key) load) key
like_new None None key h = refl
like_new None (Some row) key h = absurd h
like_new (Some load) None key h = absurd h
like_new (Some load) (Some row) key h = let q = rows_equiv in ap not (q.congr row.key load.key key h)

last_with : (m : ℕ) (last : InputRow) (key : List Value) (next : Option InputRow) → length key ≡ m → ((row : InputRow) → next ≡ Some row → length row.key ≡ m)
    → same_row last.key key ≡ true → flags_behind m (common_with m (Some last) next) ≡ flags_beside (option_map (λ (r : InputRow). r.key) next) key
last_with m last key None k l e = all_flags m key k
last_with m last key (Some next) k l e = ap (flags_behind m) (like_common m last.key key next.key e) ∙ common_flags m key next.key k (l next refl)

never_less : (m : ℕ) → nat_lt m m ≡ false
never_less m = by (nat_lt m m) refl
  where
    by : (b : Bool) → nat_lt m m ≡ b → nat_lt m m ≡ false
    by true e = let d = Decides-ltb m m in absurd (omega (arith, d.0 e))
    by false e = e

module _ (input : InputKeys) (place : KeyPlace) (key : KeyRows) (h : IsAmongLoads input place key) where
  abbrev all : List KeyedLoad
  all = loads_of_all input

  abbrev number : ℕ
  number = place.loads + key.given

  abbrev m : ℕ
  m = length input.descending

  abbrev value : List Value
  value = key_at input place.start

  abbrev load_key : Option KeyedLoad → Option (List Value)
  load_key l = option_map (λ (k : KeyedLoad). k.key) l

  first_row : (x : InputRow) × (slice_get (ordered_rows input) place.start ≡ Some x) × (drop place.start (ordered_rows input) ≡ x ∷ drop (place.start + 1) (ordered_rows input))
  first_row = let e = h.entered.end in row_there (ordered_rows input) place.start (omega (arith, e.low, e.high))

  front_key : value ≡ first_row.0.key
  front_key = key_is input place.start first_row.0 first_row.1

  long : length value ≡ m
  long = ap (λ (v : List Value). length v) front_key ∙ row_long input h.tables.keys place.start first_row.0 first_row.1 place.start first_row.0 first_row.1

  own_flags : flags_behind m m ≡ flags_beside (Some value) value
  own_flags = ap (flags_behind m) (sym (self_common m value)) ∙ common_flags m value value long long

  own_new : is_new_key (Some value) value ≡ false
  own_new = let q = rows_equiv in ap not (q.refl value)

  abbrev common : ℕ → ℕ
  common given = if nat_eq given 0 then common_before input place.start else m

  -- beside the load before
  pub flags_before : flags_behind m (common key.given) ≡ flags_beside (load_key (item_before all number)) value
  flags_before = by key.given refl
    where
      by : (g : ℕ) → key.given ≡ g → flags_behind m (common g) ≡ flags_beside (load_key (item_before all number)) value
      by zero e =
          let z : place.loads ≡ number = omega (arith, e) in
          ap (λ b. flags_behind m (if b then common_before input place.start else m)) (eq_self 0)
          ∙ flags_first input h.tables.keys place.start first_row.0 first_row.1
          ∙ ap (flags_beside (option_map (λ (r : InputRow). r.key) (item_before (ordered_rows input) place.start))) (sym front_key)
          ∙ like_flags (item_before all place.loads) (item_before (ordered_rows input) place.start) value h.entered.here.previous
          ∙ ap (λ k. flags_beside (load_key (item_before all k)) value) z
      by (suc g) e =
          let z : number ≡ suc (place.loads + g) = omega (arith, e) in
          let apart : suc g ≡ 0 → ⊥ = λ k. absurd (omega (arith, k)) in
          ap (λ b. flags_behind m (if b then common_before input place.start else m)) (eq_apart (suc g) 0 apart)
          ∙ own_flags
          ∙ sym (ap (λ k. flags_beside (load_key (item_before all k)) value) z
          ∙ ap (λ l. flags_beside (load_key l) value) (load_at input h.tables place key h.entered g (omega (arith, e, h.given))))

  -- whether the load opens a key
  pub new_before : is_new_key (load_key (item_before all number)) value ≡ (nat_eq (max place.loads key.given) 0 || nat_lt (common key.given) m)
  new_before = by key.given refl
    where
      none_given : (loads start : ℕ) → HaveLikeKeys (item_before all loads) (item_before (ordered_rows input) start) → loads ≤ start → loads ≤ length all
          → start ≤ length (ordered_rows input) → nat_eq start 0 ≡ nat_eq loads 0
      none_given zero zero k l w x = refl
      none_given zero (suc start) k l w x =
          let found = row_there (ordered_rows input) start (omega (arith, x)) in
          let P : Option InputRow → Type 0 = HaveLikeKeys None in
          absurd (subst P found.1 k)
      none_given (suc loads) zero k l w x = absurd (omega (arith, l))
      none_given (suc loads) (suc start) k l w x =
          let a : suc start ≡ 0 → ⊥ = λ e. absurd (omega (arith, e)) in
          let b : suc loads ≡ 0 → ⊥ = λ e. absurd (omega (arith, e)) in
          eq_apart (suc start) 0 a ∙ sym (eq_apart (suc loads) 0 b)

      by : (g : ℕ) → key.given ≡ g → is_new_key (load_key (item_before all number)) value ≡ (nat_eq (max place.loads g) 0 || nat_lt (common g) m)
      by zero e =
          let z : place.loads ≡ number = omega (arith, e) in
          let y : place.loads ≡ max place.loads 0 = omega arith in
          let here = h.entered.here in
          ap (λ k. is_new_key (load_key (item_before all k)) value) (sym z)
          ∙ sym (like_new (item_before all place.loads) (item_before (ordered_rows input) place.start) value here.previous)
          ∙ ap (is_new_key (option_map (λ (r : InputRow). r.key) (item_before (ordered_rows input) place.start))) front_key
          ∙ fresh input h.tables.keys place.start first_row.0 first_row.1
          ∙ ap (λ b. b || nat_lt (common_before input place.start) m) (none_given place.loads place.start here.previous here.few here.within here.there)
          ∙ (λ i. nat_eq (y i) 0 || nat_lt (if sym (eq_self 0) i then common_before input place.start else m) m)
      by (suc g) e =
          let z : number ≡ suc (place.loads + g) = omega (arith, e) in
          let apart : suc g ≡ 0 → ⊥ = λ k. absurd (omega (arith, k)) in
          let more : max place.loads (suc g) ≡ 0 → ⊥ = λ k. absurd (omega (arith, k)) in
          ap (λ k. is_new_key (load_key (item_before all k)) value) z
          ∙ ap (λ l. is_new_key (load_key l) value) (load_at input h.tables place key h.entered g (omega (arith, e, h.given)))
          ∙ own_new
          ∙ sym ((λ i. eq_apart (max place.loads (suc g)) 0 more i || nat_lt (if eq_apart (suc g) 0 apart i then common_before input place.start else m) m) ∙ never_less m)

  -- beside the load behind
  pub flags_behind_it : flags_behind m (common_behind_load input key) ≡ flags_beside (load_key (slice_get all (number + 1))) value
  flags_behind_it = by (nat_lt (key.given + 1) key.count) refl
    where
      by : (b : Bool) → nat_lt (key.given + 1) key.count ≡ b
          → flags_behind m (if b then m else common_before input key.end) ≡ flags_beside (load_key (slice_get all (number + 1))) value
      by true e =
          let d = Decides-ltb (key.given + 1) key.count in
          let z : place.loads + (key.given + 1) ≡ number + 1 = omega arith in
          own_flags
          ∙ sym (ap (λ k. flags_beside (load_key (slice_get all k)) value) (sym z)
          ∙ ap (λ l. flags_beside (load_key l) value) (load_at input h.tables place key h.entered (key.given + 1) (d.0 e)))
      by false e =
          let d = Decides-ltb (key.given + 1) key.count in
          let end = h.entered.end in
          let behind = key_place_behind place key in
          let last : key.count ≤ key.given + 1 = not_more (less_or_not (key.given + 1) key.count) e in
          let z : place.loads + key.count ≡ number + 1 = omega (arith, last, h.given) in
          ap (λ r. flags_behind m (common_with m r (slice_get (ordered_rows input) key.end))) end.last_there
          ∙ last_with m end.last value (slice_get (ordered_rows input) key.end) long
          (λ row f. row_long input h.tables.keys place.start first_row.0 first_row.1 key.end row f) end.last_has
          ∙ ap (λ k. flags_beside k value) (sym (next_key_is input behind h.tables (behind_key input h.tables place key h.entered)))
          ∙ ap (λ k. flags_beside (load_key (slice_get all k)) value) z
        where
          not_more : (key.given + 1 < key.count) ⊎ (key.count ≤ key.given + 1) → nat_lt (key.given + 1) key.count ≡ false → key.count ≤ key.given + 1
          not_more (inl l) f = let d = Decides-ltb (key.given + 1) key.count in absurd (true≢false (sym (d.1 l) ∙ f))
          not_more (inr l) f = l

  -- the load of the key between them is the one of its number
  pub load_is : Some (flagged_load (load_key (item_before all number)) (load_key (slice_get all (number + 1)))
      (merge_load value (matches (length input.tables) value (input_rows 0 input.tables)) key.given)).load
      ≡ option_map (λ (l : KeyedLoad). l.load) (slice_get (merge_loads input.descending input.tables) number)
  load_is =
      sym (ap (option_map (λ (l : KeyedLoad). l.load)) (flagged_at all number)
      ∙ ap (λ l. option_map (λ (k : KeyedLoad). k.load) (option_map (flagged_load (load_key (item_before all number)) (load_key (slice_get all (number + 1)))) l))
      (load_at input h.tables place key h.entered key.given h.given))

-- no more BY variables are in common than there are
pub common_within : (input : InputKeys) (start given first m : ℕ) → first ≡ common_at_load input start given → m ≡ length input.descending → first ≤ m
common_within input start given first m e f = by (nat_eq given 0) e
  where
    by : (b : Bool) → first ≡ (if b then common_before input start else length input.descending) → first ≤ m
    by true q = omega (arith, q, f, before_within input start)
    by false q = omega (arith, q, f)

pub behind_within : (input : InputKeys) (key : KeyRows) (last m : ℕ) → last ≡ common_behind_load input key → m ≡ length input.descending → last ≤ m
behind_within input key last m e f = by (nat_lt (key.given + 1) key.count) e
  where
    by : (b : Bool) → last ≡ (if b then length input.descending else common_before input key.end) → last ≤ m
    by true q = omega (arith, q, f)
    by false q = omega (arith, q, f, before_within input key.end)
