-- The walk over the rows of a key.
use Rattle.std.proofs.Common.{◌≡◌, ℕ, zero, suc, ◌+◌, ◌<◌, ◌≤◌, Bool, true, false, not, nat_lt, List, [], ◌∷◌, ◌++◌, length, drop, refl, sym, ap, ◌∙◌, subst, true≢false, arith}
use Rattle.std.specs.Prelude.{slice_get, Some, None}
use Rattle.std.specs.List.{list_all}
use Rattle.std.specs.Option.{option_map_or}
use Rattle.std.specs.Ordering.{is_lt}
use Rattle.std.proofs.lemmas.Bool.Decides.{Decides-ltb}
use Rattle.std.proofs.lemmas.List.{append-nil, append_assoc, drop_all}
use Rattle.ds2_value.specs.Order.{same_row}
use Rattle.ds2_table.specs.LoadLaws.{HaveTableKeys, AreSorted, rows_of_key}
use Rattle.ds2_table.specs.Loads.{InputRow}
use Rattle.ds2_table.proofs.ByOrder.{rows_equiv}
use Rattle.ds2_table.proofs.Sorted.{AllFit, not_before_row, first_part}
use Rattle.ds2_reading.specs.KeyOrder.{InputKeys, parts_order}
use Rattle.ds2_reading.specs.Places.{item_before, common_with, common_before}
use Rattle.ds2_reading.proofs.AllRows.{key_joined, rows_behind_fit, rows_behind_sorted, all_rows_fit, long_at}
use Rattle.ds2_reading.proofs.FlagLemmas.{common_new}
use Rattle.ds2_merge.specs.KeyPlaces.{ordered_rows, left_behind, key_at, IsKeyEnd}
use Rattle.ds2_merge.proofs.KeySplits.{this_key, none_of_earlier, has_the_key, passed_behind, first_passes}

-- the row at a place, and those behind it
pub row_there : {A : Type 0} (xs : List A) (k : ℕ) → k < length xs → (x : A) × (slice_get xs k ≡ Some x) × (drop k xs ≡ x ∷ drop (k + 1) xs)
row_there [] k l = absurd (omega (arith, l))
row_there (x ∷ xs) zero l = (x, refl, refl)
row_there (x ∷ xs) (suc k) l =
    let e : suc k + 1 ≡ suc (k + 1) = omega arith in
    let rest = row_there xs k (omega (arith, l)) in (rest.0, rest.1, rest.2 ∙ ap (λ n. rest.0 ∷ drop n (x ∷ xs)) (sym e))

-- the key at a place is that of the row there
pub key_is : (input : InputKeys) (place : ℕ) (row : InputRow) → slice_get (ordered_rows input) place ≡ Some row → key_at input place ≡ row.key
key_is input place row e = ap (λ r. option_map_or (λ (x : InputRow). x.key) r []) e

before_next : {A : Type 0} (xs : List A) (k : ℕ) → item_before xs (k + 1) ≡ slice_get xs k
before_next xs k = let e : k + 1 ≡ suc k = omega arith in ap (item_before xs) e

item_there : {A : Type 0} (xs : List A) (k : ℕ) (x : A) → item_before xs k ≡ Some x → (j : ℕ) × (slice_get xs j ≡ Some x)
item_there xs zero x e = let none : None ≡ Some x = e in cc
item_there xs (suc k) x e = (k, e)

-- some rows of the key of the row at a place come before those behind an end
pub record IsWithinRows (input : InputKeys) (start end : ℕ) : Type 0 where
  pub low : start < end
  pub high : end ≤ length (ordered_rows input)
  pub rows : List InputRow
  pub left : left_behind input start ≡ rows ++ left_behind input end
  pub of_key : rows_of_key (key_at input start) rows ≡ rows
  pub last : InputRow
  pub last_there : item_before (ordered_rows input) end ≡ Some last
  pub last_has : same_row last.key (key_at input start) ≡ true

-- the row itself
pub one_row : (input : InputKeys) (start : ℕ) → start < length (ordered_rows input) → IsWithinRows input start (start + 1)
one_row input start l =
    let found = row_there (ordered_rows input) start l in
    let q = rows_equiv in
    let has : same_row found.0.key (key_at input start) ≡ true = ap (same_row found.0.key) (key_is input start found.0 found.1) ∙ q.refl found.0.key in
    record {
      low = omega arith;
      high = omega (arith, l);
      rows = found.0 ∷ [];
      left = found.2;
      of_key = this_key (key_at input start) found.0 [] has;
      last = found.0;
      last_there = before_next (ordered_rows input) start ∙ found.1;
      last_has = has;
    }

-- where none of the rows behind the end has the key, it is the key's end
ends_here : (input : InputKeys) (start end : ℕ) → IsWithinRows input start end → rows_of_key (key_at input start) (left_behind input end) ≡ [] → IsKeyEnd input start end
ends_here input start end h none =
    let key = key_at input start in
    record {
      low = h.low;
      high = h.high;
      rows =
          h.left
          ∙ ap (λ r. r ++ left_behind input end)
          (sym (ap (rows_of_key key) h.left ∙ key_joined key h.rows (left_behind input end) ∙ (λ i. h.of_key i ++ none i) ∙ append-nil h.rows));
      others = none;
      last = h.last;
      last_there = h.last_there;
      last_has = h.last_has;
    }

not_false : (b : Bool) → not b ≡ true → b ≡ false
not_false true h = cc
not_false false h = refl

not_true : (b : Bool) → not b ≡ false → b ≡ true
not_true true h = refl
not_true false h = cc

module _ (input : InputKeys) (start end : ℕ) (keys : HaveTableKeys input.descending input.tables) (h : IsWithinRows input start end) where
  abbrev ds : List Bool
  ds = input.descending

  abbrev all : List InputRow
  all = ordered_rows input

  -- no row is behind the end
  pub ends_with_none : length all ≤ end → IsKeyEnd input start end
  ends_with_none l = ends_here input start end h (ap (rows_of_key (key_at input start)) (drop_all end all l))

  module _ (l : end < length all) where
    front : (x : InputRow) × (slice_get all start ≡ Some x) × (drop start all ≡ x ∷ drop (start + 1) all)
    front = row_there all start (omega (arith, h.low, l))

    this : (x : InputRow) × (slice_get all end ≡ Some x) × (drop end all ≡ x ∷ drop (end + 1) all)
    this = row_there all end l

    own : key_at input start ≡ front.0.key
    own = key_is input start front.0 front.1

    fit : (k : ℕ) (row : InputRow) → slice_get all k ≡ Some row → length row.key ≡ length ds
    fit k row e = long_at ds all k row (all_rows_fit ds input.tables keys) e

    last_long : length h.last.key ≡ length ds
    last_long = let there = item_there all end h.last h.last_there in fit there.0 h.last there.1

    -- whether the row at the end has the key of the one before
    same_if : not (same_row h.last.key this.0.key) ≡ nat_lt (common_before input end) (length ds)
    same_if =
        common_new (length ds) h.last.key this.0.key last_long (fit end this.0 this.1)
        ∙ sym (λ i. nat_lt (common_with (length ds) (h.last_there i) (this.1 i)) (length ds))

    front_fit : AllFit ds (front.0 ∷ drop (start + 1) all)
    front_fit = let P : List InputRow → Type 0 = AllFit ds in subst P front.2 (rows_behind_fit ds input.tables start keys)

    front_sorted : AreSorted ds (front.0 ∷ drop (start + 1) all)
    front_sorted = let P : List InputRow → Type 0 = AreSorted ds in subst P front.2 (rows_behind_sorted ds input.tables start keys)

    this_fit : AllFit ds (this.0 ∷ drop (end + 1) all)
    this_fit = let P : List InputRow → Type 0 = AllFit ds in subst P this.2 (rows_behind_fit ds input.tables end keys)

    this_sorted : AreSorted ds (this.0 ∷ drop (end + 1) all)
    this_sorted = let P : List InputRow → Type 0 = AreSorted ds in subst P this.2 (rows_behind_sorted ds input.tables end keys)

    not_before : not_before_row ds front.0 this.0 ≡ true
    not_before =
        let passes : list_all (not_before_row ds front.0) (h.rows ++ this.0 ∷ drop (end + 1) all) ≡ true =
        ap (list_all (not_before_row ds front.0)) (sym (sym front.2 ∙ h.left ∙ ap (λ r. h.rows ++ r) this.2))
        ∙ first_passes ds front.0 (drop (start + 1) all) front_fit.0 front_sorted in
        first_part (not_before_row ds front.0 this.0) (list_all (not_before_row ds front.0) (drop (end + 1) all))
        (passed_behind (not_before_row ds front.0) h.rows (this.0 ∷ drop (end + 1) all) passes)

    last_front : same_row h.last.key front.0.key ≡ true
    last_front = ap (same_row h.last.key) (sym own) ∙ h.last_has

    -- a row that differs from the one before is behind the key
    pub ends_before : common_before input end < length ds → IsKeyEnd input start end
    ends_before less =
        let d = Decides-ltb (common_before input end) (length ds) in
        let apart : same_row h.last.key this.0.key ≡ false = not_false (same_row h.last.key this.0.key) (same_if ∙ d.1 less) in
        by (is_lt (parts_order ds front.0.key this.0.key)) refl apart
      where
        by : (b : Bool) → is_lt (parts_order ds front.0.key this.0.key) ≡ b → same_row h.last.key this.0.key ≡ false → IsKeyEnd input start end
        by true e n =
            ends_here input start end h
            (ap (λ key. rows_of_key key (left_behind input end)) own
            ∙ ap (rows_of_key front.0.key) this.2
            ∙ none_of_earlier ds front.0.key this.0 (drop (end + 1) all) front_fit.0 this_fit this_sorted e)
        by false e n =
            let q = rows_equiv in
            let has = has_the_key ds front.0 this.0 front_fit.0 this_fit.0 not_before e in
            absurd (true≢false (sym has ∙ q.symm this.0.key front.0.key ∙ sym (q.congr h.last.key front.0.key this.0.key last_front) ∙ n))

    -- one that does not has it
    pub goes_on : length ds ≤ common_before input end → IsWithinRows input start (end + 1)
    goes_on more =
        let d = Decides-ltb (common_before input end) (length ds) in
        let same : same_row h.last.key this.0.key ≡ true = by_not (nat_lt (common_before input end) (length ds)) refl in
        let q = rows_equiv in
        let has : same_row this.0.key (key_at input start) ≡ true =
        ap (same_row this.0.key) own ∙ sym (q.congr h.last.key this.0.key front.0.key same) ∙ last_front in
        let key = key_at input start in
        record {
          low = omega (arith, h.low);
          high = omega (arith, l);
          rows = h.rows ++ this.0 ∷ [];
          left = h.left ∙ ap (λ r. h.rows ++ r) this.2 ∙ sym (append_assoc h.rows (this.0 ∷ []) (drop (end + 1) all));
          of_key = key_joined key h.rows (this.0 ∷ []) ∙ (λ i. h.of_key i ++ this_key key this.0 [] has i);
          last = this.0;
          last_there = before_next all end ∙ this.1;
          last_has = has;
        }
      where
        by_not : (b : Bool) → nat_lt (common_before input end) (length ds) ≡ b → same_row h.last.key this.0.key ≡ true
        by_not true e = let d = Decides-ltb (common_before input end) (length ds) in absurd (omega (arith, more, d.0 e))
        by_not false e = not_true (same_row h.last.key this.0.key) (same_if ∙ e)
