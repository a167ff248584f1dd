-- The loads of `set` and of `merge` stand in BY order.
use Rattle.std.proofs.Common.{◌≡◌, ℕ, ◌+◌, Bool, true, false, not, List, [], ◌∷◌, ◌++◌, map, length, refl, arith}
use Rattle.std.specs.Prelude.{if◌then◌else◌, Option, Some, None, IsTrue}
use Rattle.std.specs.List.{list_all, range_with_len}
use Rattle.std.specs.Ordering.{is_gt, ordering_reverse}
use Rattle.std.specs.declared.cmp.Ordering.{Ordering}
use Rattle.std.specs.declared.cmp.Ordering.TheVariants.{Less, Equal, Greater}
use Rattle.ds2_value.specs.declared.value.Value.{Value}
use Rattle.ds2_table.specs.LoadLaws.{HaveKeys, AreSorted, AreInOrderAfter, AreInByOrder, AreKeys, HaveTableKeys, LoadsStandInByOrder}
use Rattle.ds2_table.specs.Loads.{InputRow, KeyedLoad, keys_order, in_by_order, numbered_rows, input_rows, has_key, each_once, flagged, set_load, matches, most_rows, merge_load, loads_of_keys, keys_of_rows}
use Rattle.ds2_table.proofs.ByOrder.{Fits}
use Rattle.ds2_table.proofs.Sorted.{IsNotAfter, keys_antisymm, AllFit, all_fit, not_before_row, first_part, second_part, order_fits, sorted}

-- ---- keys

-- a key stands after none of these
abbrev NotAfterAny : List Bool → List Value → List (List Value) → Type 0
NotAfterAny ds key [] = Unit {0}
NotAfterAny ds key (k ∷ keys) = IsNotAfter ds key k × NotAfterAny ds key keys

-- each key stands after none of those behind it
abbrev SortedKeys : List Bool → List (List Value) → Type 0
SortedKeys ds [] = Unit {0}
SortedKeys ds (k ∷ keys) = NotAfterAny ds k keys × SortedKeys ds keys

own_reverse : (r : Ordering) → r ≡ ordering_reverse r → not (is_gt r) ≡ true
own_reverse Less h = refl
own_reverse Equal h = refl
own_reverse Greater h = cc

not_after_itself : (ds : List Bool) (key : List Value) → IsNotAfter ds key key
not_after_itself ds key = own_reverse (keys_order ds key key) (keys_antisymm ds key key)

fits_long : (ds : List Bool) (xs : List Value) → Fits ds xs → length xs ≡ length ds
fits_long [] [] f = omega arith
fits_long [] (x ∷ xs) f = absurd f
fits_long (d ∷ ds) [] f = absurd f
fits_long (d ∷ ds) (x ∷ xs) f = omega (arith, fits_long ds xs f)

keys_long : (ds : List Bool) (rows : List InputRow) → AllFit ds rows → AreKeys ds (keys_of_rows rows)
keys_long ds [] h = tt
keys_long ds (row ∷ rows) h = (fits_long ds row.key h.0, keys_long ds rows h.1)

keys_behind : (ds : List Bool) (row : InputRow) (rows : List InputRow) → IsTrue (list_all (not_before_row ds row) rows) → NotAfterAny ds row.key (keys_of_rows rows)
keys_behind ds row [] h = tt
keys_behind ds row (x ∷ xs) h = (
  first_part (not_before_row ds row x) (list_all (not_before_row ds row) xs) h,
  keys_behind ds row xs (second_part (not_before_row ds row x) (list_all (not_before_row ds row) xs) h),
)

sorted_keys : (ds : List Bool) (rows : List InputRow) → AreSorted ds rows → SortedKeys ds (keys_of_rows rows)
sorted_keys ds [] h = tt
sorted_keys ds (row ∷ rows) h = (keys_behind ds row rows h.0, sorted_keys ds rows h.1)

-- ---- each key once

once_behind : (ds : List Bool) (key : List Value) (keys seen : List (List Value)) → NotAfterAny ds key keys → NotAfterAny ds key (each_once seen keys)
once_behind ds key [] seen h = tt
once_behind ds key (k ∷ keys) seen h = by (has_key seen k) (once_behind ds key keys seen h.1) (once_behind ds key keys (k ∷ seen) h.1)
  where
    by : (b : Bool) → NotAfterAny ds key (each_once seen keys) → NotAfterAny ds key (each_once (k ∷ seen) keys)
        → NotAfterAny ds key (if b then each_once seen keys else k ∷ each_once (k ∷ seen) keys)
    by true as_seen more = as_seen
    by false as_seen more = (h.0, more)

once_sorted : (ds : List Bool) (keys seen : List (List Value)) → SortedKeys ds keys → SortedKeys ds (each_once seen keys)
once_sorted ds [] seen h = tt
once_sorted ds (k ∷ keys) seen h = by (has_key seen k) (once_sorted ds keys seen h.1) (once_sorted ds keys (k ∷ seen) h.1)
  where
    by : (b : Bool) → SortedKeys ds (each_once seen keys) → SortedKeys ds (each_once (k ∷ seen) keys)
        → SortedKeys ds (if b then each_once seen keys else k ∷ each_once (k ∷ seen) keys)
    by true as_seen more = as_seen
    by false as_seen more = (once_behind ds k keys (k ∷ seen) h.0, more)

once_long : (ds : List Bool) (keys seen : List (List Value)) → AreKeys ds keys → AreKeys ds (each_once seen keys)
once_long ds [] seen h = tt
once_long ds (k ∷ keys) seen h = by (has_key seen k) (once_long ds keys seen h.1) (once_long ds keys (k ∷ seen) h.1)
  where
    by : (b : Bool) → AreKeys ds (each_once seen keys) → AreKeys ds (each_once (k ∷ seen) keys)
        → AreKeys ds (if b then each_once seen keys else k ∷ each_once (k ∷ seen) keys)
    by true as_seen more = as_seen
    by false as_seen more = (h.0, more)

-- ---- loads

flags_keep : (ds : List Bool) (previous : List Value) (loads : List KeyedLoad) (before : Option (List Value)) → AreInOrderAfter ds previous loads
    → AreInOrderAfter ds previous (flagged before loads)
flags_keep ds previous [] before h = tt
flags_keep ds previous (l ∷ loads) before h = (h.0, h.1, flags_keep ds l.key loads (Some l.key) h.2)

flags_keep_all : (ds : List Bool) (loads : List KeyedLoad) (before : Option (List Value)) → AreInByOrder ds loads → AreInByOrder ds (flagged before loads)
flags_keep_all ds [] before h = tt
flags_keep_all ds (l ∷ loads) before h = (h.0, flags_keep ds l.key loads (Some l.key) h.1)

from_the_first : (ds : List Bool) (previous : List Value) (loads : List KeyedLoad) → AreInOrderAfter ds previous loads → AreInByOrder ds loads
from_the_first ds previous [] h = tt
from_the_first ds previous (l ∷ loads) h = (h.0, h.2)

set_after : (ds : List Bool) (n : ℕ) (previous : List Value) (rows : List InputRow) → NotAfterAny ds previous (keys_of_rows rows)
    → SortedKeys ds (keys_of_rows rows) → AreKeys ds (keys_of_rows rows) → AreInOrderAfter ds previous (map (set_load n) rows)
set_after ds n previous [] h s k = tt
set_after ds n previous (row ∷ rows) h s k = (k.0, h.0, set_after ds n row.key rows s.0 s.1 k.1)

set_in_order : (ds : List Bool) (n : ℕ) (rows : List InputRow) → SortedKeys ds (keys_of_rows rows) → AreKeys ds (keys_of_rows rows)
    → AreInByOrder ds (map (set_load n) rows)
set_in_order ds n [] s k = tt
set_in_order ds n (row ∷ rows) s k = (k.0, set_after ds n row.key rows s.0 s.1 k.1)

-- loads of one key, and then others
key_after : (ds : List Bool) (previous key : List Value) (found : List (List ℕ)) (numbers : List ℕ) (rest : List KeyedLoad) → length key ≡ length ds
    → IsNotAfter ds previous key → AreInOrderAfter ds previous rest → AreInOrderAfter ds key rest
    → AreInOrderAfter ds previous (map (merge_load key found) numbers ++ rest)
key_after ds previous key found [] rest f h a b = a
key_after ds previous key found (i ∷ numbers) rest f h a b = (f, h, key_after ds key key found numbers rest f (not_after_itself ds key) b b)

merge_after : (ds : List Bool) (n : ℕ) (rows : List InputRow) (previous : List Value) (keys : List (List Value)) → NotAfterAny ds previous keys
    → SortedKeys ds keys → AreKeys ds keys → AreInOrderAfter ds previous (loads_of_keys n rows keys)
merge_after ds n rows previous [] h s k = tt
merge_after ds n rows previous (key ∷ keys) h s k =
    let found = matches n key rows in
    key_after ds previous key found (range_with_len 0 (most_rows found)) (loads_of_keys n rows keys) k.0 h.0
    (merge_after ds n rows previous keys h.1 s.1 k.1) (merge_after ds n rows key keys s.0 s.1 k.1)

merge_in_order : (ds : List Bool) (n : ℕ) (rows : List InputRow) (keys : List (List Value)) → SortedKeys ds keys → AreKeys ds keys
    → AreInByOrder ds (loads_of_keys n rows keys)
merge_in_order ds n rows [] s k = tt
merge_in_order ds n rows (key ∷ keys) s k =
    from_the_first ds key (loads_of_keys n rows (key ∷ keys)) (merge_after ds n rows key (key ∷ keys) (not_after_itself ds key, s.0) s k)

-- ---- rows of tables

numbered_have : (ds : List Bool) (table number : ℕ) (keys : List (List Value)) → AreKeys ds keys → HaveKeys ds (numbered_rows table number keys)
numbered_have ds table number [] h = tt
numbered_have ds table number (key ∷ keys) h = (h.0, numbered_have ds table (number + 1) keys h.1)

joined_have : (ds : List Bool) (xs ys : List InputRow) → HaveKeys ds xs → HaveKeys ds ys → HaveKeys ds (xs ++ ys)
joined_have ds [] ys h k = k
joined_have ds (x ∷ xs) ys h k = (h.0, joined_have ds xs ys h.1 k)

input_have : (ds : List Bool) (table : ℕ) (tables : List (List (List Value))) → HaveTableKeys ds tables → HaveKeys ds (input_rows table tables)
input_have ds table [] h = tt
input_have ds table (keys ∷ tables) h =
    joined_have ds (numbered_rows table 0 keys) (input_rows (table + 1) tables) (numbered_have ds table 0 keys h.0) (input_have ds (table + 1) tables h.1)

pub loads_stand_in_by_order : LoadsStandInByOrder
loads_stand_in_by_order ds tables h =
    let rows = input_rows 0 tables in
    let fit = all_fit ds rows (input_have ds 0 tables h) in
    let ordered = in_by_order ds rows in
    let keys = keys_of_rows ordered in
    let in_order = sorted_keys ds ordered (sorted ds rows fit) in
    let long = keys_long ds ordered (order_fits ds rows fit) in (
      flags_keep_all ds (map (set_load (length tables)) ordered) None (set_in_order ds (length tables) ordered in_order long),
      flags_keep_all ds (loads_of_keys (length tables) rows (each_once [] keys)) None
          (merge_in_order ds (length tables) rows (each_once [] keys) (once_sorted ds keys [] in_order) (once_long ds keys [] long)),
    )
