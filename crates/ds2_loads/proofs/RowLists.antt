-- The rows of tables one after the other.
use Rattle.std.proofs.Common.{◌≡◌, ℕ, zero, suc, ◌+◌, ◌^◌, ◌<◌, ◌≤◌, false, true, nat_eq, Bool, if◌then◌else◌, List, [], ◌∷◌, ◌++◌, length, map, take, drop, set, get_or, Option, Some, None, refl, sym, ap, ◌∙◌, add-one, arith}
use Rattle.std.specs.Prelude.{replicate, is_some}
use Rattle.std.specs.List.{range_with_len}
use Rattle.std.specs.Option.{option_map_or}
use Rattle.std.proofs.lemmas.List.{length-map}
use Rattle.ds2_value.specs.declared.value.Value.{Value}
use Rattle.ds2_table.specs.Loads.{InputRow, KeyedLoad, numbered_rows, input_rows, placed, in_by_order, set_load, flagged, flagged_load, next_key, set_loads}
use Rattle.ds2_table.specs.Table.{Contents}
use Rattle.ds2_reading.specs.declared.load.Load.{Load as LoadInCode}
use Rattle.ds2_reading.specs.declared.reading.ByKey.{ByKey}
use Rattle.ds2_reading.specs.declared.reading.ReadTable.{ReadTable}
use Rattle.ds2_reading.specs.declared.reading.Reading.{Reading}
use Rattle.ds2_reading.specs.LoadMeaning.{row_or_none, bits_of, load_meaning}
use Rattle.ds2_reading.specs.ReadingKeys.{keys_in_columns, keys_of_table, keys_of_reading, directions_of}
use Rattle.ds2_reading.proofs.Bits.{row_alone}
use Rattle.ds2_code.specs.declared.parts.Slot.{Slot}
use Rattle.ds2_code.specs.Desk.{SlotSettings}
use Rattle.ds2_code_answer.specs.CodeLoads.{table_nulls, read_settings, in_flag_settings, by_flag_settings, first_flag_of, last_flag_of, load_settings}
use Rattle.ds2_loads.specs.RowsBehind.{rows_behind, IsRowNext}
use Rattle.ds2_loads.specs.declared.row_place.RowPlace.{RowPlace}

-- ---- how many rows a table has

pub counted : (o : Option Contents) (columns : List ℕ) → length (option_map_or (λ (t : Contents). keys_in_columns columns t.rows) o []) ≡ option_map_or (λ (t : Contents). length t.rows) o 0
counted None columns = refl
counted (Some t) columns = length-map t.rows _

pub ruleset rows_counted = (counted)

-- ---- the rows that are left

numbered_count : (table number : ℕ) (keys : List (List Value)) → length (numbered_rows table number keys) ≡ length keys
numbered_count table number [] = refl
numbered_count table number (key ∷ keys) = ap suc (numbered_count table (number + 1) keys)

all_dropped : {A : Type 0} (given : ℕ) (xs : List A) → length xs ≤ given → drop given xs ≡ []
all_dropped zero [] h = refl
all_dropped zero (x ∷ xs) h = absurd (omega (arith, h))
all_dropped (suc given) [] h = refl
all_dropped (suc given) (x ∷ xs) h = all_dropped given xs (omega (arith, h))

from_first : (tables : List Contents) (number : ℕ) (reads : List ReadTable) → input_rows number (map (keys_of_table tables []) reads) ≡ rows_behind tables number 0 reads
from_first tables number [] = refl
from_first tables number (read ∷ reads) = refl

table_done : (tables : List Contents) (number given : ℕ) (read : ReadTable) (reads : List ReadTable) → length (keys_of_table tables [] read) ≤ given
    → rows_behind tables number given (read ∷ reads) ≡ rows_behind tables (number + 1) 0 reads
table_done tables number given read reads h =
    let keys = keys_of_table tables [] read in
    ap (λ z. z ++ input_rows (number + 1) (map (keys_of_table tables []) reads)) (all_dropped given (numbered_rows number 0 keys) (omega (arith, h, numbered_count number 0 keys)))
    ∙ from_first tables (number + 1) reads

-- the row of a number, and those behind it
record IsRowHere (table number given : ℕ) (keys : List (List Value)) : Type 0 where
  key : List Value
  here : drop given (numbered_rows table number keys) ≡ record { table = table; number = number + given; key = key } ∷ drop (suc given) (numbered_rows table number keys)

row_here : (table number given : ℕ) (keys : List (List Value)) → given < length keys → IsRowHere table number given keys
row_here table number given [] h = absurd (omega (arith, h))
row_here table number zero (key ∷ keys) h =
    let same : number ≡ number + 0 = omega arith in
    record { key = key; here = ap (λ n. record { table = table; number = n; key = key } ∷ numbered_rows table (number + 1) keys) same }
row_here table number (suc given) (key ∷ keys) h =
    let it = row_here table (number + 1) given keys (omega (arith, h)) in
    let same : number + 1 + given ≡ number + suc given = omega arith in
    record { key = it.key; here = it.here ∙ ap (λ n. record { table = table; number = n; key = it.key } ∷ drop (suc given) (numbered_rows table (number + 1) keys)) same }

-- the next row of a table is this one, whatever its key
record IsNextRow (tables : List Contents) (number given : ℕ) (read : ReadTable) (reads : List ReadTable) : Type 0 where
  key : List Value
  left : rows_behind tables number given (read ∷ reads) ≡ record { table = number; number = given; key = key } ∷ rows_behind tables number (given + 1) (read ∷ reads)

next_row : (tables : List Contents) (number given : ℕ) (read : ReadTable) (reads : List ReadTable) → given < length (keys_of_table tables [] read) → IsNextRow tables number given read reads
next_row tables number given read reads h =
    let keys = keys_of_table tables [] read in
    let more = input_rows (number + 1) (map (keys_of_table tables []) reads) in
    let it = row_here number 0 given keys h in
    let same : 0 + given ≡ given = omega arith in
    record {
      key = it.key;
      left = ap (λ z. z ++ more) it.here
          ∙ ap (λ n. record { table = number; number = n; key = it.key } ∷ (drop (suc given) (numbered_rows number 0 keys) ++ more)) same
          ∙ ap (λ n. record { table = number; number = given; key = it.key } ∷ (drop n (numbered_rows number 0 keys) ++ more)) (sym (add-one given));
    }

-- ---- the tables by their numbers

read_first : (reads : List ReadTable) (i : ℕ) (read : ReadTable) → i < length reads → read ≡ get_or reads i read → drop i reads ≡ read ∷ drop (suc i) reads
read_first [] i read h is = absurd (omega (arith, h))
read_first (x ∷ reads) zero read h is = let same : read ≡ x = cc in ap (λ (z : ReadTable). z ∷ reads) (sym same)
read_first (x ∷ reads) (suc i) read h is = read_first reads i read (omega (arith, h)) is

module _ (tables : List Contents) (reads : List ReadTable) where
  pub table_behind : (i given count : ℕ) (read : ReadTable) (whole : List InputRow) → i < length reads → read ≡ get_or reads i read → count ≡ length (keys_of_table tables [] read) → count ≤ given
      → rows_behind tables i given (drop i reads) ≡ whole → rows_behind tables (i + 1) 0 (drop (i + 1) reads) ≡ whole
  table_behind i given count read whole h is counts none so_far =
      ap (λ k. rows_behind tables (i + 1) 0 (drop k reads)) (add-one i)
      ∙ sym (table_done tables i given read (drop (suc i) reads) (omega (arith, counts, none)))
      ∙ ap (λ (rs : List ReadTable). rows_behind tables i given rs) (sym (read_first reads i read h is))
      ∙ so_far

  pub row_there : (i given count : ℕ) (read : ReadTable) (whole : List InputRow) → i < length reads → read ≡ get_or reads i read → count ≡ length (keys_of_table tables [] read) → given < count
      → rows_behind tables i given (drop i reads) ≡ whole → IsRowNext tables reads whole (record { table = i; row = given })
  row_there i given count read whole h is counts more so_far =
      let here = read_first reads i read h is in
      let it = next_row tables i given read (drop (suc i) reads) (omega (arith, counts, more)) in
      record {
        key = it.key;
        left = sym so_far
            ∙ ap (λ (rs : List ReadTable). rows_behind tables i given rs) here
            ∙ it.left
            ∙ ap (λ (rs : List ReadTable). record { table = i; number = given; key = it.key } ∷ rows_behind tables i (given + 1) rs) (sym here);
        table = h;
      }

  pub none_there : (i given : ℕ) (whole : List InputRow) → length reads ≤ i → rows_behind tables i given (drop i reads) ≡ whole → whole ≡ []
  none_there i given whole h so_far = sym so_far ∙ ap (λ (rs : List ReadTable). rows_behind tables i given rs) (all_dropped i reads h)

pub ruleset rows_in_turn = (table_behind, row_there, none_there)

-- ---- the load of a row

some_where : (b : Bool) (number : ℕ) → is_some (if b then Some number else None) ≡ b
some_where true number = refl
some_where false number = refl

there_among : (t number : ℕ) (xs : List ℕ) → map is_some (map (λ table. if nat_eq t table then Some number else None) xs) ≡ map (λ other. nat_eq t other) xs
there_among t number [] = refl
there_among t number (x ∷ xs) = λ i. some_where (nat_eq t x) number i ∷ there_among t number xs i

pub load_is : (place : RowPlace) (l : LoadInCode) (count : ℕ) → count ≤ 16 → place.row + 1 < 2 ^ 64 → l.rows ≡ set (replicate 16 18446744073709551615) place.table place.row → l.is_fresh ≡ false
    → bits_of count l.present ≡ map (λ other. nat_eq place.table other) (range_with_len 0 count) → load_meaning count 0 l ≡ (set_load count (record { table = place.table; number = place.row; key = [] })).load
load_is place l count h k rows fresh present =
    let read = ap (λ rs. map row_or_none (take count rs)) rows ∙ row_alone count place.table place.row h k in
    let there = present ∙ sym (there_among place.table place.row (range_with_len 0 count)) in
    λ i. record { rows = read i; is_fresh = fresh i; first = []; last = []; present = there i }

-- ---- all rows, as the loads of `set` without BY

placed_first : (row : InputRow) (rows : List InputRow) → placed [] row rows ≡ row ∷ rows
placed_first row [] = refl
placed_first row (other ∷ rows) = refl

kept_in_order : (rows : List InputRow) → in_by_order [] rows ≡ rows
kept_in_order [] = refl
kept_in_order (row ∷ rows) = ap (placed [] row) (kept_in_order rows) ∙ placed_first row rows

pub no_bys : (bys : List ByKey) → length bys ≡ 0 → bys ≡ []
no_bys [] h = refl
no_bys (by ∷ bys) h = absurd (omega (arith, h))

module _ (slots : List Slot) (statement : Reading) (tables : List Contents) (none : statement.bys ≡ []) where
  abbrev settings_of : KeyedLoad → SlotSettings
  settings_of l = load_settings slots statement false tables l.load

  -- without BY variables and `retain` what a load sets does not depend on its neighbours
  flags_apart : (previous next : Option (List Value)) (l : KeyedLoad) → settings_of (flagged_load previous next l) ≡ settings_of l
  flags_apart previous next l =
      let front = (table_nulls statement.tables ++ read_settings slots tables statement.tables l.load.rows) ++ in_flag_settings statement.tables l.load.present in
      let first = (flagged_load previous next l).load.first in
      let last = (flagged_load previous next l).load.last in
      ap (λ (bys : List ByKey). (front ++ by_flag_settings first_flag_of bys first) ++ by_flag_settings last_flag_of bys last) none
      ∙ sym (ap (λ (bys : List ByKey). (front ++ by_flag_settings first_flag_of bys l.load.first) ++ by_flag_settings last_flag_of bys l.load.last) none)

  flags_away : (previous : Option (List Value)) (loads : List KeyedLoad) → map settings_of (flagged previous loads) ≡ map settings_of loads
  flags_away previous [] = refl
  flags_away previous (l ∷ loads) =
      ap (λ z. z ∷ map settings_of (flagged (Some l.key) loads)) (flags_apart previous (next_key loads) l) ∙ ap (λ z. settings_of l ∷ z) (flags_away (Some l.key) loads)

  of_rows : (n : ℕ) (rows : List InputRow) → map settings_of (map (set_load n) rows) ≡ map (λ (row : InputRow). settings_of (set_load n row)) rows
  of_rows n [] = refl
  of_rows n (row ∷ rows) = ap (λ z. settings_of (set_load n row) ∷ z) (of_rows n rows)

  pub rows_are_loads : map (λ (row : InputRow). settings_of (set_load (length statement.tables) row)) (rows_behind tables 0 0 statement.tables)
      ≡ map settings_of (set_loads (directions_of statement.bys) (keys_of_reading tables statement))
  rows_are_loads =
      let keys = map (keys_of_table tables []) statement.tables in
      let all = input_rows 0 keys in
      sym (
      ap (λ (bys : List ByKey). map settings_of (set_loads (directions_of bys) (map (keys_of_table tables bys) statement.tables))) none
      ∙ flags_away None (map (set_load (length keys)) (in_by_order [] all))
      ∙ of_rows (length keys) (in_by_order [] all)
      ∙ ap (λ rows. map (λ (row : InputRow). settings_of (set_load (length keys) row)) rows) (kept_in_order all ∙ from_first tables 0 statement.tables)
      ∙ ap (λ n. map (λ (row : InputRow). settings_of (set_load n row)) (rows_behind tables 0 0 statement.tables)) (length-map statement.tables (keys_of_table tables []))
      )
