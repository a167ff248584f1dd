-- The loads of a reading statement: what each call of `run` reads, by whole lists of rows. A row is named by its number in its
-- table, and a table by its number in the statement.
use Rattle.std.specs.Prelude.{ℕ, zero, suc, ◌+◌, nat_eq, max, Bool, true, false, not, ◌&&◌, ◌||◌, if◌then◌else◌, List, [], ◌∷◌, ◌++◌, length, map, filter, take, fold, slice_get, Option, Some, None, is_some}
use Rattle.std.specs.List.{list_any, range_with_len}
use Rattle.std.specs.Ordering.{is_lt, ordering_then, ordering_reverse}
use Rattle.std.specs.declared.cmp.Ordering.{Ordering}
use Rattle.std.specs.declared.cmp.Ordering.TheVariants.{Equal}
use Rattle.ds2_value.specs.Order.{key_order, value_eq, same_row}
use Rattle.ds2_value.specs.declared.value.Value.{Value}

-- a row of an input: the number of its table in the statement, its own number there, and the values of the BY variables
pub record InputRow : Type 0 where
  pub table : ℕ
  pub number : ℕ
  pub key : List Value

-- the input of one call of `run`, by the numbers of rows
pub record Load : Type 0 where
  -- for each table of the statement the number of the row that is read, or none
  pub rows : List (Option ℕ)
  -- whether the load before it has other values of the BY variables, or there is none
  pub is_fresh : Bool
  -- the flags of the BY variables, and which tables have rows for this load
  pub first : List Bool
  pub last : List Bool
  pub present : List Bool

-- a load with its values of the BY variables
pub record KeyedLoad : Type 0 where
  pub key : List Value
  pub load : Load

-- ---- BY order

-- how two values of a BY variable stand: turned round where it is descending
abbrev pub value_order : Bool → Value → Value → Ordering
value_order descending x y = if descending then ordering_reverse (key_order x y) else key_order x y

-- how two keys stand: by the first BY variable in which they differ
abbrev pub keys_order : List Bool → List Value → List Value → Ordering
keys_order [] a b = Equal
keys_order (d ∷ ds) [] b = Equal
keys_order (d ∷ ds) (x ∷ xs) [] = Equal
keys_order (d ∷ ds) (x ∷ xs) (y ∷ ys) = ordering_then (value_order d x y) (keys_order ds xs ys)

-- a row among rows in BY order that come after it in the statement: it stands before the first whose key is not less
abbrev pub placed : List Bool → InputRow → List InputRow → List InputRow
placed descending row [] = row ∷ []
placed descending row (other ∷ others) =
    if is_lt (keys_order descending other.key row.key) then other ∷ placed descending row others else row ∷ other ∷ others

-- all rows in BY order; those with equal keys stay in the order of the statement
abbrev pub in_by_order : List Bool → List InputRow → List InputRow
in_by_order descending [] = []
in_by_order descending (row ∷ rows) = placed descending row (in_by_order descending rows)

-- the rows of a table, from the key of each of them
abbrev pub numbered_rows : ℕ → ℕ → List (List Value) → List InputRow
numbered_rows table number [] = []
numbered_rows table number (key ∷ keys) = record { table = table; number = number; key = key } ∷ numbered_rows table (number + 1) keys

-- the rows of all tables in the order of the statement, from the keys of each table's rows
abbrev pub input_rows : ℕ → List (List (List Value)) → List InputRow
input_rows table [] = []
input_rows table (keys ∷ more) = numbered_rows table 0 keys ++ input_rows (table + 1) more

-- a key is among keys
abbrev pub has_key : List (List Value) → List Value → Bool
has_key keys key = list_any (λ other. same_row other key) keys

-- each key once, the first one first, without those that were seen
abbrev pub each_once : List (List Value) → List (List Value) → List (List Value)
each_once seen [] = []
each_once seen (key ∷ keys) = if has_key seen key then each_once seen keys else key ∷ each_once (key ∷ seen) keys

-- ---- flags of the BY variables

-- for each BY variable whether it, or one before it, differs between two keys
abbrev pub differences : Bool → List Value → List Value → List Bool
differences before [] b = []
differences before (x ∷ xs) [] = []
differences before (x ∷ xs) (y ∷ ys) =
    let differs = before || not (value_eq x y) in differs ∷ differences differs xs ys

-- the flags of the BY variables beside a neighbour; where there is none all of them are 1
abbrev pub flags_beside : Option (List Value) → List Value → List Bool
flags_beside None key = map (λ v. true) key
flags_beside (Some other) key = differences false key other

-- the key of the first load
abbrev pub next_key : List KeyedLoad → Option (List Value)
next_key [] = None
next_key (l ∷ ls) = Some l.key

-- a load opens a key where the load before it has another one, or there is none
abbrev pub is_new_key : Option (List Value) → List Value → Bool
is_new_key None key = true
is_new_key (Some previous) key = not (same_row previous key)

-- a load between a load with the one key and a load with the other one
abbrev pub flagged_load : Option (List Value) → Option (List Value) → KeyedLoad → KeyedLoad
flagged_load previous next l =
    record l { load = record l.load { is_fresh = is_new_key previous l.key; first = flags_beside previous l.key; last = flags_beside next l.key } }

-- loads with their flags, behind a load with this key
abbrev pub flagged : Option (List Value) → List KeyedLoad → List KeyedLoad
flagged previous [] = []
flagged previous (l ∷ ls) = flagged_load previous (next_key ls) l ∷ flagged (Some l.key) ls

-- a load of rows of these tables, before its neighbours are known
abbrev pub keyed_load : List Value → List (Option ℕ) → List Bool → KeyedLoad
keyed_load key rows present = record { key = key; load = record { rows = rows; is_fresh = false; first = []; last = []; present = present } }

-- ---- SET

-- for each of so many tables a row's number where the row is of that table
abbrev pub rows_of_one : ℕ → InputRow → List (Option ℕ)
rows_of_one tables row = map (λ table. if nat_eq row.table table then Some row.number else None) (range_with_len 0 tables)

-- a load of `set` has one row, and the flag of its table alone
abbrev pub set_load : ℕ → InputRow → KeyedLoad
set_load tables row = let rows = rows_of_one tables row in keyed_load row.key rows (map is_some rows)

-- the loads of `set`: each row of its tables in BY order, and without BY table after table
abbrev pub set_loads : List Bool → List (List (List Value)) → List KeyedLoad
set_loads descending tables = flagged None (map (set_load (length tables)) (in_by_order descending (input_rows 0 tables)))

-- ---- MERGE

-- the numbers of the rows of a table with a key, in their order
abbrev pub rows_with_key : ℕ → List Value → List InputRow → List ℕ
rows_with_key table key rows =
    map (λ (row : InputRow). row.number) (filter (λ (row : InputRow). nat_eq row.table table && same_row row.key key) rows)

-- for each of so many tables the rows that have a key
abbrev pub matches : ℕ → List Value → List InputRow → List (List ℕ)
matches tables key rows = map (λ table. rows_with_key table key rows) (range_with_len 0 tables)

-- the greatest number of rows that a table has
abbrev pub most_rows : List (List ℕ) → ℕ
most_rows tables = fold (λ most rows. max most (length rows)) 0 tables

-- the load number i of a key, from 0, has the row number i of each table that has one; a table is present where it has any
-- row of the key
abbrev pub merge_load : List Value → List (List ℕ) → ℕ → KeyedLoad
merge_load key tables i = keyed_load key (map (λ rows. slice_get rows i) tables) (map (λ rows. is_some (slice_get rows 0)) tables)

-- the loads of a key: as many as the most rows that a table has of it
abbrev pub loads_of_key : ℕ → List InputRow → List Value → List KeyedLoad
loads_of_key tables rows key = let found = matches tables key rows in map (merge_load key found) (range_with_len 0 (most_rows found))

-- the loads of these keys, one key after the other
abbrev pub loads_of_keys : ℕ → List InputRow → List (List Value) → List KeyedLoad
loads_of_keys tables rows [] = []
loads_of_keys tables rows (key ∷ keys) = loads_of_key tables rows key ++ loads_of_keys tables rows keys

-- the keys of rows
abbrev pub keys_of_rows : List InputRow → List (List Value)
keys_of_rows rows = map (λ (row : InputRow). row.key) rows

-- the loads of `merge`: for each distinct key in BY order those of the key
abbrev pub merge_loads : List Bool → List (List (List Value)) → List KeyedLoad
merge_loads descending tables =
    let rows = input_rows 0 tables in
    flagged None (loads_of_keys (length tables) rows (each_once [] (keys_of_rows (in_by_order descending rows))))

-- ---- groups

-- the loads whose first p BY variables have these values
abbrev pub group_with_key : ℕ → List Value → List KeyedLoad → List KeyedLoad
group_with_key p key loads = filter (λ (l : KeyedLoad). same_row (take p l.key) key) loads

-- the values that the first p BY variables take, each once and the first one first
abbrev pub group_keys : ℕ → List KeyedLoad → List (List Value)
group_keys p loads = each_once [] (map (λ (l : KeyedLoad). take p l.key) loads)

-- the groups at a grain p: the loads with equal values of the first p BY variables; at grain 0 each load is a group
abbrev pub groups : ℕ → List KeyedLoad → List (List KeyedLoad)
groups zero loads = map (λ l. l ∷ []) loads
groups (suc p) loads = map (λ key. group_with_key (suc p) key loads) (group_keys (suc p) loads)
