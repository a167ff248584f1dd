-- Hash objects that are loaded from tables, one after the other.
use Rattle.std.proofs.Common.{◌≡◌, ℕ, zero, suc, ◌+◌, ◌<◌, Bool, true, false, ◌&&◌, List, [], ◌∷◌, ◌++◌, Option, Some, None, length, drop, get_or, refl, sym, ap, ◌∙◌, subst, append_assoc, add-one, arith, IsTrue}
use Rattle.std.specs.Prelude.{slice_get}
use Rattle.std.specs.List.{list_all}
use Rattle.std.specs.Option.{option_map}
use Rattle.ds2_value.specs.HashList.{HashItems, hash_answer}
use Rattle.ds2_value.specs.Row.{Row}
use Rattle.ds2_value.specs.Types.{in_bounds}
use Rattle.ds2_value.specs.Value.{or_null}
use Rattle.ds2_value.specs.declared.hash_function.HashFunction.TheVariants as hash
use Rattle.ds2_value.specs.declared.value.Value.{Value}
use Rattle.ds2_code.specs.declared.parts.HashPart.{HashPart}
use Rattle.ds2_code.specs.declared.parts.HashTable.{HashTable}
use Rattle.ds2_code.specs.declared.parts.Slot.{Slot}
use Rattle.ds2_code.specs.CodeUnit.{assigned_to_slot, columns_for, with_rows_added, opening_items, opening_hashes, further_tables}
use Rattle.ds2_slots.specs.LoadedHashes.{AreSlotTypesInBounds}

-- ---- a value

first_true : (a b : Bool) → (a && b) ≡ true → a ≡ true
first_true true b h = refl
first_true false b h = absurd cc

second_true : (a b : Bool) → (a && b) ≡ true → b ≡ true
second_true true b h = h
second_true false b h = absurd cc

pub type_in_bounds : (slots : List Slot) (n : ℕ) (slot : Slot) → AreSlotTypesInBounds slots → Some slot ≡ slice_get slots n → IsTrue (in_bounds slot.ty)
type_in_bounds [] n slot h is = absurd cc
type_in_bounds (s ∷ slots) zero slot h is = let same : s ≡ slot = cc in subst (λ (z : Slot). IsTrue (in_bounds z.ty)) same (first_true (in_bounds s.ty) (list_all (λ (z : Slot). in_bounds z.ty) slots) h)
type_in_bounds (s ∷ slots) (suc n) slot h is = type_in_bounds slots n slot (second_true (in_bounds s.ty) (list_all (λ (z : Slot). in_bounds z.ty) slots) h) is

-- ---- the columns of a row

module _ (slots : List Slot) where
  no_columns : (ns : List ℕ) (row : Row) → columns_for slots ns [] row ≡ []
  no_columns [] row = refl
  no_columns (n ∷ ns) row = refl

  pub columns_end : (ns cs : List ℕ) (row : Row) (i : ℕ) → slice_get cs i ≡ None → columns_for slots (drop i ns) (drop i cs) row ≡ []
  columns_end [] [] row zero h = refl
  columns_end (n ∷ ns) [] row zero h = refl
  columns_end ns (c ∷ cs) row zero h = absurd cc
  columns_end [] [] row (suc i) h = refl
  columns_end (n ∷ ns) [] row (suc i) h = no_columns (drop i ns) row
  columns_end [] (c ∷ cs) row (suc i) h = refl
  columns_end (n ∷ ns) (c ∷ cs) row (suc i) h = columns_end ns cs row i h

  abbrev column : ℕ → ℕ → Row → Value
  column n c row = assigned_to_slot (slice_get slots n) (or_null (slice_get row c))

  columns_more : (ns cs : List ℕ) (row : Row) (i n c : ℕ) → slice_get ns i ≡ Some n → slice_get cs i ≡ Some c
      → columns_for slots (drop i ns) (drop i cs) row ≡ column n c row ∷ columns_for slots (drop (suc i) ns) (drop (suc i) cs) row
  columns_more [] cs row i n c h k = absurd cc
  columns_more (m ∷ ns) [] row i n c h k = absurd cc
  columns_more (m ∷ ns) (d ∷ cs) row zero n c h k =
      let same : m ≡ n = cc in
      let same_column : d ≡ c = cc in
      ap (λ (z : ℕ). column z d row ∷ columns_for slots ns cs row) same ∙ ap (λ (z : ℕ). column n z row ∷ columns_for slots ns cs row) same_column
  columns_more (m ∷ ns) (d ∷ cs) row (suc i) n c h k = columns_more ns cs row i n c h k

  pub columns_next : (ns cs : List ℕ) (row : Row) (i n c : ℕ) (list whole : Row) (v : Value) → slice_get ns i ≡ Some n → slice_get cs i ≡ Some c → v ≡ column n c row
      → list ++ columns_for slots (drop i ns) (drop i cs) row ≡ whole → (list ++ v ∷ []) ++ columns_for slots (drop (i + 1) ns) (drop (i + 1) cs) row ≡ whole
  columns_next ns cs row i n c list whole v h k e so_far =
      append_assoc list (v ∷ []) (columns_for slots (drop (i + 1) ns) (drop (i + 1) cs) row)
      ∙ ap (λ (z : Value). list ++ z ∷ columns_for slots (drop (i + 1) ns) (drop (i + 1) cs) row) e
      ∙ ap (λ (z : ℕ). list ++ column n c row ∷ columns_for slots (drop z ns) (drop z cs) row) (add-one i)
      ∙ ap (λ (z : Row). list ++ z) (sym (columns_more ns cs row i n c h k)) ∙ so_far

pub ruleset columns = (columns_end, columns_next)

-- ---- the rows of a table

module _ (slots : List Slot) (part : HashPart) (loaded : HashTable) where
  abbrev added : Row → HashItems → HashItems
  added row items = (hash_answer hash.Add (columns_for slots part.key_slots loaded.key_columns row) (columns_for slots part.data_slots loaded.data_columns row) items).items

  rows_more : (rows : List Row) (items : HashItems) (i : ℕ) → i < length rows
      → with_rows_added slots part loaded (drop i rows) items ≡ with_rows_added slots part loaded (drop (suc i) rows) (added (get_or rows i []) items)
  rows_more [] items i h = absurd (omega (arith, h))
  rows_more (x ∷ rows) items zero h = refl
  rows_more (x ∷ rows) items (suc i) h = rows_more rows items i (omega arith)

  pub rows_next : (rows : List Row) (items whole : HashItems) (i n : ℕ) → n ≡ length rows → i < n → with_rows_added slots part loaded (drop i rows) items ≡ whole
      → with_rows_added slots part loaded (drop (i + 1) rows) (added (get_or rows i []) items) ≡ whole
  rows_next rows items whole i n e h so_far =
      ap (λ (k : ℕ). with_rows_added slots part loaded (drop k rows) (added (get_or rows i []) items)) (add-one i)
      ∙ sym (rows_more rows items i (omega (arith, e, h))) ∙ so_far

  pub rows_end : (rows : List Row) (items : HashItems) (n : ℕ) → n ≡ length rows → with_rows_added slots part loaded (drop n rows) items ≡ items
  rows_end [] items zero e = refl
  rows_end [] items (suc n) e = refl
  rows_end (x ∷ rows) items zero e = absurd (omega (arith, e))
  rows_end (x ∷ rows) items (suc n) e = rows_end rows items n (omega (arith, e))

pub ruleset rows = (rows_next, rows_end)

-- a value in a row and a column
pub no_row : (rows : List Row) (i c : ℕ) → slice_get rows i ≡ None → or_null None ≡ or_null (slice_get (get_or rows i []) c)
no_row [] i c h = refl
no_row (row ∷ rows) zero c h = let none : Some row ≡ None = h in cc
no_row (row ∷ rows) (suc i) c h = no_row rows i c h

pub no_table_row : (tables : List (List Row)) (t i c : ℕ) → slice_get tables t ≡ None → or_null None ≡ or_null (slice_get (get_or (get_or tables t []) i []) c)
no_table_row [] t i c h = refl
no_table_row (rows ∷ tables) zero i c h = let none : Some rows ≡ None = h in cc
no_table_row (rows ∷ tables) (suc t) i c h = no_table_row tables t i c h

pub table_there : (tables : List (List Row)) (t : ℕ) (rows : List Row) → slice_get tables t ≡ Some rows → rows ≡ get_or tables t []
table_there [] t rows h = let none : None ≡ Some rows = h in cc
table_there (x ∷ tables) zero rows h = cc
table_there (x ∷ tables) (suc t) rows h = table_there tables t rows h

pub row_there : (rows : List Row) (i : ℕ) (row : Row) → slice_get rows i ≡ Some row → row ≡ get_or rows i []
row_there [] i row h = let none : None ≡ Some row = h in cc
row_there (x ∷ rows) zero row h = cc
row_there (x ∷ rows) (suc i) row h = row_there rows i row h

pub ruleset cells = (no_row, no_table_row, table_there, row_there)

-- ---- one object

module _ (slots : List Slot) (part : HashPart) where
  pub not_loaded : (o : Option HashTable) (tables : List (List Row)) → o ≡ None → [] ≡ opening_items slots part o tables
  not_loaded None tables h = refl
  not_loaded (Some loaded) tables h = absurd cc

  pub no_table : (o : Option HashTable) (tables : List (List Row)) (n : ℕ) → None ≡ option_map (λ (rows : List Row). length rows) (slice_get tables n) → [] ≡ opening_items slots part o (drop n tables)
  no_table None tables n h = refl
  no_table (Some loaded) [] zero h = refl
  no_table (Some loaded) [] (suc n) h = refl
  no_table (Some loaded) (t ∷ tables) zero h = let none : None ≡ Some (length t) = h in cc
  no_table (Some loaded) (t ∷ tables) (suc n) h = no_table (Some loaded) tables n h

  from_rows : (loaded : HashTable) (tables : List (List Row)) (n count : ℕ) → Some count ≡ option_map (λ (rows : List Row). length rows) (slice_get tables n)
      → with_rows_added slots part loaded (get_or tables n []) [] ≡ opening_items slots part (Some loaded) (drop n tables)
  from_rows loaded [] n count h = let none : Some count ≡ None = h in cc
  from_rows loaded (t ∷ tables) zero count h = refl
  from_rows loaded (t ∷ tables) (suc n) count h = from_rows loaded tables n count h

  pub from_table : (o : Option HashTable) (loaded : HashTable) (tables : List (List Row)) (n count : ℕ) → o ≡ Some loaded → Some count ≡ option_map (λ (rows : List Row). length rows) (slice_get tables n)
      → with_rows_added slots part loaded (get_or tables n []) [] ≡ opening_items slots part o (drop n tables)
  from_table o loaded tables n count is h = from_rows loaded tables n count h ∙ ap (λ (z : Option HashTable). opening_items slots part z (drop n tables)) (sym is)

-- how many rows a table has
pub counted : (tables : List (List Row)) (n count : ℕ) → Some count ≡ option_map (λ (rows : List Row). length rows) (slice_get tables n) → count ≡ length (get_or tables n [])
counted [] n count h = let none : Some count ≡ None = h in cc
counted (t ∷ tables) zero count h = let same : Some count ≡ Some (length t) = h in cc
counted (t ∷ tables) (suc n) count h = counted tables n count h

pub ruleset object = (not_loaded, no_table, from_table, counted)

-- ---- all of them

one_behind : (loaded : HashTable) (n : ℕ) (tables : List (List Row)) → drop (suc n) tables ≡ further_tables (Some loaded) (drop n tables)
one_behind loaded zero [] = refl
one_behind loaded (suc n) [] = refl
one_behind loaded zero (t ∷ tables) = refl
one_behind loaded (suc n) (t ∷ tables) = one_behind loaded n tables

pub same_behind : (o : Option HashTable) (n : ℕ) → o ≡ None → (tables : List (List Row)) → drop n tables ≡ further_tables o (drop n tables)
same_behind o n is tables = ap (λ (z : Option HashTable). further_tables z (drop n tables)) (sym is)

pub next_behind : (o : Option HashTable) (loaded : HashTable) (n : ℕ) → o ≡ Some loaded → (tables : List (List Row)) → drop (n + 1) tables ≡ further_tables o (drop n tables)
next_behind o loaded n is tables =
    ap (λ k. drop k tables) (add-one n) ∙ one_behind loaded n tables ∙ ap (λ (z : Option HashTable). further_tables z (drop n tables)) (sym is)

pub ruleset behind = (same_behind, next_behind)

module _ (slots : List Slot) where
  objects_more : (parts : List HashPart) (tables : List (List Row)) (i : ℕ) (p : HashPart) → i < length parts → p ≡ get_or parts i p
      → opening_hashes slots (drop i parts) tables ≡ opening_items slots p p.loaded tables ∷ opening_hashes slots (drop (suc i) parts) (further_tables p.loaded tables)
  objects_more [] tables i p h e = absurd (omega (arith, h))
  objects_more (x ∷ parts) tables zero p h e =
      let same : p ≡ x = cc in ap (λ (z : HashPart). opening_items slots z z.loaded tables ∷ opening_hashes slots parts (further_tables z.loaded tables)) (sym same)
  objects_more (x ∷ parts) tables (suc i) p h e = objects_more parts tables i p (omega arith) e

  pub objects_next : (parts : List HashPart) (tables : List (List Row)) (i k next : ℕ) (p : HashPart) (list whole : List HashItems) (o : HashItems) → i < length parts → p ≡ get_or parts i p
      → o ≡ opening_items slots p p.loaded (drop k tables) → ((ts : List (List Row)) → drop next ts ≡ further_tables p.loaded (drop k ts))
      → list ++ opening_hashes slots (drop i parts) (drop k tables) ≡ whole → (list ++ o ∷ []) ++ opening_hashes slots (drop (i + 1) parts) (drop next tables) ≡ whole
  objects_next parts tables i k next p list whole o h e is behind so_far =
      append_assoc list (o ∷ []) (opening_hashes slots (drop (i + 1) parts) (drop next tables))
      ∙ ap (λ (z : HashItems). list ++ z ∷ opening_hashes slots (drop (i + 1) parts) (drop next tables)) is
      ∙ ap (λ (z : List (List Row)). list ++ opening_items slots p p.loaded (drop k tables) ∷ opening_hashes slots (drop (i + 1) parts) z) (behind tables)
      ∙ ap (λ (z : ℕ). list ++ opening_items slots p p.loaded (drop k tables) ∷ opening_hashes slots (drop z parts) (further_tables p.loaded (drop k tables))) (add-one i)
      ∙ ap (λ (z : List HashItems). list ++ z) (sym (objects_more parts (drop k tables) i p h e)) ∙ so_far

pub ruleset objects = (objects_next)
