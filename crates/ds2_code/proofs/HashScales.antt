-- Hash objects keep data of the scales of their data variables.
use Rattle.std.proofs.Common.{◌≡◌, ℕ, zero, suc, Bool, true, false, List, [], ◌∷◌, ◌++◌, length, Option, Some, None, Result, Ok, Err, refl, ◌∙◌, subst, IsTrue, if◌then◌else◌, slice_get, slice_set}
use Rattle.std.specs.Prelude.{unwrap_or}
use Rattle.std.specs.List.{zip}
use Rattle.std.specs.Option.{option_map}
use Rattle.ds2_value.specs.HashList.{HashItem, HashItems, item_data, item_position, with_replaced, without_item, found_item, checked_item, added_item, removed_item, hash_answer, position_sought, item_sought, gone_to}
use Rattle.ds2_value.specs.Operations.{or_null_at_fault}
use Rattle.ds2_value.specs.Order.{same_row}
use Rattle.ds2_value.specs.Row.{Row}
use Rattle.ds2_value.specs.Types.{assign_of}
use Rattle.ds2_value.specs.Value.{or_null}
use Rattle.ds2_value.specs.declared.hash_function.HashFunction.{HashFunction}
use Rattle.ds2_value.specs.declared.hash_function.HashFunction.TheVariants as hash
use Rattle.ds2_value.specs.declared.hash_function.IteratorFunction.{IteratorFunction}
use Rattle.ds2_value.specs.declared.fault.Fault.{Fault}
use Rattle.ds2_value.specs.declared.ty.Ty.{Ty}
use Rattle.ds2_value.specs.declared.ty.Ty.TheVariants.{BigInt, Decimal as DecimalOf, Char, Varchar}
use Rattle.ds2_value.specs.declared.value.Value.{Value}
use Rattle.ds2_value.specs.declared.value.Value.TheVariants.{Null, Int, Dec, Txt}
use Rattle.ds2_code.specs.declared.parts.HashPart.{HashPart}
use Rattle.ds2_code.specs.declared.parts.HashTable.{HashTable}
use Rattle.ds2_code.specs.declared.parts.ProgramParts.{ProgramParts}
use Rattle.ds2_code.specs.declared.parts.Slot.{Slot}
use Rattle.ds2_code.specs.CodeUnit.{assigned_to_slot, columns_for, with_rows_added, opening_items, further_tables, opening_hashes}
use Rattle.ds2_code.specs.Desk.{ProgramData, values_of_slots}
use Rattle.ds2_code.specs.HashCalls.{with_copied, after_hash_call, answer_of_hash, after_iterator_call, answer_of_iterator}
use Rattle.ds2_code.specs.Scales.{is_scaled, AreScaled, types_of_slots, AreSettingsScaled, AreGivenScaled, AreItemsScaled, AreHashesScaled, IsDataScaled, LoadedHashesAreScaled}
use Rattle.ds2_code.proofs.ScaledLists.{some_is, get_scaled, slot_type_at, settings_scaled}
use Rattle.ds2_code.proofs.ScaledResults.{rescaled}

-- ---- values for slots

given_scaled : (slots : List Slot) (ns : List ℕ) (given : Row) → AreGivenScaled slots ns given → AreSettingsScaled slots (zip ns given)
given_scaled slots [] [] h = tt
given_scaled slots (n ∷ ns) [] h = tt
given_scaled slots [] (v ∷ given) h = tt
given_scaled slots (n ∷ ns) (v ∷ given) h = (h.0, given_scaled slots ns given h.1)

row_scaled : (slots : List Slot) (ns : List ℕ) (values : Row) → AreScaled values (types_of_slots slots) → AreGivenScaled slots ns (values_of_slots ns values)
row_scaled slots [] values h = tt
row_scaled slots (n ∷ ns) values h = (λ ty e. get_scaled values (types_of_slots slots) n ty h (slot_type_at slots n ∙ e), row_scaled slots ns values h)

-- data that are copied have the scales of the slots
abbrev AreCopiedScaled : List Slot → List ℕ → Option Row → Type 0
AreCopiedScaled slots ns None = Unit {0}
AreCopiedScaled slots ns (Some row) = AreGivenScaled slots ns row

copied_scaled : (slots : List Slot) (part : HashPart) (copied : Option Row) (values : Row) → AreCopiedScaled slots part.data_slots copied → AreScaled values (types_of_slots slots) → AreScaled (with_copied part copied values) (types_of_slots slots)
copied_scaled slots part None values c h = h
copied_scaled slots part (Some row) values c h = settings_scaled slots (zip part.data_slots row) values (given_scaled slots part.data_slots row c) h

-- ---- one object

either : {A : Type 0} (P : A → Type 0) (b : Bool) (x y : A) → P x → P y → P (if b then x else y)
either P true x y h k = h
either P false x y h k = k

module _ (slots : List Slot) (ns : List ℕ) where
  abbrev Fine : HashItems → Type 0
  Fine items = AreItemsScaled slots ns items

  abbrev Copied : Option Row → Type 0
  Copied row = AreCopiedScaled slots ns row

  item_last : (items : HashItems) (key row : Row) → Fine items → AreGivenScaled slots ns row → Fine (items ++ (key, row) ∷ [])
  item_last [] key row h g = (g, tt)
  item_last (x ∷ items) key row h g = (h.0, item_last items key row h.1 g)

  item_replaced : (items : HashItems) (key row : Row) → Fine items → AreGivenScaled slots ns row → Fine (with_replaced key row items)
  item_replaced [] key row h g = (g, tt)
  item_replaced (x ∷ items) key row h g =
      either (λ (z : HashItems). Fine z) (same_row x.0 key) ((x.0, row) ∷ items) (x ∷ with_replaced key row items) (g, h.1) (h.0, item_replaced items key row h.1 g)

  item_gone : (items : HashItems) (key : Row) → Fine items → Fine (without_item key items)
  item_gone [] key h = tt
  item_gone (x ∷ items) key h = either (λ (z : HashItems). Fine z) (same_row x.0 key) items (x ∷ without_item key items) h.1 (h.0, item_gone items key h.1)

  data_scaled : (items : HashItems) (key : Row) → Fine items → Copied (item_data key items)
  data_scaled [] key h = tt
  data_scaled (x ∷ items) key h = either (λ (z : Option Row). Copied z) (same_row x.0 key) (Some x.1) (item_data key items) h.0 (data_scaled items key h.1)

  found_copied : (o : Option Row) (items : HashItems) → Copied o → Copied (found_item o items).copied
  found_copied None items h = tt
  found_copied (Some row) items h = h

  checked_copied : (o : Option Row) (items : HashItems) → Copied (checked_item o items).copied
  checked_copied None items = tt
  checked_copied (Some row) items = tt

  added_copied : (o : Option Row) (key row : Row) (items : HashItems) → Copied (added_item o key row items).copied
  added_copied None key row items = tt
  added_copied (Some present) key row items = tt

  removed_copied : (o : Option ℕ) (key : Row) (items : HashItems) → Copied (removed_item o key items).copied
  removed_copied None key items = tt
  removed_copied (Some j) key items = tt

  answer_copied : (f : HashFunction) (key row : Row) (items : HashItems) → Fine items → Copied (hash_answer f key row items).copied
  answer_copied hash.Find key row items h = found_copied (item_data key items) items (data_scaled items key h)
  answer_copied hash.Check key row items h = checked_copied (item_data key items) items
  answer_copied hash.Add key row items h = added_copied (item_data key items) key row items
  answer_copied hash.Replace key row items h = tt
  answer_copied hash.Remove key row items h = removed_copied (item_position key items) key items
  answer_copied hash.Clear key row items h = tt
  answer_copied hash.NumItems key row items h = tt

  found_items : (o : Option Row) (items : HashItems) → Fine items → Fine (found_item o items).items
  found_items None items h = h
  found_items (Some row) items h = h

  checked_items : (o : Option Row) (items : HashItems) → Fine items → Fine (checked_item o items).items
  checked_items None items h = h
  checked_items (Some row) items h = h

  added_items : (o : Option Row) (key row : Row) (items : HashItems) → Fine items → AreGivenScaled slots ns row → Fine (added_item o key row items).items
  added_items None key row items h g = item_last items key row h g
  added_items (Some present) key row items h g = h

  removed_items : (o : Option ℕ) (key : Row) (items : HashItems) → Fine items → Fine (removed_item o key items).items
  removed_items None key items h = h
  removed_items (Some j) key items h = item_gone items key h

  answer_items : (f : HashFunction) (key row : Row) (items : HashItems) → Fine items → AreGivenScaled slots ns row → Fine (hash_answer f key row items).items
  answer_items hash.Find key row items h g = found_items (item_data key items) items h
  answer_items hash.Check key row items h g = checked_items (item_data key items) items h
  answer_items hash.Add key row items h g = added_items (item_data key items) key row items h g
  answer_items hash.Replace key row items h g = item_replaced items key row h g
  answer_items hash.Remove key row items h g = removed_items (item_position key items) key items h
  answer_items hash.Clear key row items h g = tt
  answer_items hash.NumItems key row items h g = h

  at_scaled : (items : HashItems) (p q : ℕ) (from : Option ℕ) → Fine items → Copied (gone_to (option_map (λ (item : HashItem). (q, item)) (slice_get items p)) from).copied
  at_scaled [] p q from h = tt
  at_scaled (x ∷ items) zero q from h = h.0
  at_scaled (x ∷ items) (suc p) q from h = at_scaled items p q from h.1

  sought_scaled : (o : Option ℕ) (items : HashItems) (from : Option ℕ) → Fine items → Copied (gone_to (item_sought o items) from).copied
  sought_scaled None items from h = tt
  sought_scaled (Some p) items from h = at_scaled items p p from h

-- ---- codes of calls

found_code : (o : Option Row) (items : HashItems) → IsTrue (is_scaled (found_item o items).code BigInt)
found_code None items = refl
found_code (Some row) items = refl

checked_code : (o : Option Row) (items : HashItems) → IsTrue (is_scaled (checked_item o items).code BigInt)
checked_code None items = refl
checked_code (Some row) items = refl

added_code : (o : Option Row) (key row : Row) (items : HashItems) → IsTrue (is_scaled (added_item o key row items).code BigInt)
added_code None key row items = refl
added_code (Some present) key row items = refl

removed_code : (o : Option ℕ) (key : Row) (items : HashItems) → IsTrue (is_scaled (removed_item o key items).code BigInt)
removed_code None key items = refl
removed_code (Some j) key items = refl

answer_code : (f : HashFunction) (key row : Row) (items : HashItems) → IsTrue (is_scaled (hash_answer f key row items).code BigInt)
answer_code hash.Find key row items = found_code (item_data key items) items
answer_code hash.Check key row items = checked_code (item_data key items) items
answer_code hash.Add key row items = added_code (item_data key items) key row items
answer_code hash.Replace key row items = refl
answer_code hash.Remove key row items = removed_code (item_position key items) key items
answer_code hash.Clear key row items = refl
answer_code hash.NumItems key row items = refl

gone_code : (o : Option (ℕ × HashItem)) (from : Option ℕ) → IsTrue (is_scaled (gone_to o from).code BigInt)
gone_code None from = refl
gone_code (Some found) from = refl

pub hash_code_scaled : (f : HashFunction) (h : ℕ) (part : HashPart) (state : ProgramData) → IsTrue (is_scaled (answer_of_hash f h part state).code BigInt)
hash_code_scaled f h part state = answer_code f (values_of_slots part.key_slots state.slots) (values_of_slots part.data_slots state.slots) (unwrap_or (slice_get state.hashes h) [])

pub iterator_code_scaled : (f : IteratorFunction) (i h : ℕ) (state : ProgramData) → IsTrue (is_scaled (answer_of_iterator f i h state).code BigInt)
iterator_code_scaled f i h state = gone_code (item_sought (position_sought f (length (unwrap_or (slice_get state.hashes h) [])) (unwrap_or (slice_get state.iterators i) None)) (unwrap_or (slice_get state.hashes h) [])) (unwrap_or (slice_get state.iterators i) None)

-- ---- all objects

items_scaled : (slots : List Slot) (parts : List HashPart) (hashes : List HashItems) (h : ℕ) (part : HashPart) → slice_get parts h ≡ Some part → AreHashesScaled slots parts hashes → AreItemsScaled slots part.data_slots (unwrap_or (slice_get hashes h) [])
items_scaled slots [] hashes h part is s = absurd cc
items_scaled slots (p ∷ parts) [] h part is s = tt
items_scaled slots (p ∷ parts) (items ∷ hashes) zero part is s = let same : p ≡ part = cc in subst (λ (z : HashPart). AreItemsScaled slots z.data_slots items) same s.0
items_scaled slots (p ∷ parts) (items ∷ hashes) (suc h) part is s = items_scaled slots parts hashes h part is s.1

hashes_scaled : (slots : List Slot) (parts : List HashPart) (hashes : List HashItems) (h : ℕ) (part : HashPart) (now : HashItems) → slice_get parts h ≡ Some part → AreItemsScaled slots part.data_slots now → AreHashesScaled slots parts hashes → AreHashesScaled slots parts (slice_set hashes h now)
hashes_scaled slots [] hashes h part now is n s = tt
hashes_scaled slots (p ∷ parts) [] h part now is n s = tt
hashes_scaled slots (p ∷ parts) (items ∷ hashes) zero part now is n s = let same : part ≡ p = cc in (subst (λ (z : HashPart). AreItemsScaled slots z.data_slots now) same n, s.1)
hashes_scaled slots (p ∷ parts) (items ∷ hashes) (suc h) part now is n s = (s.0, hashes_scaled slots parts hashes h part now is n s.1)

pub hash_call_scaled : (code : ProgramParts) (f : HashFunction) (h : ℕ) (part : HashPart) (state : ProgramData) → slice_get code.hashes h ≡ Some part → IsDataScaled code state → IsDataScaled code (after_hash_call code h part (answer_of_hash f h part state) state)
hash_call_scaled code f h part state is s =
    let items = items_scaled code.slots code.hashes state.hashes h part is s.hashes in
    let key = values_of_slots part.key_slots state.slots in
    let row = values_of_slots part.data_slots state.slots in
    record {
      slots = copied_scaled code.slots part (answer_of_hash f h part state).copied state.slots (answer_copied code.slots part.data_slots f key row (unwrap_or (slice_get state.hashes h) []) items) s.slots;
      hashes = hashes_scaled code.slots code.hashes state.hashes h part (answer_of_hash f h part state).items is
          (answer_items code.slots part.data_slots f key row (unwrap_or (slice_get state.hashes h) []) items (row_scaled code.slots part.data_slots state.slots s.slots)) s.hashes;
    }

pub iterator_call_scaled : (code : ProgramParts) (f : IteratorFunction) (i h : ℕ) (part : HashPart) (state : ProgramData) → slice_get code.hashes h ≡ Some part → IsDataScaled code state → IsDataScaled code (after_iterator_call i part (answer_of_iterator f i h state) state)
iterator_call_scaled code f i h part state is s =
    let items = items_scaled code.slots code.hashes state.hashes h part is s.hashes in
    record {
      slots = copied_scaled code.slots part (answer_of_iterator f i h state).copied state.slots
          (sought_scaled code.slots part.data_slots (position_sought f (length (unwrap_or (slice_get state.hashes h) [])) (unwrap_or (slice_get state.iterators i) None)) (unwrap_or (slice_get state.hashes h) []) (unwrap_or (slice_get state.iterators i) None) items) s.slots;
      hashes = s.hashes;
    }

-- ---- objects that are loaded from tables

null_or : (r : Result Value Fault) (t : Ty) → ((v : Value) → r ≡ Ok v → IsTrue (is_scaled v t)) → IsTrue (is_scaled (or_null_at_fault r) t)
null_or (Ok v) t h = h v refl
null_or (Err f) t h = refl

assign_scaled : (v : Value) (t : Ty) → IsTrue (is_scaled (or_null_at_fault (assign_of v t)) t)
assign_scaled v (DecimalOf p s) = null_or (assign_of v (DecimalOf p s)) (DecimalOf p s) (λ w e. rescaled p s (v ∷ []) w e)
assign_scaled Null BigInt = refl
assign_scaled (Int i) BigInt = refl
assign_scaled (Dec d) BigInt = refl
assign_scaled (Txt t) BigInt = refl
assign_scaled Null (Char n) = refl
assign_scaled (Int i) (Char n) = refl
assign_scaled (Dec d) (Char n) = refl
assign_scaled (Txt t) (Char n) = refl
assign_scaled Null (Varchar n) = refl
assign_scaled (Int i) (Varchar n) = refl
assign_scaled (Dec d) (Varchar n) = refl
assign_scaled (Txt t) (Varchar n) = refl

assigned_scaled : (o : Option Slot) (v : Value) (t : Ty) → option_map (λ (s : Slot). s.ty) o ≡ Some t → IsTrue (is_scaled (assigned_to_slot o v) t)
assigned_scaled None v t h = absurd cc
assigned_scaled (Some slot) v t h = subst (λ z. IsTrue (is_scaled (or_null_at_fault (assign_of v slot.ty)) z)) (some_is slot.ty t h) (assign_scaled v slot.ty)

columns_scaled : (slots : List Slot) (ns columns : List ℕ) (row : Row) → AreGivenScaled slots ns (columns_for slots ns columns row)
columns_scaled slots [] columns row = tt
columns_scaled slots (n ∷ ns) [] row = tt
columns_scaled slots (n ∷ ns) (c ∷ cs) row = (λ t e. assigned_scaled (slice_get slots n) (or_null (slice_get row c)) t e, columns_scaled slots ns cs row)

rows_added_scaled : (slots : List Slot) (part : HashPart) (loaded : HashTable) (rows : List Row) (items : HashItems) → AreItemsScaled slots part.data_slots items → AreItemsScaled slots part.data_slots (with_rows_added slots part loaded rows items)
rows_added_scaled slots part loaded [] items h = h
rows_added_scaled slots part loaded (row ∷ rows) items h =
    rows_added_scaled slots part loaded rows (hash_answer hash.Add (columns_for slots part.key_slots loaded.key_columns row) (columns_for slots part.data_slots loaded.data_columns row) items).items
    (answer_items slots part.data_slots hash.Add (columns_for slots part.key_slots loaded.key_columns row) (columns_for slots part.data_slots loaded.data_columns row) items h (columns_scaled slots part.data_slots loaded.data_columns row))

opening_items_scaled : (slots : List Slot) (part : HashPart) (o : Option HashTable) (tables : List (List Row)) → AreItemsScaled slots part.data_slots (opening_items slots part o tables)
opening_items_scaled slots part None tables = tt
opening_items_scaled slots part (Some loaded) [] = tt
opening_items_scaled slots part (Some loaded) (rows ∷ tables) = rows_added_scaled slots part loaded rows [] tt

opening_scaled : (slots : List Slot) (parts : List HashPart) (tables : List (List Row)) → AreHashesScaled slots parts (opening_hashes slots parts tables)
opening_scaled slots [] tables = tt
opening_scaled slots (part ∷ parts) tables = (opening_items_scaled slots part part.loaded tables, opening_scaled slots parts (further_tables part.loaded tables))

pub loaded_hashes_are_scaled : LoadedHashesAreScaled
loaded_hashes_are_scaled code tables = opening_scaled code.slots code.hashes tables
