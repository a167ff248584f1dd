-- Hash objects: what their calls leave is of the types of their slots.
use Rattle.std.proofs.Common.{◌≡◌, ℕ, zero, suc, ◌^◌, ◌<◌, ◌≤◌, true, List, [], ◌∷◌, ◌++◌, length, Option, Some, None, refl, sym, subst, arith}
use Rattle.std.specs.Prelude.{slice_get, slice_set, unwrap_or}
use Rattle.std.specs.Option.{option_map}
use Rattle.std.proofs.lemmas.Bool.{lt-ltb}
use Rattle.std.proofs.lemmas.List.{length-append}
use Rattle.ds2_value.specs.HashList.{HashItem, HashItems, item_data, item_position, with_replaced, without_item, HashAnswer, found_item, checked_item, added_item, removed_item, hash_answer, position_sought, item_sought, gone_to, iterator_answer}
use Rattle.ds2_value.specs.Order.{same_row}
use Rattle.ds2_value.specs.Row.{Row}
use Rattle.ds2_value.specs.Types.{fits}
use Rattle.ds2_value.specs.declared.hash_function.HashFunction.{HashFunction}
use Rattle.ds2_value.specs.declared.hash_function.HashFunction.TheVariants as hash
use Rattle.ds2_value.specs.declared.hash_function.IteratorFunction.{IteratorFunction}
use Rattle.ds2_value.specs.declared.ty.Ty.TheVariants.{BigInt}
use Rattle.ds2_code.specs.declared.parts.HashPart.{HashPart}
use Rattle.ds2_code.specs.declared.parts.ProgramParts.{ProgramParts}
use Rattle.ds2_code.specs.declared.parts.Slot.{Slot}
use Rattle.ds2_code.specs.Desk.{ProgramData, values_of_slots}
use Rattle.ds2_code.specs.HashCalls.{with_copied, after_hash_call, answer_of_hash, after_iterator_call, answer_of_iterator}
use Rattle.ds2_code.specs.Fitting.{AreOfTypes, slot_types, AreOfSlots, AreItemsOfSlots, HasRoomFor, AreHashesOfSlots, IsDataOfCode}
use Rattle.ds2_code.proofs.FittingLists.{if_so, settings_of_types, zipped_settings, values_for_slots}

-- data that a call copies
abbrev pub IsCopied : List Slot → HashPart → Option Row → Type 0
IsCopied slots part None = Unit {0}
IsCopied slots part (Some row) = AreOfSlots slots part.data_slots row

module _ (slots : List Slot) (part : HashPart) where
  abbrev pub Items : HashItems → Type 0
  Items items = AreItemsOfSlots slots part items

  -- ---- items

  items_more : (xs : HashItems) (item : HashItem) → Items xs → AreOfSlots slots part.key_slots item.0 → AreOfSlots slots part.data_slots item.1 → Items (xs ++ item ∷ [])
  items_more [] item h k d = (k, d, tt)
  items_more (x ∷ xs) item h k d = (h.0, h.1, items_more xs item h.2 k d)

  data_of_item : (key : Row) (items : HashItems) → Items items → IsCopied slots part (item_data key items)
  data_of_item key [] h = tt
  data_of_item key (item ∷ items) h = if_so (λ (o : Option Row). IsCopied slots part o) (same_row item.0 key) (Some item.1) (item_data key items) h.1 (data_of_item key items h.2)

  replaced_items : (key row : Row) (items : HashItems) → Items items → AreOfSlots slots part.key_slots key → AreOfSlots slots part.data_slots row → Items (with_replaced key row items)
  replaced_items key row [] h k d = (k, d, tt)
  replaced_items key row (item ∷ items) h k d =
      if_so (λ (z : HashItems). Items z) (same_row item.0 key) ((item.0, row) ∷ items) (item ∷ with_replaced key row items) (h.0, d, h.2) (h.0, h.1, replaced_items key row items h.2 k d)

  remaining_items : (key : Row) (items : HashItems) → Items items → Items (without_item key items)
  remaining_items key [] h = tt
  remaining_items key (item ∷ items) h = if_so (λ (z : HashItems). Items z) (same_row item.0 key) items (item ∷ without_item key items) h.2 (h.0, h.1, remaining_items key items h.2)

  item_at : (items : HashItems) (p : ℕ) (item : HashItem) → Items items → slice_get items p ≡ Some item → AreOfSlots slots part.data_slots item.1
  item_at [] p item h e = absurd cc
  item_at (x ∷ items) zero item h e = let w : x ≡ item = cc in subst (λ (z : HashItem). AreOfSlots slots part.data_slots z.1) w h.1
  item_at (x ∷ items) (suc p) item h e = item_at items p item h.2 e

  -- ---- how many

  few_replaced : (key row : Row) (items : HashItems) → length (with_replaced key row items) ≤ suc (length items)
  few_replaced key row [] = omega arith
  few_replaced key row (item ∷ items) =
      let few = few_replaced key row items in
      let same : length ((item.0, row) ∷ items) ≤ suc (length (item ∷ items)) = omega arith in
      let more : length (item ∷ with_replaced key row items) ≤ suc (length (item ∷ items)) = omega (arith, few) in
      if_so (λ (z : HashItems). length z ≤ suc (length (item ∷ items))) (same_row item.0 key) ((item.0, row) ∷ items) (item ∷ with_replaced key row items) same more

  few_remaining : (key : Row) (items : HashItems) → length (without_item key items) ≤ length items
  few_remaining key [] = omega arith
  few_remaining key (item ∷ items) =
      let few = few_remaining key items in
      let less : length items ≤ length (item ∷ items) = omega arith in
      let same : length (item ∷ without_item key items) ≤ length (item ∷ items) = omega (arith, few) in
      if_so (λ (z : HashItems). length z ≤ length (item ∷ items)) (same_row item.0 key) items (item ∷ without_item key items) less same

  -- ---- answers

  -- an answer with a BIGINT as its code, items of their types and room for one item less, and data of their types
  pub record IsAnswer (room : ℕ) (answer : HashAnswer) : Type 0 where
    pub code : fits answer.code BigInt ≡ true
    pub items : Items answer.items
    pub few : HasRoomFor room answer.items
    pub copied : IsCopied slots part answer.copied

  less_room : (room : ℕ) (items : HashItems) → HasRoomFor (suc room) items → HasRoomFor room items
  less_room room items h = omega (arith, h)

  found_answer : (room : ℕ) (o : Option Row) (items : HashItems) → Items items → HasRoomFor (suc room) items → IsCopied slots part o → IsAnswer room (found_item o items)
  found_answer room None items h r c = record { code = refl; items = h; few = less_room room items r; copied = tt }
  found_answer room (Some row) items h r c = record { code = refl; items = h; few = less_room room items r; copied = c }

  checked_answer : (room : ℕ) (o : Option Row) (items : HashItems) → Items items → HasRoomFor (suc room) items → IsAnswer room (checked_item o items)
  checked_answer room None items h r = record { code = refl; items = h; few = less_room room items r; copied = tt }
  checked_answer room (Some row) items h r = record { code = refl; items = h; few = less_room room items r; copied = tt }

  pub added_answer : (room : ℕ) (o : Option Row) (key row : Row) (items : HashItems) → Items items → HasRoomFor (suc room) items → AreOfSlots slots part.key_slots key → AreOfSlots slots part.data_slots row → IsAnswer room (added_item o key row items)
  added_answer room None key row items h r k d =
      let size = length-append items ((key, row) ∷ []) in
      record { code = refl; items = items_more items (key, row) h k d; few = omega (arith, size, r); copied = tt }
  added_answer room (Some present) key row items h r k d = record { code = refl; items = h; few = less_room room items r; copied = tt }

  removed_answer : (room : ℕ) (o : Option ℕ) (key : Row) (items : HashItems) → Items items → HasRoomFor (suc room) items → IsAnswer room (removed_item o key items)
  removed_answer room None key items h r = record { code = refl; items = h; few = less_room room items r; copied = tt }
  removed_answer room (Some j) key items h r =
      let few = few_remaining key items in record { code = refl; items = remaining_items key items h; few = omega (arith, few, r); copied = tt }

  counted : (room : ℕ) (items : HashItems) → HasRoomFor (suc room) items → length items < 2 ^ 63
  counted room items r = omega (arith, r)

  hash_answers : (f : HashFunction) (room : ℕ) (key row : Row) (items : HashItems) → Items items → HasRoomFor (suc room) items → AreOfSlots slots part.key_slots key → AreOfSlots slots part.data_slots row → IsAnswer room (hash_answer f key row items)
  hash_answers hash.Find room key row items h r k d = found_answer room (item_data key items) items h r (data_of_item key items h)
  hash_answers hash.Check room key row items h r k d = checked_answer room (item_data key items) items h r
  hash_answers hash.Add room key row items h r k d = added_answer room (item_data key items) key row items h r k d
  hash_answers hash.Replace room key row items h r k d =
      let few = few_replaced key row items in
      record { code = refl; items = replaced_items key row items h k d; few = omega (arith, few, r); copied = tt }
  hash_answers hash.Remove room key row items h r k d = removed_answer room (item_position key items) key items h r
  hash_answers hash.Clear room key row items h r k d = record { code = refl; items = tt; few = omega (arith, r); copied = tt }
  hash_answers hash.NumItems room key row items h r k d =
      record { code = lt-ltb (length items) (2 ^ 63) (counted room items r); items = h; few = less_room room items r; copied = tt }

  -- ---- iterators

  gone : (o : Option (ℕ × HashItem)) (position : Option ℕ) → ((found : ℕ × HashItem) → o ≡ Some found → AreOfSlots slots part.data_slots found.1.1)
      → (fits (gone_to o position).code BigInt ≡ true) × IsCopied slots part (gone_to o position).copied
  gone None position h = (refl, tt)
  gone (Some found) position h = (refl, h found refl)

  sought_at : (p : ℕ) (items : HashItems) (o : Option HashItem) (found : ℕ × HashItem) → Items items → slice_get items p ≡ o → option_map (λ (item : HashItem). (p, item)) o ≡ Some found → AreOfSlots slots part.data_slots found.1.1
  sought_at p items None found h e g = absurd cc
  sought_at p items (Some item) found h e g = let w : (p, item) ≡ found = cc in subst (λ (z : ℕ × HashItem). AreOfSlots slots part.data_slots z.1.1) w (item_at items p item h e)

  sought : (o : Option ℕ) (items : HashItems) (found : ℕ × HashItem) → Items items → item_sought o items ≡ Some found → AreOfSlots slots part.data_slots found.1.1
  sought None items found h e = absurd cc
  sought (Some p) items found h e = sought_at p items (slice_get items p) found h refl e

  iterator_answers : (f : IteratorFunction) (items : HashItems) (position : Option ℕ) → Items items
      → (fits (iterator_answer f items position).code BigInt ≡ true) × IsCopied slots part (iterator_answer f items position).copied
  iterator_answers f items position h = gone (item_sought (position_sought f (length items) position) items) position (λ found e. sought (position_sought f (length items) position) items found h e)

  -- ---- slots behind a call

  copied_slots : (o : Option Row) (values : Row) → IsCopied slots part o → AreOfTypes values (slot_types slots) → AreOfTypes (with_copied part o values) (slot_types slots)
  copied_slots None values c h = h
  copied_slots (Some row) values c h = settings_of_types slots _ values (zipped_settings slots part.data_slots row c) h

-- ---- all hash objects

-- the items of a hash object are of its slots' types, with room
abbrev pub IsHash : List Slot → ℕ → HashPart → HashItems → Type 0
IsHash slots room part items = AreItemsOfSlots slots part items × HasRoomFor room items

pub hash_at : (slots : List Slot) (room : ℕ) (parts : List HashPart) (all : List HashItems) (h : ℕ) (part : HashPart) → AreHashesOfSlots slots room parts all → slice_get parts h ≡ Some part → IsHash slots room part (unwrap_or (slice_get all h) [])
hash_at slots room [] [] h part a e = absurd cc
hash_at slots room [] (items ∷ all) h part a e = absurd a
hash_at slots room (p ∷ parts) [] h part a e = absurd a
hash_at slots room (p ∷ parts) (items ∷ all) zero part a e = let w : p ≡ part = cc in subst (λ (z : HashPart). IsHash slots room z items) w (a.0, a.1)
hash_at slots room (p ∷ parts) (items ∷ all) (suc h) part a e = hash_at slots room parts all h part a.2 e

-- with less room
pub less_rooms : (slots : List Slot) (room less : ℕ) (parts : List HashPart) (all : List HashItems) → less ≤ room → AreHashesOfSlots slots room parts all → AreHashesOfSlots slots less parts all
less_rooms slots room less [] [] le a = tt
less_rooms slots room less [] (items ∷ all) le a = absurd a
less_rooms slots room less (p ∷ parts) [] le a = absurd a
less_rooms slots room less (p ∷ parts) (items ∷ all) le a = let few = a.1 in (a.0, omega (arith, le, few), less_rooms slots room less parts all le a.2)

-- one hash object has other items, and each has room for one item less
pub hash_set : (slots : List Slot) (room : ℕ) (parts : List HashPart) (all : List HashItems) (h : ℕ) (part : HashPart) (items : HashItems) → AreHashesOfSlots slots (suc room) parts all → slice_get parts h ≡ Some part → IsHash slots room part items
    → AreHashesOfSlots slots room parts (slice_set all h items)
hash_set slots room [] [] h part items a e i = absurd cc
hash_set slots room [] (x ∷ all) h part items a e i = absurd a
hash_set slots room (p ∷ parts) [] h part items a e i = absurd a
hash_set slots room (p ∷ parts) (x ∷ all) zero part items a e i =
    let w : p ≡ part = cc in
    let here = subst (λ (z : HashPart). IsHash slots room z items) (sym w) i in
    (here.0, here.1, less_rooms slots (suc room) room parts all (omega arith) a.2)
hash_set slots room (p ∷ parts) (x ∷ all) (suc h) part items a e i = let few = a.1 in (a.0, omega (arith, few), hash_set slots room parts all h part items a.2 e i)

-- ---- calls

module _ (code : ProgramParts) (stage : Option ProgramParts) (room : ℕ) (part : HashPart) (h : ℕ) (here : slice_get code.hashes h ≡ Some part) (state : ProgramData) (kept : IsDataOfCode code stage (suc room) state) where
  pub hash_call_fits : (f : HashFunction) → (fits (answer_of_hash f h part state).code BigInt ≡ true) × IsDataOfCode code stage room (after_hash_call code h part (answer_of_hash f h part state) state)
  hash_call_fits f =
      let items = hash_at code.slots (suc room) code.hashes state.hashes h part kept.hashes here in
      let key = values_for_slots code.slots part.key_slots state.slots kept.slots in
      let row = values_for_slots code.slots part.data_slots state.slots kept.slots in
      let answer = hash_answers code.slots part f room (values_of_slots part.key_slots state.slots) (values_of_slots part.data_slots state.slots) (unwrap_or (slice_get state.hashes h) []) items.0 items.1 key row in (
        answer.code,
        record {
          slots = copied_slots code.slots part (answer_of_hash f h part state).copied state.slots answer.copied kept.slots;
          hashes = hash_set code.slots room code.hashes state.hashes h part (answer_of_hash f h part state).items kept.hashes here (answer.items, answer.few);
          parameters = kept.parameters;
        },
      )

  pub iterator_call_fits : (f : IteratorFunction) (i : ℕ) → (fits (answer_of_iterator f i h state).code BigInt ≡ true) × IsDataOfCode code stage room (after_iterator_call i part (answer_of_iterator f i h state) state)
  iterator_call_fits f i =
      let items = hash_at code.slots (suc room) code.hashes state.hashes h part kept.hashes here in
      let answer = iterator_answers code.slots part f (unwrap_or (slice_get state.hashes h) []) (unwrap_or (slice_get state.iterators i) None) items.0 in (
        answer.0,
        record {
          slots = copied_slots code.slots part (answer_of_iterator f i h state).copied state.slots answer.1 kept.slots;
          hashes = less_rooms code.slots (suc room) room code.hashes state.hashes (omega arith) kept.hashes;
          parameters = kept.parameters;
        },
      )
