-- What valid code begins with fits.
use Rattle.std.proofs.Common.{◌≡◌, ℕ, zero, suc, ◌+◌, ◌^◌, ◌<◌, true, ◌&&◌, List, [], ◌∷◌, ◌++◌, length, Option, Some, None, refl, sym, subst, arith, IsTrue}
use Rattle.std.specs.Prelude.{slice_get, replicate}
use Rattle.std.specs.List.{list_all, zip}
use Rattle.std.specs.Option.{option_map, option_map_or}
use Rattle.ds2_value.specs.HashList.{HashItems, item_data, hash_answer}
use Rattle.ds2_value.specs.Keeping.{IsHeld, AssignedFits, FittingIsHeld}
use Rattle.ds2_value.specs.Row.{Row, Columns}
use Rattle.ds2_value.specs.Schema.{row_fits, types_in_bounds, distinct_names}
use Rattle.ds2_value.specs.Types.{in_bounds, fits}
use Rattle.ds2_value.specs.Value.{or_null}
use Rattle.ds2_value.specs.declared.hash_function.HashFunction.TheVariants.{Add}
use Rattle.ds2_value.specs.declared.schema.Column.{Column}
use Rattle.ds2_value.specs.declared.ty.Ty.{Ty}
use Rattle.ds2_value.specs.declared.value.Value.{Value}
use Rattle.ds2_value.specs.declared.value.Value.TheVariants.{Null}
use Rattle.ds2_code.specs.declared.parts.HashPart.{HashPart}
use Rattle.ds2_code.specs.declared.parts.HashTable.{HashTable}
use Rattle.ds2_code.specs.declared.parts.OutputPart.{OutputPart}
use Rattle.ds2_code.specs.declared.parts.ProgramParts.{ProgramParts}
use Rattle.ds2_code.specs.declared.parts.Slot.{Slot}
use Rattle.ds2_code.specs.CodeUnit.{assigned_to_slot, row_slot_settings, columns_for, with_rows_added, opening_items, further_tables, opening_hashes, opening_data}
use Rattle.ds2_code.specs.Desk.{SlotSettings}
use Rattle.ds2_code.specs.OperandTypes.{slot_type}
use Rattle.ds2_token.specs.Words.{is_table_name}
use Rattle.ds2_code.specs.ValidCode.{constant_allowed, reference_allowed, method_allowed, reading_allowed, values_allowed, chosen_columns_fit, joins_to_slot, hash_table_fits, layout_fits, IsValidProgram, IsValidChain}
use Rattle.ds2_code.specs.Fitting.{is_of_type, AreOfTypes, slot_types, IsOfSlot, AreOfSlots, AreSettingsOfSlots, AreItemsOfSlots, HasRoomFor, AreHashesOfSlots, AreParametersOfStage, IsDataOfCode}
use Rattle.ds2_code.specs.CodeOpening.{IsTableForHash, AreTablesForHashes, stage_parameter_count, CodeOpeningFits, RowsSetWhatFits}
use Rattle.ds2_code.proofs.FittingLists.{both, some_is, of_type, settings_of_types, zipped_settings}
use Rattle.ds2_code.proofs.FittingNumbers.{assigned_fits}
use Rattle.ds2_code.proofs.FittingHashes.{added_answer}
use Rattle.ds2_code.proofs.FittingUnits.{valid_beside}

-- ---- what valid code has

slots_bounds : (code : ProgramParts) → IsTrue (values_allowed code) → list_all (λ (s : Slot). in_bounds s.ty) code.slots ≡ true
slots_bounds code h =
    let slots = list_all (λ (s : Slot). in_bounds s.ty) code.slots in
    let constants = list_all constant_allowed code.constants in
    (both slots constants (both (slots && constants) _ h).0).0

hashes_allowed : (code : ProgramParts) → IsTrue (values_allowed code) → list_all (λ (h : HashPart). option_map_or (λ (t : HashTable). reference_allowed t.table) h.loaded true) code.hashes ≡ true
hashes_allowed code h =
    let first = list_all (λ (s : Slot). in_bounds s.ty) code.slots && list_all constant_allowed code.constants in
    let hashes = list_all (λ (h : HashPart). option_map_or (λ (t : HashTable). reference_allowed t.table) h.loaded true) code.hashes in
    let methods = list_all method_allowed code.methods in
    let last = reading_allowed code.reading && list_all (λ (o : OutputPart). is_table_name o.name) code.outputs in
    (both hashes methods (both (hashes && methods) last (both first ((hashes && methods) && last) h).1).0).0

hashes_fit : (code : ProgramParts) (stage : Option ProgramParts) → IsTrue (layout_fits code stage) → list_all (λ (hash : HashPart). option_map_or (hash_table_fits code.slots hash) hash.loaded true) code.hashes ≡ true
hashes_fit code stage h = (both (list_all (λ (hash : HashPart). option_map_or (hash_table_fits code.slots hash) hash.loaded true) code.hashes) _ h).0

slot_bounds : (slots : List Slot) (n : ℕ) (ty : Ty) → list_all (λ (s : Slot). in_bounds s.ty) slots ≡ true → slot_type slots n ≡ Some ty → in_bounds ty ≡ true
slot_bounds [] n ty h e = absurd cc
slot_bounds (s ∷ slots) zero ty h e = subst (λ z. in_bounds z ≡ true) (some_is s.ty ty e) ((both (in_bounds s.ty) (list_all (λ (x : Slot). in_bounds x.ty) slots) h).0)
slot_bounds (s ∷ slots) (suc n) ty h e = slot_bounds slots n ty ((both (in_bounds s.ty) (list_all (λ (x : Slot). in_bounds x.ty) slots) h).1) e

null_of_slot : (slots : List Slot) (n : ℕ) → list_all (λ (s : Slot). in_bounds s.ty) slots ≡ true → IsOfSlot slots n Null
null_of_slot slots n h ty e = of_type Null ty refl (slot_bounds slots n ty h e)

nulls_of_slots : (slots : List Slot) (ns : List ℕ) → list_all (λ (s : Slot). in_bounds s.ty) slots ≡ true → AreOfSlots slots ns (replicate (length ns) Null)
nulls_of_slots slots [] h = tt
nulls_of_slots slots (n ∷ ns) h = (null_of_slot slots n h, nulls_of_slots slots ns h)

nulls_in_slots : (slots : List Slot) → list_all (λ (s : Slot). in_bounds s.ty) slots ≡ true → AreOfTypes (replicate (length slots) Null) (slot_types slots)
nulls_in_slots [] h = tt
nulls_in_slots (s ∷ slots) h = let k = both (in_bounds s.ty) (list_all (λ (x : Slot). in_bounds x.ty) slots) h in (of_type Null s.ty refl k.0, nulls_in_slots slots k.1)

-- ---- rows

-- each value can be held
abbrev AllHeld : Row → Type 0
AllHeld [] = Unit {0}
AllHeld (v ∷ vs) = IsHeld v × AllHeld vs

held_at : (row : Row) (n : ℕ) → AllHeld row → IsHeld (or_null (slice_get row n))
held_at [] n h = tt
held_at (v ∷ row) zero h = h.0
held_at (v ∷ row) (suc n) h = held_at row n h.1

module _ (held : FittingIsHeld) (assigned : AssignedFits) where
  row_held : (row : Row) (columns : Columns) → types_in_bounds columns ≡ true → row_fits row columns ≡ true → AllHeld row
  row_held [] columns b h = tt
  row_held (v ∷ row) [] b h = absurd cc
  row_held (v ∷ row) (c ∷ columns) b h =
      let f = both (fits v c.ty) (row_fits row columns) h in
      let k = both (in_bounds c.ty) (types_in_bounds columns) b in
      (held v c.ty k.0 f.0, row_held row columns k.1 f.1)

  module _ (slots : List Slot) (bounds : list_all (λ (s : Slot). in_bounds s.ty) slots ≡ true) where
    assigned_to : (o : Option Slot) (v : Value) (ty : Ty) → option_map (λ (s : Slot). s.ty) o ≡ Some ty → in_bounds ty ≡ true → IsHeld v → IsTrue (is_of_type (assigned_to_slot o v) ty)
    assigned_to None v ty e b h = absurd cc
    assigned_to (Some s) v ty e b h =
        let is : s.ty ≡ ty = some_is s.ty ty e in
        let own : in_bounds s.ty ≡ true = subst (λ z. in_bounds z ≡ true) (sym is) b in
        subst (λ z. IsTrue (is_of_type (assigned_to_slot (Some s) v) z)) is (of_type (assigned_to_slot (Some s) v) s.ty (assigned_fits held assigned v s.ty own h) own)

    assigned_of_slot : (n : ℕ) (v : Value) → IsHeld v → IsOfSlot slots n (assigned_to_slot (slice_get slots n) v)
    assigned_of_slot n v h ty e = assigned_to (slice_get slots n) v ty e (slot_bounds slots n ty bounds e) h

    settings_more : (xs : SlotSettings) (n : ℕ) (v : Value) → AreSettingsOfSlots slots xs → IsOfSlot slots n v → AreSettingsOfSlots slots (xs ++ (n, v) ∷ [])
    settings_more [] n v h k = (k, tt)
    settings_more (x ∷ xs) n v h k = (h.0, settings_more xs n v h.1 k)

    row_settings_fit : (ns : List ℕ) (row : Row) → AllHeld row → AreSettingsOfSlots slots (row_slot_settings slots ns row)
    row_settings_fit [] row h = tt
    row_settings_fit (n ∷ ns) [] h = tt
    row_settings_fit (n ∷ ns) (v ∷ row) h = settings_more (row_slot_settings slots ns row) n (assigned_to_slot (slice_get slots n) v) (row_settings_fit ns row h.1) (assigned_of_slot n v h.0)

    -- ---- hash objects

    chosen_of_slots : (columns : Columns) (ns cs : List ℕ) (row : Row) → chosen_columns_fit slots columns cs ns ≡ true → AllHeld row → AreOfSlots slots ns (columns_for slots ns cs row)
    chosen_of_slots columns [] [] row f h = tt
    chosen_of_slots columns [] (c ∷ cs) row f h = tt
    chosen_of_slots columns (n ∷ ns) [] row f h = absurd cc
    chosen_of_slots columns (n ∷ ns) (c ∷ cs) row f h =
        let k = both (joins_to_slot (option_map (λ (x : Column). x.ty) (slice_get columns c)) (slot_type slots n)) (chosen_columns_fit slots columns cs ns) f in
        (assigned_of_slot n (or_null (slice_get row c)) (held_at row c h), chosen_of_slots columns ns cs row k.1 h)

    module _ (part : HashPart) (loaded : HashTable) (table_bounds : types_in_bounds loaded.table.columns ≡ true) (fit : hash_table_fits slots part loaded ≡ true) where
      key_fits : chosen_columns_fit slots loaded.table.columns loaded.key_columns part.key_slots ≡ true
      key_fits =
          let keys = chosen_columns_fit slots loaded.table.columns loaded.key_columns part.key_slots in
          let rows = chosen_columns_fit slots loaded.table.columns loaded.data_columns part.data_slots in
          (both keys rows (both (distinct_names loaded.table.columns) (keys && rows) fit).1).0

      data_fits : chosen_columns_fit slots loaded.table.columns loaded.data_columns part.data_slots ≡ true
      data_fits =
          let keys = chosen_columns_fit slots loaded.table.columns loaded.key_columns part.key_slots in
          let rows = chosen_columns_fit slots loaded.table.columns loaded.data_columns part.data_slots in
          (both keys rows (both (distinct_names loaded.table.columns) (keys && rows) fit).1).1

      rows_added : (room : ℕ) (rows : List Row) (items : HashItems) → list_all (λ row. row_fits row loaded.table.columns) rows ≡ true → AreItemsOfSlots slots part items → length items + (length rows + room) < 2 ^ 63
          → AreItemsOfSlots slots part (with_rows_added slots part loaded rows items) × HasRoomFor room (with_rows_added slots part loaded rows items)
      rows_added room [] items f i few = (i, omega (arith, few))
      rows_added room (row ∷ rows) items f i few =
          let k = both (row_fits row loaded.table.columns) (list_all (λ row. row_fits row loaded.table.columns) rows) f in
          let all = row_held row loaded.table.columns table_bounds k.0 in
          let key = chosen_of_slots loaded.table.columns part.key_slots loaded.key_columns row key_fits all in
          let data_row = chosen_of_slots loaded.table.columns part.data_slots loaded.data_columns row data_fits all in
          let key_row = columns_for slots part.key_slots loaded.key_columns row in
          let item_row = columns_for slots part.data_slots loaded.data_columns row in
          let less : HasRoomFor (suc (length rows + room)) items = omega (arith, few) in
          let answer = added_answer slots part (length rows + room) (item_data key_row items) key_row item_row items i less key data_row in
          rows_added room rows (hash_answer Add key_row item_row items).items k.1 answer.items answer.few

    items_opened : (part : HashPart) (o : Option HashTable) (room : ℕ) (tables : List (List Row)) → option_map_or (λ (t : HashTable). reference_allowed t.table) o true ≡ true → option_map_or (hash_table_fits slots part) o true ≡ true → room < 2 ^ 63
        → IsTableForHash room o tables → AreItemsOfSlots slots part (opening_items slots part o tables) × HasRoomFor room (opening_items slots part o tables)
    items_opened part None room tables a f few h = (tt, omega (arith, few))
    items_opened part (Some loaded) room [] a f few h = (tt, omega (arith, few))
    items_opened part (Some loaded) room (rows ∷ tables) a f few h =
        let allowed = both (is_table_name loaded.table.name) (types_in_bounds loaded.table.columns) a in
        let fewer = h.few in
        rows_added part loaded allowed.1 f room rows [] h.fit tt (omega (arith, fewer))

    hashes_opened : (parts : List HashPart) (room : ℕ) (tables : List (List Row)) → list_all (λ (h : HashPart). option_map_or (λ (t : HashTable). reference_allowed t.table) h.loaded true) parts ≡ true
        → list_all (λ (hash : HashPart). option_map_or (hash_table_fits slots hash) hash.loaded true) parts ≡ true → room < 2 ^ 63 → AreTablesForHashes room parts tables → AreHashesOfSlots slots room parts (opening_hashes slots parts tables)
    hashes_opened [] room tables a f few h = tt
    hashes_opened (part ∷ parts) room tables a f few h =
        let k = both (option_map_or (λ (t : HashTable). reference_allowed t.table) part.loaded true) (list_all (λ (h : HashPart). option_map_or (λ (t : HashTable). reference_allowed t.table) h.loaded true) parts) a in
        let l = both (option_map_or (hash_table_fits slots part) part.loaded true) (list_all (λ (hash : HashPart). option_map_or (hash_table_fits slots hash) hash.loaded true) parts) f in
        let first = items_opened part part.loaded room tables k.0 l.0 few h.0 in
        (first.0, first.1, hashes_opened parts room (further_tables part.loaded tables) k.1 l.1 few h.1)

  parameters_opened : (stage : Option ProgramParts) → ((p : ProgramParts) → stage ≡ Some p → IsTrue (values_allowed p)) → AreParametersOfStage stage (replicate (stage_parameter_count stage) Null)
  parameters_opened None v = tt
  parameters_opened (Some stage) v = nulls_of_slots stage.slots stage.parameters (slots_bounds stage (v stage refl))

  program_opened : (code : ProgramParts) (stage : Option ProgramParts) (room : ℕ) (given : Row) (tables : List (List Row)) → IsValidProgram code stage → ((p : ProgramParts) → stage ≡ Some p → IsTrue (values_allowed p)) → room < 2 ^ 63
      → AreOfSlots code.slots code.parameters given → AreTablesForHashes room code.hashes tables → IsDataOfCode code stage room (opening_data code given tables (stage_parameter_count stage))
  program_opened code stage room given tables valid staged few g h =
      let bounds = slots_bounds code valid.values in
      record {
        slots = settings_of_types code.slots (zip code.parameters given) (replicate (length code.slots) Null) (zipped_settings code.slots code.parameters given g) (nulls_in_slots code.slots bounds);
        hashes = hashes_opened code.slots bounds code.hashes room tables (hashes_allowed code valid.values) (hashes_fit code stage valid.layout) few h;
        parameters = parameters_opened stage staged;
      }

-- the thread program beside a program of a chain is valid too
stage_allowed : (code : ProgramParts) (stages : List ProgramParts) → IsValidChain code stages → (k : ℕ) (p : ProgramParts) → slice_get stages k ≡ Some p → IsTrue (values_allowed p)
stage_allowed code [] v k p e = absurd cc
stage_allowed code (s ∷ ss) v zero p e = let w : s ≡ p = cc in let own = valid_beside s ss v.1 zero s refl in subst (λ (z : ProgramParts). IsTrue (values_allowed z)) w own.values
stage_allowed code (s ∷ ss) v (suc k) p e = stage_allowed s ss v.1 k p e

pub code_opening_fits : FittingIsHeld → AssignedFits → CodeOpeningFits
code_opening_fits held assigned parts k code room given tables valid here few g h =
    program_opened held assigned code (slice_get parts.stages k) room given tables (valid_beside parts.program parts.stages valid.chain k code here) (λ p e. stage_allowed parts.program parts.stages valid.chain k p e) few g h

pub rows_set_what_fits : FittingIsHeld → AssignedFits → RowsSetWhatFits
rows_set_what_fits held assigned code stage slots columns row valid b f = row_settings_fit held assigned code.slots (slots_bounds code valid.values) slots row (row_held held assigned row columns b f)
