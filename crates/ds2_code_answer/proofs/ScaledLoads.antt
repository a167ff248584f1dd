-- What a load sets has the scales of its slots.
use Rattle.std.proofs.Common.{◌≡◌, ℕ, Bool, true, false, not, ◌||◌, if◌then◌else◌, List, [], ◌∷◌, ◌++◌, map, Option, Some, None, Result, Ok, Err, refl, subst, IsTrue, slice_get}
use Rattle.std.specs.List.{AllByRecursion}
use Rattle.std.specs.Option.{option_map}
use Rattle.ds2_value.specs.Operations.{or_null_at_fault}
use Rattle.ds2_value.specs.Row.{Row}
use Rattle.ds2_value.specs.Types.{assign_of}
use Rattle.ds2_value.specs.declared.fault.Fault.{Fault}
use Rattle.ds2_value.specs.declared.ty.Ty.{Ty}
use Rattle.ds2_value.specs.declared.ty.Ty.TheVariants.{BigInt, Decimal as DecimalOf, Char, Varchar}
use Rattle.ds2_value.specs.declared.value.Value.{Value}
use Rattle.ds2_value.specs.declared.value.Value.TheVariants.{Null, Int, Dec, Txt}
use Rattle.ds2_table.specs.Loads.{Load, KeyedLoad}
use Rattle.ds2_table.specs.Table.{Contents}
use Rattle.ds2_reading.specs.declared.reading.ByKey.{ByKey}
use Rattle.ds2_reading.specs.declared.reading.ReadTable.{ReadTable}
use Rattle.ds2_reading.specs.declared.reading.Reading.{Reading}
use Rattle.ds2_code.specs.declared.parts.Slot.{Slot}
use Rattle.ds2_code.specs.CodeUnit.{assigned_to_slot, row_slot_settings}
use Rattle.ds2_code.specs.Desk.{SlotSettings}
use Rattle.ds2_code.specs.Scales.{is_scaled, AreSettingsScaled}
use Rattle.ds2_code.proofs.ScaledLists.{some_is}
use Rattle.ds2_code.proofs.ScaledResults.{rescaled}
use Rattle.ds2_code_answer.specs.CodeLoads.{slot_flag, column_nulls, table_nulls, row_of_table, settings_of_read, read_settings, in_flag_setting, in_flag_settings, by_flag_settings, first_flag_of, last_flag_of, load_settings, code_keyed_loads, code_reading, retains_columns}
use Rattle.ds2_code_answer.specs.CodeLoadLaws.{LoadsAreScaled}

-- ---- one value

null_or : (r : Result Value Fault) (t : Ty) → ((v : Value) → r ≡ Ok v → IsTrue (is_scaled v t)) → IsTrue (is_scaled (or_null_at_fault r) t)
null_or (Ok v) t h = h v refl
null_or (Err f) t h = refl

assign_scaled : (v : Value) (t : Ty) → IsTrue (is_scaled (or_null_at_fault (assign_of v t)) t)
assign_scaled v (DecimalOf p s) = null_or (assign_of v (DecimalOf p s)) (DecimalOf p s) (λ w e. rescaled p s (v ∷ []) w e)
assign_scaled Null BigInt = refl
assign_scaled (Int i) BigInt = refl
assign_scaled (Dec d) BigInt = refl
assign_scaled (Txt t) BigInt = refl
assign_scaled Null (Char n) = refl
assign_scaled (Int i) (Char n) = refl
assign_scaled (Dec d) (Char n) = refl
assign_scaled (Txt t) (Char n) = refl
assign_scaled Null (Varchar n) = refl
assign_scaled (Int i) (Varchar n) = refl
assign_scaled (Dec d) (Varchar n) = refl
assign_scaled (Txt t) (Varchar n) = refl

assigned_scaled : (o : Option Slot) (v : Value) (t : Ty) → option_map (λ (s : Slot). s.ty) o ≡ Some t → IsTrue (is_scaled (assigned_to_slot o v) t)
assigned_scaled None v t h = absurd cc
assigned_scaled (Some slot) v t h = subst (λ z. IsTrue (is_scaled (or_null_at_fault (assign_of v slot.ty)) z)) (some_is slot.ty t h) (assign_scaled v slot.ty)

flag_scaled : (b : Bool) (t : Ty) → IsTrue (is_scaled (slot_flag b) t)
flag_scaled true t = refl
flag_scaled false t = refl

-- ---- one load

module _ (slots : List Slot) where
  append_scaled : (xs ys : SlotSettings) → AreSettingsScaled slots xs → AreSettingsScaled slots ys → AreSettingsScaled slots (xs ++ ys)
  append_scaled [] ys h k = k
  append_scaled (x ∷ xs) ys h k = (h.0, append_scaled xs ys h.1 k)

  pub row_scaled : (ns : List ℕ) (row : Row) → AreSettingsScaled slots (row_slot_settings slots ns row)
  row_scaled [] row = tt
  row_scaled (n ∷ ns) [] = tt
  row_scaled (n ∷ ns) (v ∷ row) =
      append_scaled (row_slot_settings slots ns row) ((n, assigned_to_slot (slice_get slots n) v) ∷ []) (row_scaled ns row)
      (λ t e. assigned_scaled (slice_get slots n) v t e, tt)

  column_nulls_scaled : (ns : List ℕ) → AreSettingsScaled slots (column_nulls ns)
  column_nulls_scaled [] = tt
  column_nulls_scaled (n ∷ ns) = (λ t e. refl, column_nulls_scaled ns)

  table_nulls_scaled : (reads : List ReadTable) → AreSettingsScaled slots (table_nulls reads)
  table_nulls_scaled [] = tt
  table_nulls_scaled (read ∷ reads) = append_scaled (column_nulls read.slots) (table_nulls reads) (column_nulls_scaled read.slots) (table_nulls_scaled reads)

  nulls_where : (b : Bool) (reads : List ReadTable) → AreSettingsScaled slots (if b then table_nulls reads else [])
  nulls_where true reads = table_nulls_scaled reads
  nulls_where false reads = tt

  read_scaled : (columns : List ℕ) (row : Option Row) → AreSettingsScaled slots (settings_of_read slots columns row)
  read_scaled columns None = tt
  read_scaled columns (Some row) = row_scaled columns row

  reads_scaled : (tables : List Contents) (reads : List ReadTable) (rows : List (Option ℕ)) → AreSettingsScaled slots (read_settings slots tables reads rows)
  reads_scaled tables [] rows = tt
  reads_scaled tables (read ∷ reads) [] = tt
  reads_scaled tables (read ∷ reads) (row ∷ rows) =
      append_scaled (settings_of_read slots read.slots (row_of_table tables read.table row)) (read_settings slots tables reads rows)
      (read_scaled read.slots (row_of_table tables read.table row)) (reads_scaled tables reads rows)

  in_flag_scaled : (o : Option ℕ) (b : Bool) → AreSettingsScaled slots (in_flag_setting o b)
  in_flag_scaled None b = tt
  in_flag_scaled (Some n) b = (λ t e. flag_scaled b t, tt)

  in_flags_scaled : (reads : List ReadTable) (present : List Bool) → AreSettingsScaled slots (in_flag_settings reads present)
  in_flags_scaled [] present = tt
  in_flags_scaled (read ∷ reads) [] = tt
  in_flags_scaled (read ∷ reads) (b ∷ present) =
      append_scaled (in_flag_setting read.in_flag b) (in_flag_settings reads present) (in_flag_scaled read.in_flag b) (in_flags_scaled reads present)

  by_flags_scaled : (slot : ByKey → ℕ) (bys : List ByKey) (flags : List Bool) → AreSettingsScaled slots (by_flag_settings slot bys flags)
  by_flags_scaled slot [] flags = tt
  by_flags_scaled slot (by ∷ bys) [] = tt
  by_flags_scaled slot (by ∷ bys) (flag ∷ flags) = (λ t e. flag_scaled flag t, by_flags_scaled slot bys flags)

  load_scaled : (statement : Reading) (retains : Bool) (tables : List Contents) (load : Load) → AreSettingsScaled slots (load_settings slots statement retains tables load)
  load_scaled statement retains tables load =
      let nulls = (if not retains || load.is_fresh then table_nulls statement.tables else []) in
      let rows = read_settings slots tables statement.tables load.rows in
      let present = in_flag_settings statement.tables load.present in
      let first = by_flag_settings first_flag_of statement.bys load.first in
      let last = by_flag_settings last_flag_of statement.bys load.last in
      append_scaled (((nulls ++ rows) ++ present) ++ first) last
      (append_scaled ((nulls ++ rows) ++ present) first
      (append_scaled (nulls ++ rows) present
      (append_scaled nulls rows (nulls_where (not retains || load.is_fresh) statement.tables) (reads_scaled tables statement.tables load.rows))
      (in_flags_scaled statement.tables load.present))
      (by_flags_scaled first_flag_of statement.bys load.first))
      (by_flags_scaled last_flag_of statement.bys load.last)

  each_scaled : (f : KeyedLoad → SlotSettings) → ((l : KeyedLoad) → AreSettingsScaled slots (f l)) → (loads : List KeyedLoad) → AllByRecursion (AreSettingsScaled slots) (map f loads)
  each_scaled f h [] = tt
  each_scaled f h (l ∷ loads) = (h l, each_scaled f h loads)

pub loads_scaled : LoadsAreScaled
loads_scaled code tables =
    each_scaled code.slots (λ (l : KeyedLoad). load_settings code.slots (code_reading code) (retains_columns code.reading) tables l.load)
    (λ l. load_scaled code.slots (code_reading code) (retains_columns code.reading) tables l.load) (code_keyed_loads code tables)
