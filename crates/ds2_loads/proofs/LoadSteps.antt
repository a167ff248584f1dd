-- What a load sets, step by step.
use Rattle.std.proofs.Common.{◌≡◌, ℕ, zero, suc, ◌+◌, ◌<◌, List, [], ◌∷◌, ◌++◌, length, take, drop, get_or, Some, None, refl, sym, ap, ◌∙◌, add-one, arith}
use Rattle.std.specs.Prelude.{map, slice_get}
use Rattle.ds2_value.specs.Row.{Row}
use Rattle.ds2_table.specs.Table.{Contents}
use Rattle.ds2_reading.specs.declared.reading.ReadTable.{ReadTable}
use Rattle.ds2_reading.specs.LoadMeaning.{row_or_none}
use Rattle.ds2_code.specs.declared.parts.Slot.{Slot}
use Rattle.ds2_code.specs.Desk.{SlotSettings, with_slot_settings}
use Rattle.ds2_code_answer.specs.CodeLoads.{column_nulls, table_nulls, row_of_table, settings_of_read, read_settings}
use Rattle.ds2_loads.proofs.SettingLists.{settings_in_turn}

-- ---- nulls, table after table

tables_more : (reads : List ReadTable) (i : ℕ) (read : ReadTable) → i < length reads → read ≡ get_or reads i read
    → table_nulls (drop i reads) ≡ column_nulls read.slots ++ table_nulls (drop (suc i) reads)
tables_more [] i read h is = absurd (omega (arith, h))
tables_more (x ∷ reads) zero read h is = let same : read ≡ x = cc in ap (λ (z : ReadTable). column_nulls z.slots ++ table_nulls reads) (sym same)
tables_more (x ∷ reads) (suc i) read h is = tables_more reads i read (omega (arith, h)) is

pub tables_next : (reads : List ReadTable) (i : ℕ) (read : ReadTable) (slots after whole : Row) → i < length reads → read ≡ get_or reads i read
    → after ≡ with_slot_settings (column_nulls read.slots) slots → with_slot_settings (table_nulls (drop i reads)) slots ≡ whole
    → with_slot_settings (table_nulls (drop (i + 1) reads)) after ≡ whole
tables_next reads i read slots after whole h is step so_far =
    let rest = table_nulls (drop (suc i) reads) in
    ap (λ k. with_slot_settings (table_nulls (drop k reads)) after) (add-one i)
    ∙ ap (λ (z : Row). with_slot_settings rest z) step
    ∙ sym (settings_in_turn (column_nulls read.slots) rest slots)
    ∙ ap (λ xs. with_slot_settings xs slots) (sym (tables_more reads i read h is))
    ∙ so_far

-- ---- rows, table after table

module _ (parts : List Slot) (tables : List Contents) where
  no_rows : (reads : List ReadTable) → read_settings parts tables reads [] ≡ []
  no_rows [] = refl
  no_rows (read ∷ reads) = refl

  none_from : (reads : List ReadTable) (rows : List ℕ) (i : ℕ) → slice_get rows i ≡ None → read_settings parts tables (drop i reads) (map row_or_none (drop i rows)) ≡ []
  none_from reads [] zero h = no_rows reads
  none_from reads [] (suc i) h = no_rows (drop (suc i) reads)
  none_from reads (r ∷ rows) zero h = absurd cc
  none_from [] (r ∷ rows) (suc i) h = refl
  none_from (read ∷ reads) (r ∷ rows) (suc i) h = none_from reads rows i h

  pub reads_end : (reads : List ReadTable) (rows : List ℕ) (i : ℕ) (slots : Row) → slice_get rows i ≡ None
      → with_slot_settings (read_settings parts tables (drop i reads) (map row_or_none (drop i rows))) slots ≡ slots
  reads_end reads rows i slots h = ap (λ xs. with_slot_settings xs slots) (none_from reads rows i h)

  reads_more : (reads : List ReadTable) (rows : List ℕ) (i : ℕ) (read : ReadTable) (row : ℕ) → i < length reads → read ≡ get_or reads i read → slice_get rows i ≡ Some row
      → read_settings parts tables (drop i reads) (map row_or_none (drop i rows))
      ≡ settings_of_read parts read.slots (row_of_table tables read.table (row_or_none row)) ++ read_settings parts tables (drop (suc i) reads) (map row_or_none (drop (suc i) rows))
  reads_more [] rows i read row h is there = absurd (omega (arith, h))
  reads_more (x ∷ reads) [] zero read row h is there = absurd cc
  reads_more (x ∷ reads) [] (suc i) read row h is there = absurd cc
  reads_more (x ∷ reads) (r ∷ rows) zero read row h is there =
      let same : read ≡ x = cc in
      let same_row : r ≡ row = cc in
      ap (λ (z : ℕ). settings_of_read parts x.slots (row_of_table tables x.table (row_or_none z)) ++ read_settings parts tables reads (map row_or_none rows)) same_row
      ∙ ap (λ (z : ReadTable). settings_of_read parts z.slots (row_of_table tables z.table (row_or_none row)) ++ read_settings parts tables reads (map row_or_none rows)) (sym same)
  reads_more (x ∷ reads) (r ∷ rows) (suc i) read row h is there = reads_more reads rows i read row (omega (arith, h)) is there

  pub reads_next : (reads : List ReadTable) (rows : List ℕ) (i : ℕ) (read : ReadTable) (row : ℕ) (slots after whole : Row) → i < length reads → read ≡ get_or reads i read → slice_get rows i ≡ Some row
      → after ≡ with_slot_settings (settings_of_read parts read.slots (row_of_table tables read.table (row_or_none row))) slots
      → with_slot_settings (read_settings parts tables (drop i reads) (map row_or_none (drop i rows))) slots ≡ whole
      → with_slot_settings (read_settings parts tables (drop (i + 1) reads) (map row_or_none (drop (i + 1) rows))) after ≡ whole
  reads_next reads rows i read row slots after whole h is there step so_far =
      let own = settings_of_read parts read.slots (row_of_table tables read.table (row_or_none row)) in
      let rest = read_settings parts tables (drop (suc i) reads) (map row_or_none (drop (suc i) rows)) in
      ap (λ k. with_slot_settings (read_settings parts tables (drop k reads) (map row_or_none (drop k rows))) after) (add-one i)
      ∙ ap (λ (z : Row). with_slot_settings rest z) step
      ∙ sym (settings_in_turn own rest slots)
      ∙ ap (λ xs. with_slot_settings xs slots) (sym (reads_more reads rows i read row h is there))
      ∙ so_far

  -- rows behind those of the statement's tables are not read
  pub reads_taken : (reads : List ReadTable) (rows : List ℕ) → read_settings parts tables reads (map row_or_none (take (length reads) rows)) ≡ read_settings parts tables reads (map row_or_none rows)
  reads_taken [] rows = refl
  reads_taken (read ∷ reads) [] = refl
  reads_taken (read ∷ reads) (row ∷ rows) =
      ap (λ xs. settings_of_read parts read.slots (row_of_table tables read.table (row_or_none row)) ++ xs) (reads_taken reads rows)

pub ruleset rows_in_turn = (reads_end, reads_next)

-- ---- the whole of a load

pub five_in_turn : (a b c d e : SlotSettings) (s t u v w x : Row) → t ≡ with_slot_settings a s → u ≡ with_slot_settings b t → v ≡ with_slot_settings c u
    → w ≡ with_slot_settings d v → x ≡ with_slot_settings e w → x ≡ with_slot_settings ((((a ++ b) ++ c) ++ d) ++ e) s
five_in_turn a b c d e s t u v w x ta ub vc wd xe =
    xe ∙ ap (λ (z : Row). with_slot_settings e z) (wd ∙ ap (λ (z : Row). with_slot_settings d z) (vc ∙ ap (λ (z : Row). with_slot_settings c z) (ub ∙ ap (λ (z : Row). with_slot_settings b z) ta)))
    ∙ sym (
    settings_in_turn (((a ++ b) ++ c) ++ d) e s
    ∙ ap (λ (z : Row). with_slot_settings e z) (
    settings_in_turn ((a ++ b) ++ c) d s
    ∙ ap (λ (z : Row). with_slot_settings d z) (settings_in_turn (a ++ b) c s ∙ ap (λ (z : Row). with_slot_settings c z) (settings_in_turn a b s))
    )
    )
