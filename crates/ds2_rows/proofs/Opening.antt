-- A cursor of `set` at its opening.
use Rattle.std.proofs.Common.{◌≡◌, ℕ, ◌^◌, ◌<◌, zero, suc, List, [], ◌∷◌, length, ap, ◌∙◌, arith}
use Rattle.std.specs.Prelude.{IsTrue, slice_get, Some, None}
use Rattle.ds2_table.specs.LoadLaws.{HaveTableKeys}
use Rattle.ds2_table.specs.Loads.{set_loads}
use Rattle.ds2_table.specs.Table.{Contents}
use Rattle.ds2_reading.specs.ReadingFits.{reading_fits_tables}
use Rattle.ds2_reading.specs.declared.reading.Reading.{Reading}
use Rattle.ds2_reading.specs.CursorState.{Cursor, cursor_at_start}
use Rattle.ds2_reading.specs.KeyOrder.{InputKeys}
use Rattle.ds2_reading.specs.ReadingKeys.{directions_of, keys_of_reading}
use Rattle.ds2_reading.specs.Places.{all_rows}
use Rattle.ds2_reading.proofs.Fits.{few_tables, few_bys, keys_of_statement, table_count, by_count}
use Rattle.ds2_rows.specs.SetPlaces.{IsReady}

-- what stands for a cursor over these tables
abbrev pub cursor_of : InputKeys → (grain given : ℕ) → Cursor
cursor_of input grain given = record {
  tables = length input.tables;
  bys = length input.descending;
  grain = grain;
  loads = set_loads input.descending input.tables;
  given = given;
}

-- before its first load
pub ready_at_start : (tables : List Contents) (reading : Reading) (input : InputKeys) → IsTrue (reading_fits_tables tables reading) → input ≡ keys_of_statement tables reading
    → HaveTableKeys input.descending input.tables → length (all_rows input.descending input.tables) < 2 ^ 32 → IsReady input 0
ready_at_start tables reading input h e keys room = record {
  few_tables = omega (arith, ap (λ (k : InputKeys). length k.tables) e, table_count tables reading, few_tables tables reading h);
  few_bys = omega (arith, ap (λ (k : InputKeys). length k.descending) e, by_count reading, few_bys tables reading h);
  keys = keys;
  room = room;
  within = omega arith;
}

-- a place of a list that is long enough
pub not_past : {A : Type 0} (xs : List A) (i : ℕ) → i < length xs → slice_get xs i ≡ None → ⊥
not_past [] i l e = absurd (omega (arith, l))
not_past (x ∷ xs) zero l e = let none : Some x ≡ None = e in cc
not_past (x ∷ xs) (suc i) l e = not_past xs i (omega (arith, l)) e

-- what stands for a cursor at its opening
pub opened_is : (tables : List Contents) (reading : Reading) (grain : ℕ) (input : InputKeys) (given : ℕ) → input ≡ keys_of_statement tables reading → given ≡ 0
    → cursor_of input grain given ≡ cursor_at_start (length reading.tables) (length reading.bys) grain (set_loads (directions_of reading.bys) (keys_of_reading tables reading))
opened_is tables reading grain input given e z =
    let table-count = ap (λ (k : InputKeys). length k.tables) e ∙ table_count tables reading in
    let by-count = ap (λ (k : InputKeys). length k.descending) e ∙ by_count reading in
    let loads = ap (λ (k : InputKeys). set_loads k.descending k.tables) e in
    λ i. record { tables = table-count i; bys = by-count i; grain = grain; loads = loads i; given = z i }
