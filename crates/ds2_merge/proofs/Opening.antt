-- A cursor of `merge` at its opening.
use Rattle.std.proofs.Common.{◌≡◌, ℕ, ◌^◌, ◌<◌, zero, suc, List, [], ◌∷◌, length, ap, ◌∙◌, arith}
use Rattle.std.specs.Prelude.{IsTrue, slice_get, Some, None}
use Rattle.ds2_table.specs.LoadLaws.{HaveTableKeys}
use Rattle.ds2_table.specs.Loads.{merge_loads}
use Rattle.ds2_table.specs.Table.{Contents}
use Rattle.ds2_reading.specs.ReadingFits.{reading_fits_tables}
use Rattle.ds2_reading.specs.declared.reading.Reading.{Reading}
use Rattle.ds2_reading.specs.CursorState.{Cursor, cursor_at_start}
use Rattle.ds2_reading.specs.KeyOrder.{InputKeys}
use Rattle.ds2_reading.specs.ReadingKeys.{directions_of, keys_of_reading}
use Rattle.ds2_reading.proofs.Fits.{few_tables, few_bys, keys_of_statement, table_count, by_count}
use Rattle.ds2_merge.specs.KeyPlaces.{opening_key_place, between_keys, ordered_rows, HasTables, IsBetweenKeys, IsReadyToMerge, loads_given}
use Rattle.ds2_merge.specs.declared.key_place.KeyPlace.{KeyPlace}
use Rattle.ds2_merge.proofs.KeyStates.{at_start}

-- a cursor can read the tables of a statement that fits
pub can_read : (tables : List Contents) (reading : Reading) (input : InputKeys) → IsTrue (reading_fits_tables tables reading) → input ≡ keys_of_statement tables reading
    → HaveTableKeys input.descending input.tables → length (ordered_rows input) < 2 ^ 32 → HasTables input
can_read tables reading input fits e keys room = record {
  few_tables = omega (arith, ap (λ (k : InputKeys). length k.tables) e, table_count tables reading, few_tables tables reading fits);
  few_bys = omega (arith, ap (λ (k : InputKeys). length k.descending) e, by_count reading, few_bys tables reading fits);
  keys = keys;
  room = room;
}

-- what stands for a cursor over these tables
abbrev pub cursor_of : InputKeys → (grain given : ℕ) → Cursor
cursor_of input grain given = record {
  tables = length input.tables;
  bys = length input.descending;
  grain = grain;
  loads = merge_loads input.descending input.tables;
  given = given;
}

pub ready_at_start : (input : InputKeys) → HasTables input → IsReadyToMerge input (between_keys opening_key_place)
ready_at_start input h = record { tables = h; place = at_start input h; key = tt }

-- a place of a list that is long enough
pub not_past : {A : Type 0} (xs : List A) (i : ℕ) → i < length xs → slice_get xs i ≡ None → ⊥
not_past [] i l e = absurd (omega (arith, l))
not_past (x ∷ xs) zero l e = let none : Some x ≡ None = e in cc
not_past (x ∷ xs) (suc i) l e = not_past xs i (omega (arith, l)) e

-- what stands for a cursor at its opening
pub opened_is : (tables : List Contents) (reading : Reading) (grain : ℕ) (input : InputKeys) (given : ℕ) → input ≡ keys_of_statement tables reading → given ≡ 0
    → cursor_of input grain given ≡ cursor_at_start (length reading.tables) (length reading.bys) grain (merge_loads (directions_of reading.bys) (keys_of_reading tables reading))
opened_is tables reading grain input given e z =
    let table-count = ap (λ (k : InputKeys). length k.tables) e ∙ table_count tables reading in
    let by-count = ap (λ (k : InputKeys). length k.descending) e ∙ by_count reading in
    let loads = ap (λ (k : InputKeys). merge_loads k.descending k.tables) e in
    λ i. record { tables = table-count i; bys = by-count i; grain = grain; loads = loads i; given = z i }

-- a place between two keys is one behind which the next load can be given
pub between_ready : (input : InputKeys) (place : KeyPlace) → HasTables input → IsBetweenKeys input place → IsReadyToMerge input (between_keys place)
between_ready input place h here = record { tables = h; place = here; key = tt }

pub between_given : (place : KeyPlace) → loads_given (between_keys place) ≡ place.loads
between_given place = omega arith
