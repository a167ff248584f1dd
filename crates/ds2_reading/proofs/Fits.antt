-- Statements that fit their tables.
use Rattle.std.proofs.Common.{◌≡◌, ℕ, ◌<◌, ◌≤◌, Bool, true, false, ◌&&◌, ◌⊎◌, inl, inr, List, length, refl, sym, ◌∙◌, true≢false}
use Rattle.std.specs.Prelude.{IsTrue, nat_le}
use Rattle.std.proofs.lemmas.Bool.Decides.{leb_tells}
use Rattle.std.proofs.lemmas.List.{length-map}
use Rattle.ds2_table.specs.Table.{Contents}
use Rattle.ds2_reading.specs.ReadingFits.{read_tables_fit, by_keys_fit, reading_fits_tables}
use Rattle.ds2_reading.specs.declared.reading.ByKey.{ByKey}
use Rattle.ds2_reading.specs.declared.reading.Reading.{Reading}
use Rattle.ds2_reading.specs.KeyOrder.{InputKeys}
use Rattle.ds2_reading.specs.ReadingKeys.{directions_of, keys_of_table, keys_of_reading}

first_so : (b c : Bool) → b && c ≡ true → b ≡ true
first_so true c h = refl
first_so false c h = absurd (true≢false (sym h))

second_so : (b c : Bool) → b && c ≡ true → c ≡ true
second_so true c h = h
second_so false c h = absurd (true≢false (sym h))

at_most : (a b : ℕ) → nat_le a b ≡ true → a ≤ b
at_most a b h = by (leb_tells a b)
  where
    by : ((nat_le a b ≡ true) × (a ≤ b)) ⊎ ((nat_le a b ≡ false) × (b < a)) → a ≤ b
    by (inl k) = k.1
    by (inr k) = absurd (true≢false (sym h ∙ k.0))

-- a statement that fits has few tables and few BY variables
pub few_tables : (tables : List Contents) (reading : Reading) → IsTrue (reading_fits_tables tables reading) → length reading.tables ≤ 16
few_tables tables reading h =
    at_most (length reading.tables) 16
    (first_so (nat_le (length reading.tables) 16) (nat_le (length reading.bys) 16)
    (first_so (nat_le (length reading.tables) 16 && nat_le (length reading.bys) 16) (read_tables_fit tables reading.tables && by_keys_fit tables reading.tables reading.bys) h))

pub few_bys : (tables : List Contents) (reading : Reading) → IsTrue (reading_fits_tables tables reading) → length reading.bys ≤ 16
few_bys tables reading h =
    at_most (length reading.bys) 16
    (second_so (nat_le (length reading.tables) 16) (nat_le (length reading.bys) 16)
    (first_so (nat_le (length reading.tables) 16 && nat_le (length reading.bys) 16) (read_tables_fit tables reading.tables && by_keys_fit tables reading.tables reading.bys) h))

-- the keys of a statement's tables, and the directions of its BY variables
abbrev pub keys_of_statement : List Contents → Reading → InputKeys
keys_of_statement tables reading = record { descending = directions_of reading.bys; tables = keys_of_reading tables reading }

pub table_count : (tables : List Contents) (reading : Reading) → length (keys_of_reading tables reading) ≡ length reading.tables
table_count tables reading = length-map reading.tables (keys_of_table tables reading.bys)

pub by_count : (reading : Reading) → length (directions_of reading.bys) ≡ length reading.bys
by_count reading = length-map reading.bys (λ (by : ByKey). by.is_descending)
