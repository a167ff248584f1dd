-- Reading: the records of a text, one after the other, and the cells of a record.
use Rattle.std.specs.Prelude.{ℕ, ◌≡◌, ◌+◌, List, [], ◌∷◌, ◌++◌, length, map, take, Option, Some, None, option_map, if◌then◌else◌}
use Rattle.std.specs.Borrow.{Bor}
use Rattle.ds2_base.specs.Bytes.{Bytes}
use Rattle.csv.specs.Machine.{Read, next_record}
use Rattle.csv.specs.Reading.{default_config, records_from}
use Rattle.csv.specs.declared.parser.State.{State}
use Rattle.csv.specs.declared.parser.State.TheVariants as st
use Rattle.ds2_csv_records.specs.Cells.{spelled}
use Rattle.ds2_csv_records.specs.Records.{Rows}
use Rattle.ds2_csv_records.specs.declared.read.Record.{Record}
use Rattle.ds2_csv_records.specs.declared.taken.Taken.{Taken}

-- the records of a text that stands between two records
unfoldable pub records_left : Bytes → Rows
records_left text = records_from default_config (length text + 1) st.StartRecord text

-- the cells of a record and the text after it
abbrev pub Finished : Type 0
Finished = List Bytes × Bytes

-- a record without the state after it
abbrev pub finished : Read → Finished
finished p = (p.0, p.2)

-- the rest of a record behind these cells and this part of a cell, read on from a state
unfoldable pub rest_of : State → List Bytes → Bytes → Bytes → Option Finished
rest_of state cells part text = option_map finished (next_record default_config state cells part text)

-- the rest of a record behind these cells and a cell that was taken
abbrev pub rest_behind : List Bytes → Taken → Option Finished
rest_behind cells taken =
    if taken.more then rest_of st.StartField (cells ++ spelled taken.cell ∷ []) [] taken.rest.now else Some (cells ++ spelled taken.cell ∷ [], taken.rest.now)

-- a cell was taken from the start of a text
abbrev pub IsTaken : Bytes → Taken → Type 0
IsTaken text taken = (cells : List Bytes) → rest_of st.StartField cells [] text ≡ rest_behind cells taken

-- a cell was taken within the next record of a text, behind these cells of it: what the rest of the record makes of them is that record
abbrev pub IsWithin : Bytes → List Bytes → Taken → Type 0
IsWithin text cells taken = (record_read : Finished) → rest_behind cells taken ≡ Some record_read → records_left text ≡ record_read.0 ∷ records_left record_read.1

-- the first cell of the next record of a text, or there is no record
abbrev pub IsFirst : Option Taken → Bytes → Type 0
IsFirst None text = records_left text ≡ []
IsFirst (Some taken) text = IsWithin text [] taken

-- a record holds the first of these cells, as many as are kept at most, and counts them all
pub record Holds (record_now : Record) (most : ℕ) (cells : List Bytes) : Type 0 where
  pub kept : map spelled record_now.cells ≡ take most cells
  pub count : record_now.count ≡ length cells

-- what a text has next: a record, of which so many cells at most are kept, and the text behind it; or no record
abbrev pub IsNext : Option (Bor Bytes) → Record → ℕ → Bytes → Type 0
IsNext None row most text = records_left text ≡ []
IsNext (Some rest) row most text = (cells : List Bytes) × (records_left text ≡ cells ∷ records_left rest.now) × Holds row most cells
