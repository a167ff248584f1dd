-- Typed: the rows of a file under columns whose types are told or supposed, as they are read.
use Rattle.std.specs.Prelude.{ℕ, Bool, true, false, ◌&&◌, nat_lt, ◌≡◌, ◌+◌, ◌*◌, ◌≤◌, List, [], ◌∷◌, ◌++◌, length, map, slice_get, slice_set, Option, Some, None, Result, Ok, Err}
use Rattle.std.specs.Borrow.{Bor}
use Rattle.std.specs.List.{list_all}
use Rattle.std.specs.Option.{is_some}
use Rattle.ds2_base.specs.Bytes.{Bytes}
use Rattle.ds2_base.specs.declared.stop.Stop.{Stop}
use Rattle.ds2_base.specs.declared.stop.Stop.TheVariants.{Refused, OutOfMemory}
use Rattle.ds2_columns.specs.Columns.{ColumnContents, with_value}
use Rattle.ds2_csv_records.specs.Reading.{records_left}
use Rattle.ds2_csv_cells.specs.Cells.{value_of}
use Rattle.ds2_table.specs.Table.{Contents}
use Rattle.ds2_value.specs.Types.{same_ty}
use Rattle.ds2_value.specs.declared.schema.Column.{Column}
use Rattle.ds2_value.specs.declared.ty.Ty.{Ty}
use Rattle.ds2_value.specs.declared.value.Value.{Value}
use Rattle.ds2_csv.specs.Columns.{columns_from}
use Rattle.ds2_csv.specs.Known.{AreInferred, HoldIn, HoldTo, TellsColumn}
use Rattle.ds2_csv.specs.Reads.{under_columns}
use Rattle.ds2_csv.specs.Records.{Rows, odd_from}
use Rattle.ds2_csv.specs.Refusals.{of_cell, of_file}
use Rattle.ds2_csv.specs.Sheet.{sheet_of, of_sheet}
use Rattle.ds2_csv.specs.Values.{rows_from}
use Rattle.ds2_csv.specs.declared.heading.Heading.{Heading}
use Rattle.ds2_csv.specs.declared.limits.TheConstants.{MOST_CELLS}
use Rattle.ds2_csv.specs.declared.refusal.CsvKind.TheVariants.{BadCell, TooLarge}
use Rattle.ds2_csv.specs.declared.refusal.CsvRefusal.{CsvRefusal}
use Rattle.ds2_csv.specs.declared.typed.Typed.{Typed}

-- each heading tells its type
abbrev pub are_typed : List Heading → Bool
are_typed headings = list_all (λ h. is_some h.ty) headings

-- columns have the types that were supposed
unfoldable pub are_confirmed : List Column → List Column → Bool
are_confirmed [] [] = true
are_confirmed [] (c ∷ cs) = false
are_confirmed (s ∷ ss) [] = false
are_confirmed (s ∷ ss) (c ∷ cs) = same_ty s.ty c.ty && are_confirmed ss cs

-- the table of rows below headings
abbrev pub under_headings : List Heading → Rows → Result Contents CsvRefusal
under_headings headings rows = of_sheet (λ even. under_columns (columns_from 0 headings even) even) (sheet_of (length headings) rows)

-- the types of a table's columns
abbrev pub types_of : List Column → List Ty
types_of columns = map (λ (c : Column). c.ty) columns

-- columns of values have the types of a table's columns, and so many of them, no more than there are, are told of
pub record HasColumnTypes (typed : Typed) (columns : List Column) (count : ℕ) : Type 0 where
  pub types : map (λ (v : ColumnContents). v.ty) typed.values.items ≡ types_of columns
  pub known : length typed.known ≡ count
  pub few : count ≤ length columns

-- a column has the values of these cells
abbrev pub HasValues : List Column → ℕ → ColumnContents → List Bytes → Type 0
HasValues columns column values cells = (c : Column) → slice_get columns column ≡ Some c → map (λ (v : Value). Some v) values.values ≡ map (value_of c.ty) cells

-- rows were read: the columns have the values of their cells, or this is the refusal of the first cell that has none
abbrev pub AreRead : Option CsvRefusal → List Column → List ColumnContents → Rows → Type 0
AreRead None columns values rows = HoldIn (HasValues columns) values rows
AreRead (Some bad) columns values rows = (later : Rows) → rows_from columns 1 (rows ++ later) ≡ Err bad

-- the same of rows and the first cells of one more
abbrev pub AreReadTo : Option CsvRefusal → List Column → List ColumnContents → Rows → List Bytes → Type 0
AreReadTo None columns values rows cells = HoldTo (HasValues columns) values rows cells
AreReadTo (Some bad) columns values rows cells = (more : List Bytes) (later : Rows) → rows_from columns 1 (rows ++ (cells ++ more) ∷ later) ≡ Err bad

-- what was read of rows of so many cells as there are columns: what their cells tell, and their values as long as there are not
-- too many cells
pub record HasRead (typed : Typed) (columns : List Column) (rows : Rows) : Type 0 where
  pub even : odd_from (length columns) 1 rows ≡ None
  pub known : AreInferred typed.known rows
  pub read : length rows * length columns ≤ MOST_CELLS → AreRead typed.bad columns typed.values.items rows

-- the same of rows and the first cells of one more
pub record HasReadTo (typed : Typed) (columns : List Column) (rows : Rows) (cells : List Bytes) : Type 0 where
  pub even : odd_from (length columns) 1 rows ≡ None
  pub known : HoldTo TellsColumn typed.known rows cells
  pub read : (1 + length rows) * length columns ≤ MOST_CELLS → AreReadTo typed.bad columns typed.values.items rows cells

-- a value was put at the end of a column, or the cell of this row and column has none
abbrev pub IsPut : Option Value → ℕ → ℕ → Typed → Typed → Type 0
IsPut None number column old new = new.bad ≡ Some (of_cell BadCell number (column + 1))
IsPut (Some v) number column old new =
    (new.bad ≡ old.bad) × ((values : ColumnContents) → slice_get old.values.items column ≡ Some values → new.values.items ≡ slice_set old.values.items column (with_value values v))

-- a row was read behind others, and the text behind it is left; or the next row has another number of cells than there are columns
abbrev pub IsRowRead : Option (Bor Bytes) → Bytes → Typed → List Column → Rows → Type 0
IsRowRead None text new columns rows = (odd : List Bytes) × (more : Rows) × (records_left text ≡ odd ∷ more) × (length columns ≡ length odd → ⊥)
IsRowRead (Some rest) text new columns rows =
    (row : List Bytes) × (records_left text ≡ row ∷ records_left rest.now) × (length row ≡ length columns) × HasRead new columns (rows ++ row ∷ [])

-- all rows were read, and there are not too many cells
pub record HasReadAll (typed : Typed) (columns : List Column) (rows : Rows) : Type 0 where
  pub reading : HasRead typed columns rows
  pub few : length rows * length columns ≤ MOST_CELLS
  pub count : typed.rows ≡ length rows

-- rows of a text were read, all of them where it has ended; or this is the first reason why they are no sheet
abbrev pub AreRowsRead : Result Typed (Stop CsvRefusal) → List Column → Bytes → Type 0
AreRowsRead (Err OutOfMemory) columns text = Unit {0}
AreRowsRead (Err (Refused refusal)) columns text = sheet_of (length columns) (records_left text) ≡ Err refusal
AreRowsRead (Ok typed) columns text =
    (rows : Rows) × HasRead typed columns rows
    × (typed.ended ≡ true → (sheet_of (length columns) (records_left text) ≡ Ok (record { width = length columns; rows = rows })) × HasReadAll typed columns rows)

-- so many rows of a width were read and there are no more: they are all rows, or have too many cells
abbrev pub IsEnd : Result Typed (Stop CsvRefusal) → Typed → ℕ → ℕ → Type 0
IsEnd (Err OutOfMemory) old count width = ⊥
IsEnd (Err (Refused refusal)) old count width = (nat_lt MOST_CELLS (count * width) ≡ true) × (refusal ≡ of_file TooLarge)
IsEnd (Ok typed) old count width = (nat_lt MOST_CELLS (count * width) ≡ false) × (typed ≡ record old { ended = true; rows = count })
