-- Known: what holds of the columns of a file, as far as its cells were read.
use Rattle.std.specs.Prelude.{ℕ, ◌≡◌, List, [], ◌∷◌, ◌++◌, Some, slice_get}
use Rattle.std.specs.Option.{option_map_or}
use Rattle.ds2_base.specs.Bytes.{Bytes}
use Rattle.ds2_csv.specs.Columns.{cells_of}
use Rattle.ds2_csv_cells.specs.Inferred.{IsInferred}
use Rattle.ds2_csv.specs.Records.{Rows}
use Rattle.ds2_csv_cells.specs.declared.inference.Inference.{Inference}

-- what holds of an item for each column and the column's cells in rows
abbrev pub HoldIn : {X : Type 0} → (ℕ → X → List Bytes → Type 0) → List X → Rows → Type 0
HoldIn {X} holds items rows = (column : ℕ) (x : X) → slice_get items column ≡ Some x → holds column x (cells_of column rows)

-- the cell of a column in the first cells of a row, where it is among them
abbrev pub cell_in_part : ℕ → List Bytes → List Bytes
cell_in_part column cells = option_map_or (λ (cell : Bytes). cell ∷ []) (slice_get cells column) []

-- the same of rows and the first cells of one more
abbrev pub HoldTo : {X : Type 0} → (ℕ → X → List Bytes → Type 0) → List X → Rows → List Bytes → Type 0
HoldTo {X} holds items rows cells = (column : ℕ) (x : X) → slice_get items column ≡ Some x → holds column x (cells_of column rows ++ cell_in_part column cells)

-- what the cells of a column tell
abbrev pub TellsColumn : ℕ → Inference → List Bytes → Type 0
TellsColumn column inference cells = IsInferred inference cells

-- of each column what its cells in these rows tell
abbrev pub AreInferred : List Inference → Rows → Type 0
AreInferred known rows = HoldIn TellsColumn known rows
