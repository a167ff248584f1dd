-- Refusals: why bytes are no table, and where.
use Rattle.std.specs.Prelude.{ℕ, List, ◌∷◌, Result, Ok, Err}
use Rattle.ds2_csv.specs.declared.refusal.CsvKind.{CsvKind}
use Rattle.ds2_csv.specs.declared.refusal.CsvRefusal.{CsvRefusal}

-- a refusal of the file as a whole
abbrev pub of_file : CsvKind → CsvRefusal
of_file kind = record { kind = kind; row = 0; column = 0 }

-- a refusal of a header cell
abbrev pub of_column : CsvKind → ℕ → CsvRefusal
of_column kind column = record { kind = kind; row = 0; column = column }

-- a refusal of a row
abbrev pub of_row : CsvKind → ℕ → CsvRefusal
of_row kind row = record { kind = kind; row = row; column = 0 }

-- a refusal of a cell
abbrev pub of_cell : CsvKind → ℕ → ℕ → CsvRefusal
of_cell kind row column = record { kind = kind; row = row; column = column }

-- an item and those behind it, or the first refusal
abbrev pub with_first : {X : Type 0} → Result X CsvRefusal → Result (List X) CsvRefusal → Result (List X) CsvRefusal
with_first (Err refusal) _ = Err refusal
with_first (Ok x) (Err refusal) = Err refusal
with_first (Ok x) (Ok xs) = Ok (x ∷ xs)
