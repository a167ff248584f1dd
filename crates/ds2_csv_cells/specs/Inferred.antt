-- Inferred: what is known of a column's cells, as far as they were seen.
use Rattle.std.specs.Prelude.{◌≡◌, true, nat_lt, List, length}
use Rattle.std.specs.List.{list_all}
use Rattle.std.specs.Option.{is_some}
use Rattle.ds2_base.specs.Bytes.{Bytes}
use Rattle.ds2_decimal.specs.Text.{read}
use Rattle.ds2_csv_cells.specs.ColumnTypes.{greatest, digits_before, digits_after, text_size, given}
use Rattle.ds2_csv_cells.specs.Number.{integer_of}
use Rattle.ds2_csv_cells.specs.declared.inference.Inference.{Inference}

-- whether a cell is given, whether each given one is an integer and each a decimal, how many digits they have at most where each
-- is a decimal, and how many characters the longest text has
pub record IsInferred (inference : Inference) (cells : List Bytes) : Type 0 where
  pub some : inference.given ≡ nat_lt 0 (length (given cells))
  pub integers : inference.integers ≡ list_all (λ cell. is_some (integer_of cell)) (given cells)
  pub decimals : inference.decimals ≡ list_all (λ cell. is_some (read cell)) (given cells)
  pub before : inference.decimals ≡ true → inference.before ≡ greatest digits_before (given cells)
  pub behind : inference.decimals ≡ true → inference.after ≡ greatest digits_after (given cells)
  pub longest : inference.longest ≡ greatest text_size cells
