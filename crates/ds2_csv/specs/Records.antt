-- Records: the rows below a header that have another length.
use Rattle.std.specs.Prelude.{ℕ, ◌+◌, ◌==◌, [], ◌∷◌, length, Option, Some, None, if◌then◌else◌}
pub use Rattle.ds2_csv_records.specs.Records.{Rows}
unfoldable pub use Rattle.ds2_csv_records.specs.Records.{records_of, text_of_rows}

-- the number of the first row that has not so many cells, where the first of these rows has this number
unfoldable pub odd_from : ℕ → ℕ → Rows → Option ℕ
odd_from count row [] = None
odd_from count row (r ∷ rs) = if length r == count then odd_from count (row + 1) rs else Some row
