-- Short: numbers of few digits.
use Rattle.std.specs.Prelude.{ℕ, Option, Some, None, if◌then◌else◌}
use Rattle.std.specs.Str.{all_ascii_digits}
use Rattle.ds2_base.specs.Bytes.{Bytes}
use Rattle.ds2_csv_cells.specs.Number.{number_from}

-- the number that digits spell behind those of n; None where a byte is no digit
abbrev pub number_behind : ℕ → Bytes → Option ℕ
number_behind n ds = if all_ascii_digits ds then Some (number_from n ds) else None
