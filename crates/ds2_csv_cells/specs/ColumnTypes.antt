-- Column types: the type of a column out of all its cells.
use Rattle.std.specs.Prelude.{ℕ, ◌+◌, Bool, not, ◌&&◌, ◌==◌, nat_lt, nat_le, max, min, List, [], ◌∷◌, length, drop, filter, Option, Some, None, slice_index, unwrap_or, if◌then◌else◌}
use Rattle.std.specs.List.{list_all, before_first, after_first}
use Rattle.std.specs.Option.{is_some, option_map_or}
use Rattle.ds2_base.specs.Bytes.{Bytes}
use Rattle.ds2_base.specs.Characters.{char_count}
use Rattle.ds2_decimal.specs.Text.{read, is_point}
use Rattle.ds2_decimal.specs.declared.dec.TheConstants.{MOST_DIGITS}
use Rattle.ds2_value.specs.declared.ty.TheConstants.{TEXT_CHARACTERS}
use Rattle.ds2_value.specs.declared.ty.Ty.{Ty}
use Rattle.ds2_value.specs.declared.ty.Ty.TheVariants.{BigInt, Decimal as DecimalOf, Varchar}
use Rattle.ds2_csv_cells.specs.Cells.{is_missing, decoded}
use Rattle.ds2_csv_cells.specs.Number.{integer_of}

-- the greatest of the numbers that a rule gives for cells; 0 where there is no cell
abbrev pub greatest : (Bytes → ℕ) → List Bytes → ℕ
greatest number [] = 0
greatest number (cell ∷ cells) = max (number cell) (greatest number cells)

-- a number's text without its sign
abbrev pub without_sign : Bytes → Bytes
without_sign text = if slice_index text 0 == 45 then drop 1 text else text

-- how many digits a whole number has, where `0` has none
abbrev pub whole_digits : Bytes → ℕ
whole_digits whole = if slice_index whole 0 == 48 then 0 else length whole

-- how many digits stand before the point of a number's text, where `0` counts none
abbrev pub digits_before : Bytes → ℕ
digits_before text = whole_digits (before_first is_point (without_sign text))

-- how many digits stand after the point of a number's text
abbrev pub digits_after : Bytes → ℕ
digits_after text = length (after_first is_point (without_sign text))

-- the digits of the decimals that take these cells, at least one
abbrev pub precision_of : List Bytes → ℕ
precision_of cells = max 1 (greatest digits_before cells + greatest digits_after cells)

-- the number of characters of a cell's text; none where it is null
abbrev pub text_size : Bytes → ℕ
text_size cell = option_map_or char_count (decoded cell) 0

-- the characters of the texts that take these cells, at least one and at most `TEXT_CHARACTERS`: a longer text is refused at its cell
abbrev pub width_of : List Bytes → ℕ
width_of cells = max 1 (min TEXT_CHARACTERS (greatest text_size cells))

-- there is a cell, and each cell passes
abbrev pub some_and_all : (Bytes → Bool) → List Bytes → Bool
some_and_all test cells = nat_lt 0 (length cells) && list_all test cells

-- the cells that are not null in a number column
abbrev pub given : List Bytes → List Bytes
given cells = filter (λ cell. not (is_missing cell)) cells

-- there is such a cell, and each one is an integer
abbrev pub are_integers : List Bytes → Bool
are_integers cells = some_and_all (λ cell. is_some (integer_of cell)) cells

-- the decimals that take such cells, where there is one, each one is a decimal, and `MOST_DIGITS` digits take them all
abbrev pub decimals_of : List Bytes → Option Ty
decimals_of cells =
    if some_and_all (λ cell. is_some (read cell)) cells && nat_le (precision_of cells) MOST_DIGITS then Some (DecimalOf (precision_of cells) (greatest digits_after cells)) else None

-- the type out of all cells of a column: BIGINT, else DECIMAL, else VARCHAR
unfoldable pub type_of_cells : List Bytes → Ty
type_of_cells cells = if are_integers (given cells) then BigInt else unwrap_or (decimals_of (given cells)) (Varchar (width_of cells))
