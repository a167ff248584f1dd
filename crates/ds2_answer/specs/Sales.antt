-- Sales: the table that a number of rows has, and the total of its amounts.
use Rattle.std.specs.Prelude.{ℕ, zero, suc, ◌+◌, ◌-◌, ◌*◌, List, [], ◌∷◌, ◌++◌, codes}
use Rattle.ds2_decimal.specs.Decimal.{Decimal}
use Rattle.ds2_value.specs.Row.{Columns, Row}
use Rattle.ds2_value.specs.declared.ty.Ty.TheVariants.{Decimal as DecimalOf, Char}
use Rattle.ds2_value.specs.declared.value.Value.TheVariants.{Dec, Txt}
use Rattle.ds2_table.specs.Table.{Contents}
use Rattle.ds2_answer.specs.Drawn.{drawn, hundredths_of, in_hundredths, region_of}

-- the columns of the table: a region, and an amount
abbrev pub sales_columns : Columns
sales_columns = record { name = codes "region"; ty = Char 3 } ∷ record { name = codes "amt"; ty = DecimalOf 5 2 } ∷ []

-- the row of the region of one number and the amount of another
abbrev pub sale_of : (first second : ℕ) → Row
sale_of first second = Txt (region_of first) ∷ Dec (in_hundredths (hundredths_of second)) ∷ []

-- one of n rows, counted from 1: two numbers are drawn for each, the first of all behind n
abbrev pub sale_in_row : (n row : ℕ) → Row
sale_in_row n row = sale_of (drawn n (2 * row - 1)) (drawn n (2 * row))

-- the first of n rows
abbrev pub first_sales : (n rows : ℕ) → List Row
first_sales n zero = []
first_sales n (suc rows) = first_sales n rows ++ sale_in_row n (suc rows) ∷ []

-- the n rows
abbrev pub sales_rows : ℕ → List Row
sales_rows n = first_sales n n

-- the table of n rows
unfoldable pub sales_table : ℕ → Contents
sales_table n = record { columns = sales_columns; rows = sales_rows n }

-- the amounts of the first of n rows together, in hundredths
abbrev pub first_amounts : (n rows : ℕ) → ℕ
first_amounts n zero = 0
first_amounts n (suc rows) = first_amounts n rows + hundredths_of (drawn n (2 * suc rows))

-- the total of the amounts of n rows
unfoldable pub sales_total : ℕ → Decimal
sales_total n = in_hundredths (first_amounts n n)
