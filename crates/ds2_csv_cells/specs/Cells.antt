-- Cells: the value of a cell in a column of a type.
use Rattle.std.specs.Prelude.{ℕ, ◌-◌, Bool, true, false, ◌&&◌, ◌==◌, nat_le, [], ◌∷◌, ◌++◌, replicate, Option, Some, None, option_map, option_and_then, if◌then◌else◌}
use Rattle.std.specs.Result.{result_ok}
use Rattle.ds2_base.specs.Bytes.{Bytes}
use Rattle.ds2_base.specs.Characters.{char_count}
use Rattle.ds2_decimal.specs.Arithmetic.{rescale}
use Rattle.ds2_decimal.specs.Decimal.{Decimal}
use Rattle.ds2_decimal.specs.Text.{read}
use Rattle.ds2_value.specs.declared.ty.Ty.{Ty}
use Rattle.ds2_value.specs.declared.ty.Ty.TheVariants.{BigInt, Decimal as DecimalOf, Char, Varchar}
use Rattle.ds2_value.specs.declared.value.Value.{Value}
use Rattle.ds2_value.specs.declared.value.Value.TheVariants.{Null, Int, Dec, Txt}
use Rattle.ds2_csv_cells.specs.Number.{integer_of}

-- `\N`
abbrev pub is_null_mark : Bytes → Bool
is_null_mark [] = false
is_null_mark (a ∷ []) = false
is_null_mark (a ∷ b ∷ []) = (a == 92) && (b == 78)
is_null_mark (a ∷ b ∷ c ∷ cs) = false

-- a cell of a number column that is null: an empty one, or `\N`
abbrev pub is_missing : Bytes → Bool
is_missing [] = true
is_missing (a ∷ more) = is_null_mark (a ∷ more)

-- a cell that begins with two backslashes without the first of them
abbrev pub unescaped : Bytes → Bytes
unescaped [] = []
unescaped (a ∷ []) = a ∷ []
unescaped (a ∷ b ∷ cs) = if (a == 92) && (b == 92) then b ∷ cs else a ∷ b ∷ cs

-- the text of a cell of a text column; None where it is null
abbrev pub decoded : Bytes → Option Bytes
decoded cell = if is_null_mark cell then None else Some (unescaped cell)

-- a decimal in DECIMAL(p,s), where it has at most s digits after the point, and at most p digits at scale s
abbrev pub decimal_in : ℕ → ℕ → Decimal → Option Value
decimal_in p s d = if nat_le d.scale s then option_map (λ e. Dec e) (result_ok (rescale p s d)) else None

-- a text with blanks behind it, n characters in all
abbrev pub filled : ℕ → Bytes → Bytes
filled n text = text ++ replicate (n - char_count text) 32

-- a text in a column where each text has exactly n characters, or not
abbrev pub column_text : ℕ → Bool → Bytes → Bytes
column_text n exact text = if exact then filled n text else text

-- the value of a cell's text in a column of exactly, or at most, n characters; None where it has more
abbrev pub text_value : ℕ → Bool → Option Bytes → Option Value
text_value n exact None = Some Null
text_value n exact (Some text) = if nat_le (char_count text) n then Some (Txt (column_text n exact text)) else None

-- the value of a cell in a column of a type; None where it has none
unfoldable pub value_of : Ty → Bytes → Option Value
value_of BigInt cell = if is_missing cell then Some Null else option_map (λ i. Int i) (integer_of cell)
value_of (DecimalOf p s) cell = if is_missing cell then Some Null else option_and_then (decimal_in p s) (read cell)
value_of (Char n) cell = text_value n true (decoded cell)
value_of (Varchar n) cell = text_value n false (decoded cell)
