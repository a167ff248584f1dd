-- Cell text: what types and values are written as.
use Rattle.std.specs.Prelude.{◌==◌, [], ◌∷◌, ◌++◌, codes, if◌then◌else◌}
use Rattle.std.specs.Fmt.{decimal, signed_decimal}
use Rattle.ds2_base.specs.Bytes.{Bytes}
use Rattle.ds2_decimal.specs.Text.{decimal_text}
use Rattle.ds2_value.specs.declared.ty.Ty.{Ty}
use Rattle.ds2_value.specs.declared.ty.Ty.TheVariants.{BigInt, Decimal as DecimalOf, Char, Varchar}
use Rattle.ds2_value.specs.declared.value.Value.{Value}
use Rattle.ds2_value.specs.declared.value.Value.TheVariants.{Null, Int, Dec, Txt}

-- the spelling of a type
unfoldable pub type_text : Ty → Bytes
type_text BigInt = codes "bigint"
type_text (DecimalOf p s) = codes "decimal(" ++ (decimal p ++ 44 ∷ (decimal s ++ codes ")"))
type_text (Char n) = codes "char(" ++ (decimal n ++ codes ")")
type_text (Varchar n) = codes "varchar(" ++ (decimal n ++ codes ")")

-- null: nothing in a number column, `\N` in a text column
abbrev pub null_text : Ty → Bytes
null_text BigInt = []
null_text (DecimalOf p s) = []
null_text (Char n) = codes "\\N"
null_text (Varchar n) = codes "\\N"

-- a text, with one more backslash where it begins with one
abbrev pub escaped : Bytes → Bytes
escaped [] = []
escaped (c ∷ cs) = if c == 92 then 92 ∷ c ∷ cs else c ∷ cs

-- what a value is written as in a column of a type
unfoldable pub cell_text : Ty → Value → Bytes
cell_text ty Null = null_text ty
cell_text ty (Int i) = signed_decimal i
cell_text ty (Dec d) = decimal_text d
cell_text ty (Txt t) = escaped t
