-- Laws: what values and types are written as is read as they are.
use Rattle.std.specs.Prelude.{◌≡◌, ◌<◌, true, false, length, map, Some}
use Rattle.std.specs.Char.{to_ascii_lowercase}
use Rattle.std.specs.List.{list_any}
use Rattle.std.specs.Str.{IsUtf8}
use Rattle.ds2_base.specs.Bytes.{Bytes}
use Rattle.ds2_value.specs.Keeping.{IsHeld}
use Rattle.ds2_value.specs.Types.{fits, in_bounds}
use Rattle.ds2_value.specs.declared.ty.Ty.{Ty}
use Rattle.ds2_value.specs.declared.value.Value.{Value}
use Rattle.ds2_csv_cells.specs.CellText.{type_text, cell_text}
use Rattle.ds2_csv_cells.specs.Cells.{value_of}
use Rattle.ds2_csv_cells.specs.Spelling.{is_blank, type_spelled}

-- what a value that fits a type is written as is read as the value
abbrev pub ReadsCells : Type 0
ReadsCells = (ty : Ty) (v : Value) → fits v ty ≡ true → IsHeld v → value_of ty (cell_text ty v) ≡ Some v

-- what a value is written as is UTF-8
abbrev pub CellsAreTexts : Type 0
CellsAreTexts = (ty : Ty) (v : Value) → IsHeld v → IsUtf8 (cell_text ty v)

-- a text that spells a type: a word in lower case, without blanks
pub record IsTypeText (text : Bytes) (ty : Ty) : Type 0 where
  pub type_is : type_spelled text ≡ Some ty
  pub some : 0 < length text
  pub utf8 : IsUtf8 text
  pub lower : map to_ascii_lowercase text ≡ text
  pub free : list_any is_blank text ≡ false

-- what a type in bounds is written as spells it
abbrev pub ReadsTypes : Type 0
ReadsTypes = (ty : Ty) → in_bounds ty ≡ true → IsTypeText (type_text ty) ty
