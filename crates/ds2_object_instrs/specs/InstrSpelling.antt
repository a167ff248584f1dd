-- Instructions in an object file: an operation code, and the fields of its row in the machine's table.
use Rattle.std.specs.Prelude.{ℕ, Bool, true, false, nat_lt, if◌then◌else◌, List, [], ◌∷◌, length, slice_get, Option, Some, None, unwrap_or}
use Rattle.std.specs.Option.{option_map, option_map_or, option_and_then}
use Rattle.ds2_base.specs.declared.place.Place.{Place}
use Rattle.ds2_value.specs.Types.{in_bounds}
use Rattle.ds2_value.specs.declared.comparison.Comparison.{Comparison}
use Rattle.ds2_value.specs.declared.comparison.Comparison.TheVariants.{Equal, NotEqual, Less, LessOrEqual, Greater, GreaterOrEqual}
use Rattle.ds2_value.specs.declared.hash_function.HashFunction.{HashFunction}
use Rattle.ds2_value.specs.declared.hash_function.HashFunction.TheVariants.{Find, Check, Add, Replace, Remove, Clear, NumItems}
use Rattle.ds2_value.specs.declared.hash_function.IteratorFunction.{IteratorFunction}
use Rattle.ds2_value.specs.declared.hash_function.IteratorFunction.TheVariants.{First, Next, Prev, Last}
use Rattle.ds2_value.specs.declared.ty.Ty.{Ty}
use Rattle.ds2_value.specs.declared.value_function.ValueFunction.TheVariants as function
use Rattle.ds2_code.specs.declared.instr.Instr.{Instr}
use Rattle.ds2_code.specs.declared.instr.Instr.TheVariants as instr
use Rattle.ds2_code.specs.OperationCode.{operation_code}
use Rattle.ds2_object_instrs.specs.declared.instrs.Fields.{Fields}
use Rattle.ds2_object_instrs.specs.declared.instrs.Fields.TheVariants.{NoField, NumberField, TypeField, DigitsFields, LengthField, TestField, PlaceFields, CallFields}
use Rattle.ds2_object_instrs.specs.declared.instrs.Shape.{Shape}
use Rattle.ds2_object_instrs.specs.declared.instrs.Shape.TheVariants as shape
use Rattle.ds2_object_instrs.specs.declared.instrs.WrittenInstr.{WrittenInstr}
use Rattle.ds2_object_words.specs.Parts.{FormatPart, byte_part, number16_part, number32_part, empty_part, then_part, ◌⨾◌, seen_as, variant_part, checked_part}
use Rattle.ds2_object_words.specs.Words.{type_part}

-- ---- comparisons and calls by their numbers

-- the comparisons, in the order of their numbers
abbrev pub comparison_values : List Comparison
comparison_values = Equal ∷ NotEqual ∷ Less ∷ LessOrEqual ∷ Greater ∷ GreaterOrEqual ∷ []

-- the number of a comparison
abbrev pub comparison_number : Comparison → ℕ
comparison_number Equal = 0
comparison_number NotEqual = 1
comparison_number Less = 2
comparison_number LessOrEqual = 3
comparison_number Greater = 4
comparison_number GreaterOrEqual = 5

-- the calls of a hash object, in the order of their numbers
abbrev pub hash_function_values : List HashFunction
hash_function_values = Find ∷ Check ∷ Add ∷ Replace ∷ Remove ∷ Clear ∷ NumItems ∷ []

-- the number of a call of a hash object
abbrev pub hash_function_number : HashFunction → ℕ
hash_function_number Find = 0
hash_function_number Check = 1
hash_function_number Add = 2
hash_function_number Replace = 3
hash_function_number Remove = 4
hash_function_number Clear = 5
hash_function_number NumItems = 6

-- the calls of a hash iterator, in the order of their numbers
abbrev pub iterator_function_values : List IteratorFunction
iterator_function_values = First ∷ Next ∷ Prev ∷ Last ∷ []

-- the number of a call of a hash iterator
abbrev pub iterator_function_number : IteratorFunction → ℕ
iterator_function_number First = 0
iterator_function_number Next = 1
iterator_function_number Prev = 2
iterator_function_number Last = 3

-- ---- fields

-- the number in a field of one
abbrev pub field_number : Fields → Option ℕ
field_number (NumberField n) = Some n
field_number _ = None

-- the type in a field of one
abbrev pub field_type : Fields → Option Ty
field_type (TypeField ty) = Some ty
field_type _ = None

-- the digits in fields of them, and how many stand after the point
abbrev pub field_digits : Fields → Option (ℕ × ℕ)
field_digits (DigitsFields p s) = Some (p, s)
field_digits _ = None

-- the length in a field of one
abbrev pub field_length : Fields → Option ℕ
field_length (LengthField n) = Some n
field_length _ = None

-- the number of a comparison in a field of one
abbrev pub field_test : Fields → Option ℕ
field_test (TestField n) = Some n
field_test _ = None

-- the line and the column in fields of them
abbrev pub field_place : Fields → Option (ℕ × ℕ)
field_place (PlaceFields line column) = Some (line, column)
field_place _ = None

-- the object and the number of the call in fields of them
abbrev pub field_call : Fields → Option (ℕ × ℕ)
field_call (CallFields object function) = Some (object, function)
field_call _ = None

-- no field
abbrev pub is_no_field : Fields → Bool
is_no_field NoField = true
is_no_field _ = false

-- the fields of a shape
abbrev pub shape_part : Shape → FormatPart Fields
shape_part shape.NoField = empty_part NoField is_no_field
shape_part shape.NumberField = variant_part NumberField field_number number32_part
shape_part shape.TypeField = variant_part TypeField field_type type_part
shape_part shape.DigitsFields = variant_part (λ (x : ℕ × ℕ). DigitsFields x.0 x.1) field_digits (byte_part ⨾ byte_part)
shape_part shape.LengthField = variant_part LengthField field_length number16_part
shape_part shape.TestField = variant_part TestField field_test byte_part
shape_part shape.PlaceFields = variant_part (λ (x : ℕ × ℕ). PlaceFields x.0 x.1) field_place (number32_part ⨾ number32_part)
shape_part shape.CallFields = variant_part (λ (x : ℕ × ℕ). CallFields x.0 x.1) field_call (number32_part ⨾ byte_part)

-- the shape of fields
abbrev pub shape_of_fields : Fields → Shape
shape_of_fields NoField = shape.NoField
shape_of_fields (NumberField n) = shape.NumberField
shape_of_fields (TypeField ty) = shape.TypeField
shape_of_fields (DigitsFields p s) = shape.DigitsFields
shape_of_fields (LengthField n) = shape.LengthField
shape_of_fields (TestField n) = shape.TestField
shape_of_fields (PlaceFields line column) = shape.PlaceFields
shape_of_fields (CallFields object function) = shape.CallFields

-- a type among fields is in bounds
abbrev pub fields_spelled : Fields → Bool
fields_spelled fields = option_map_or in_bounds (field_type fields) true

-- ---- rows

-- a row of the version's instructions: which fields stand behind the operation code, and the instruction with such fields; a number
-- of a comparison or a call that is none gives no instruction
pub record InstrRow : Type 0 where
  pub shape : Shape
  pub make : Fields → Option Instr

-- a row without fields
abbrev pub bare_row : Instr → InstrRow
bare_row i = record { shape = shape.NoField; make = λ fields. if is_no_field fields then Some i else None }

-- a row with a number
abbrev pub number_row : (ℕ → Instr) → InstrRow
number_row f = record { shape = shape.NumberField; make = λ fields. option_map f (field_number fields) }

-- a row with a type
abbrev pub type_row : (Ty → Instr) → InstrRow
type_row f = record { shape = shape.TypeField; make = λ fields. option_map f (field_type fields) }

-- a row with digits
abbrev pub digits_row : (ℕ → ℕ → Instr) → InstrRow
digits_row f = record { shape = shape.DigitsFields; make = λ fields. option_map (λ (x : ℕ × ℕ). f x.0 x.1) (field_digits fields) }

-- a row with a length
abbrev pub length_row : (ℕ → Instr) → InstrRow
length_row f = record { shape = shape.LengthField; make = λ fields. option_map f (field_length fields) }

-- a row with a comparison
abbrev pub test_row : (Comparison → Instr) → InstrRow
test_row f = record { shape = shape.TestField; make = λ fields. option_map f (option_and_then (slice_get comparison_values) (field_test fields)) }

-- the place of a line and a column
abbrev pub written_place : ℕ × ℕ → Place
written_place x = record { line = x.0; column = x.1 }

-- a row with a place
abbrev pub place_row : (Place → Instr) → InstrRow
place_row f = record { shape = shape.PlaceFields; make = λ fields. option_map f (option_map written_place (field_place fields)) }

-- an object and a call by its number, where there is one
abbrev pub function_call : {F : Type 0} → List F → ℕ × ℕ → Option (ℕ × F)
function_call functions x = option_map (λ f. (x.0, f)) (slice_get functions x.1)

-- a row with an object and one of these calls of it
abbrev pub call_row : {F : Type 0} → List F → (ℕ → F → Instr) → InstrRow
call_row {F} functions f = record {
  shape = shape.CallFields;
  make = λ fields. option_map (λ (x : ℕ × F). f x.0 x.1) (option_and_then (function_call functions) (field_call fields));
}

-- the rows, in the order of the operation codes
abbrev pub instr_rows : List InstrRow
instr_rows =
    number_row instr.Const ∷ type_row instr.Null ∷ number_row instr.GLoad ∷ number_row instr.GStore ∷
    number_row instr.LLoad ∷ number_row instr.LStore ∷ bare_row instr.DropTop ∷ bare_row instr.IToD ∷
    digits_row instr.Rescale ∷ length_row instr.Pad ∷ length_row instr.Cut ∷ bare_row instr.IAdd ∷ bare_row instr.ISub ∷
    bare_row instr.IMul ∷ bare_row instr.INeg ∷ bare_row (instr.Apply function.IntegerAbsolute) ∷ bare_row (instr.Apply function.IntegerModulo) ∷ bare_row instr.DAdd ∷
    bare_row instr.DSub ∷ bare_row instr.DMul ∷ bare_row instr.DDiv ∷ bare_row instr.DNeg ∷ bare_row (instr.Apply function.DecimalAbsolute) ∷
    bare_row (instr.Apply function.DecimalModulo) ∷ bare_row (instr.Apply function.Floor) ∷ bare_row (instr.Apply function.Ceiling) ∷ test_row instr.ICmp ∷ test_row instr.DCmp ∷
    test_row instr.TCmp ∷ bare_row instr.And ∷ bare_row instr.Or ∷ bare_row instr.Not ∷ bare_row instr.ITruth ∷
    bare_row instr.DTruth ∷ bare_row (instr.Apply function.IsNull) ∷ number_row instr.Choose ∷ number_row instr.Least ∷
    number_row instr.Greatest ∷ bare_row instr.Cat ∷ bare_row (instr.Apply function.Length) ∷ bare_row (instr.Apply function.Substring) ∷ bare_row (instr.Apply function.SubstringFrom) ∷
    bare_row (instr.Apply function.Trim) ∷ place_row instr.Tick ∷ number_row instr.Jump ∷ number_row instr.JFalse ∷ number_row instr.JTrue ∷
    number_row instr.Call ∷ bare_row instr.Ret ∷ bare_row instr.RetV ∷ bare_row instr.NoWhen ∷ number_row instr.Output ∷
    bare_row instr.Show ∷ number_row instr.Put ∷ call_row hash_function_values instr.HCall ∷
    call_row iterator_function_values instr.ICall ∷ number_row instr.SetParm ∷ bare_row instr.End ∷ []

-- the row with an operation code, where there is one
abbrev pub row_of_code : ℕ → Option InstrRow
row_of_code code = slice_get instr_rows code

-- the row of an instruction; each has one
abbrev pub instr_row_of : Instr → InstrRow
instr_row_of i = unwrap_or (row_of_code (operation_code i)) (bare_row i)

-- the fields of an instruction
abbrev pub fields_of : Instr → Fields
fields_of (instr.Const n) = NumberField n
fields_of (instr.Null ty) = TypeField ty
fields_of (instr.GLoad n) = NumberField n
fields_of (instr.GStore n) = NumberField n
fields_of (instr.LLoad n) = NumberField n
fields_of (instr.LStore n) = NumberField n
fields_of (instr.Rescale p s) = DigitsFields p s
fields_of (instr.Pad n) = LengthField n
fields_of (instr.Cut n) = LengthField n
fields_of (instr.ICmp comparison) = TestField (comparison_number comparison)
fields_of (instr.DCmp comparison) = TestField (comparison_number comparison)
fields_of (instr.TCmp comparison) = TestField (comparison_number comparison)
fields_of (instr.Choose n) = NumberField n
fields_of (instr.Least n) = NumberField n
fields_of (instr.Greatest n) = NumberField n
fields_of (instr.Tick place) = PlaceFields place.line place.column
fields_of (instr.Jump n) = NumberField n
fields_of (instr.JFalse n) = NumberField n
fields_of (instr.JTrue n) = NumberField n
fields_of (instr.Call n) = NumberField n
fields_of (instr.Output n) = NumberField n
fields_of (instr.Put n) = NumberField n
fields_of (instr.HCall hash f) = CallFields hash (hash_function_number f)
fields_of (instr.ICall iterator f) = CallFields iterator (iterator_function_number f)
fields_of (instr.SetParm n) = NumberField n
fields_of _ = NoField

-- ---- instructions

-- an operation code is the number of a row
unfoldable pub operation_part : FormatPart ℕ
operation_part = checked_part (λ (code : ℕ). nat_lt code (length instr_rows)) byte_part

-- the fields of the row with this operation code
abbrev pub fields_part : ℕ → FormatPart Fields
fields_part code = shape_part (option_map_or (λ (row : InstrRow). row.shape) (row_of_code code) shape.NoField)

-- an operation code, and the fields of its row
unfoldable pub written_instr_part : FormatPart WrittenInstr
written_instr_part =
    seen_as (λ (x : ℕ × Fields). record { code = x.0; fields = x.1 }) (λ (i : WrittenInstr). (i.code, i.fields)) (then_part operation_part fields_part)

-- an instruction as it is written
abbrev pub written_instr_of : Instr → WrittenInstr
written_instr_of i = record { code = operation_code i; fields = fields_of i }

-- the instruction that is written so, where there is one
abbrev pub instr_of : WrittenInstr → Option Instr
instr_of w = option_and_then (λ (row : InstrRow). row.make w.fields) (row_of_code w.code)
