-- The parts of a program in an object file: slots, constants, hash objects, methods, tables, BY variables, outputs.
use Rattle.std.specs.Prelude.{ℕ, ℤ, pos, negsuc, ◌+◌, ◌*◌, ◌/◌, ◌%◌, ◌^◌, ◌==◌, nat_lt, Bool, true, not, ◌&&◌, if◌then◌else◌, List, [], ◌∷◌, Option, Some, None}
use Rattle.std.specs.Int.{w64, w128, cast_signed, cast_unsigned}
use Rattle.ds2_base.specs.Bytes.{Bytes}
use Rattle.ds2_value.specs.Types.{fits}
use Rattle.ds2_value.specs.Value.{fits_bigint}
use Rattle.ds2_value.specs.declared.schema.Column.{Column}
use Rattle.ds2_value.specs.declared.ty.Ty.{Ty}
use Rattle.ds2_value.specs.declared.ty.Ty.TheVariants.{BigInt, Decimal as DecimalOf, Char, Varchar}
use Rattle.ds2_value.specs.declared.value.Value.{Value}
use Rattle.ds2_value.specs.declared.value.Value.TheVariants.{Int, Dec, Txt}
use Rattle.std.specs.Option.{option_map_or}
use Rattle.ds2_token.specs.Words.{is_table_name}
use Rattle.ds2_code.specs.ValidCode.{is_char_type, is_short, hash_table_short, hash_short, method_short, read_short, reference_allowed, method_allowed}
use Rattle.ds2_code.specs.declared.parts.ByPart.{ByPart}
use Rattle.ds2_code.specs.declared.parts.Constant.{Constant}
use Rattle.ds2_code.specs.declared.parts.HashPart.{HashPart}
use Rattle.ds2_code.specs.declared.parts.HashTable.{HashTable}
use Rattle.ds2_code.specs.declared.parts.MethodPart.{MethodPart}
use Rattle.ds2_code.specs.declared.parts.OutputPart.{OutputPart}
use Rattle.ds2_code.specs.declared.parts.ParameterPart.{ParameterPart}
use Rattle.ds2_code.specs.declared.parts.ReadPart.{ReadPart}
use Rattle.ds2_code.specs.declared.parts.Slot.{Slot}
use Rattle.ds2_code.specs.declared.parts.SlotRole.{SlotRole}
use Rattle.ds2_code.specs.declared.parts.SlotRole.TheVariants.{Cleared, Kept, Column as ColumnRole, Flag}
use Rattle.ds2_code.specs.declared.parts.TableReference.{TableReference}
use Rattle.ds2_object_words.specs.Parts.{FormatPart, number32_part, number64_part, then_part, ◌⨾◌, seen_as, variant_part, checked_part, list_part, option_part, listed_part}
use Rattle.ds2_object_words.specs.Words.{flag_part, text_part, name_part, table_name_part, type_part, column_part}

-- ---- slots

-- the roles of slots, in the order of their numbers
abbrev pub slot_role_values : List SlotRole
slot_role_values = Cleared ∷ Kept ∷ ColumnRole ∷ Flag ∷ []

-- the number of a role
abbrev pub slot_role_number : SlotRole → ℕ
slot_role_number Cleared = 0
slot_role_number Kept = 1
slot_role_number ColumnRole = 2
slot_role_number Flag = 3

-- a role
unfoldable pub slot_role_part : FormatPart SlotRole
slot_role_part = listed_part slot_role_number slot_role_values

-- a slot: its name, its type, its role
unfoldable pub slot_line : FormatPart Slot
slot_line = seen_as (λ (x : Bytes × (Ty × SlotRole)). record { name = x.0; ty = x.1.0; role = x.1.1 }) (λ (s : Slot). (s.name, (s.ty, s.role)))
    (name_part ⨾ type_part ⨾ slot_role_part)

-- ---- constants

-- a number of 64 bits with a sign
abbrev pub signed64_part : FormatPart ℤ
signed64_part = variant_part (cast_signed w64) (λ (z : ℤ). if fits_bigint z then Some (cast_unsigned w64 z) else None) number64_part

-- a number of 128 bits, its lower half first
abbrev pub number128_part : FormatPart ℕ
number128_part = seen_as (λ (x : ℕ × ℕ). x.0 + x.1 * 2 ^ 64) (λ (n : ℕ). (n % 2 ^ 64, n / 2 ^ 64)) (number64_part ⨾ number64_part)

-- a number with a sign has at most 128 bits
abbrev pub fits_signed128 : ℤ → Bool
fits_signed128 (pos n) = nat_lt n (2 ^ 127)
fits_signed128 (negsuc n) = nat_lt n (2 ^ 127)

-- a number of 128 bits with a sign
abbrev pub signed128_part : FormatPart ℤ
signed128_part = variant_part (cast_signed w128) (λ (z : ℤ). if fits_signed128 z then Some (cast_unsigned w128 z) else None) number128_part

-- the number of a BIGINT
abbrev pub bigint_in : Value → Option ℤ
bigint_in (Int i) = Some i
bigint_in _ = None

-- the units of a decimal of this scale
abbrev pub units_in : ℕ → Value → Option ℤ
units_in s (Dec d) = if d.scale == s then Some d.units else None
units_in s _ = None

-- the text of a text value
abbrev pub text_in : Value → Option Bytes
text_in (Txt t) = Some t
text_in _ = None

-- the decimal of these units and this scale
abbrev pub units_value : ℕ → ℤ → Value
units_value s z = Dec (record { units = z; scale = s })

-- a text of this type
abbrev pub text_value_part : Ty → FormatPart Value
text_value_part ty = checked_part (λ (v : Value). fits v ty) (variant_part Txt text_in text_part)

-- a value of this type, which is no CHAR
abbrev pub constant_value_part : Ty → FormatPart Value
constant_value_part BigInt = variant_part Int bigint_in signed64_part
constant_value_part (DecimalOf p s) =
    checked_part (λ (v : Value). fits v (DecimalOf p s)) (variant_part (units_value s) (units_in s) signed128_part)
constant_value_part (Char n) = text_value_part (Char n)
constant_value_part (Varchar n) = text_value_part (Varchar n)

-- the type of a constant
abbrev pub constant_type_part : FormatPart Ty
constant_type_part = checked_part (λ (ty : Ty). not (is_char_type ty)) type_part

-- a constant: its type, which is no CHAR, and a value of it
unfoldable pub constant_line : FormatPart Constant
constant_line = seen_as (λ (x : Ty × Value). record { ty = x.0; value = x.1 }) (λ (c : Constant). (c.ty, c.value)) (then_part constant_type_part constant_value_part)

-- ---- tables and hash objects

-- a table that code names: its name, who makes it, its columns
unfoldable pub reference_line : FormatPart TableReference
reference_line =
    seen_as (λ (x : Bytes × (ℕ × List Column)). record { name = x.0; maker = x.1.0; columns = x.1.1 }) (λ (r : TableReference). (r.name, (r.maker, r.columns)))
    (table_name_part ⨾ number32_part ⨾ list_part column_part)

-- the table of a hash object: the table, the columns of its keys, those of its data variables
unfoldable pub hash_table_line : FormatPart HashTable
hash_table_line =
    seen_as (λ (x : TableReference × (List ℕ × List ℕ)). record { table = x.0; key_columns = x.1.0; data_columns = x.1.1 })
    (λ (t : HashTable). (t.table, (t.key_columns, t.data_columns))) (reference_line ⨾ list_part number32_part ⨾ list_part number32_part)

-- a hash object: the slots of its keys, those of its data variables, the table that it begins with
unfoldable pub hash_line : FormatPart HashPart
hash_line =
    seen_as (λ (x : List ℕ × (List ℕ × Option HashTable)). record { key_slots = x.0; data_slots = x.1.0; loaded = x.1.1 })
    (λ (h : HashPart). (h.key_slots, (h.data_slots, h.loaded))) (list_part number32_part ⨾ list_part number32_part ⨾ option_part hash_table_line)

-- ---- methods

-- a parameter of a method: its type, and whether it is in_out
unfoldable pub method_parameter_line : FormatPart ParameterPart
method_parameter_line = seen_as (λ (x : Ty × Bool). record { ty = x.0; is_in_out = x.1 }) (λ (p : ParameterPart). (p.ty, p.is_in_out)) (type_part ⨾ flag_part)

-- a method: where it begins, its parameters, its locals, the type of its result
unfoldable pub method_line : FormatPart MethodPart
method_line =
    seen_as (λ (x : ℕ × (List ParameterPart × (List Ty × Option Ty))). record { entry = x.0; parameters = x.1.0; locals = x.1.1.0; returns = x.1.1.1 })
    (λ (m : MethodPart). (m.entry, (m.parameters, (m.locals, m.returns))))
    (number32_part ⨾ list_part method_parameter_line ⨾ list_part type_part ⨾ option_part type_part)

-- ---- readings and outputs

-- a table of a reading: the table, the slot of its `in=` flag, the slots of its columns
unfoldable pub read_line : FormatPart ReadPart
read_line =
    seen_as (λ (x : TableReference × (Option ℕ × List ℕ)). record { table = x.0; present = x.1.0; slots = x.1.1 }) (λ (r : ReadPart). (r.table, (r.present, r.slots)))
    (reference_line ⨾ option_part number32_part ⨾ list_part number32_part)

-- a BY variable: its slot, whether it is descending, the slots of its flags
unfoldable pub by_line : FormatPart ByPart
by_line =
    seen_as (λ (x : ℕ × (Bool × (ℕ × ℕ))). record { slot = x.0; is_descending = x.1.0; first = x.1.1.0; last = x.1.1.1 })
    (λ (b : ByPart). (b.slot, (b.is_descending, (b.first, b.last)))) (number32_part ⨾ flag_part ⨾ number32_part ⨾ number32_part)

-- an output: its name, whether it overwrites a table, the name and slot of each column
unfoldable pub output_line : FormatPart OutputPart
output_line =
    seen_as (λ (x : Bytes × (Bool × List (Bytes × ℕ))). record { name = x.0; overwrites = x.1.0; columns = x.1.1 }) (λ (o : OutputPart). (o.name, (o.overwrites, o.columns)))
    (table_name_part ⨾ flag_part ⨾ list_part (name_part ⨾ number32_part))

-- ---- what has to hold for a part to have a spelling, beside what its type keeps

-- a table's name and types in bounds, and not too many columns
abbrev pub reference_spelled : TableReference → Bool
reference_spelled r = reference_allowed r && is_short r.columns

-- the same of a hash object's table, and not too many numbers of columns
abbrev pub hash_table_spelled : HashTable → Bool
hash_table_spelled t = reference_allowed t.table && hash_table_short t

-- the same of a hash object, and not too many slots
abbrev pub hash_spelled : HashPart → Bool
hash_spelled h = hash_short h && option_map_or (λ (t : HashTable). reference_allowed t.table) h.loaded true

-- types in bounds, and not too many parameters and locals
abbrev pub method_spelled : MethodPart → Bool
method_spelled m = method_allowed m && method_short m

-- the table of a reading has a spelling, and there are not too many slots
abbrev pub read_spelled : ReadPart → Bool
read_spelled r = reference_allowed r.table && read_short r

-- a table's name, and not too many columns
abbrev pub output_spelled : OutputPart → Bool
output_spelled o = is_table_name o.name && is_short o.columns
