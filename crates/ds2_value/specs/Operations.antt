-- Operations on values that expressions and instructions share.
use Rattle.std.specs.Prelude.{ℕ, Bool, List, [], ◌∷◌, codes, Result, Ok, Err, pos}
use Rattle.std.specs.Fmt.{signed_decimal}
use Rattle.ds2_decimal.specs.Decimal.{Decimal}
use Rattle.ds2_decimal.specs.declared.dec.DecFault.{DecFault}
use Rattle.ds2_decimal.specs.Text.{decimal_text}
use Rattle.ds2_value.specs.Texts.{cut_to, trimmed}
use Rattle.ds2_value.specs.Types.{decimal_value, whole_decimal}
use Rattle.ds2_value.specs.Value.{truth_of, is_yes}
use Rattle.ds2_value.specs.declared.fault.Fault.{Fault}
use Rattle.ds2_value.specs.declared.truth.Truth.{Truth}
use Rattle.ds2_value.specs.declared.truth.Truth.TheVariants.{Yes, No, Unknown}
use Rattle.ds2_value.specs.declared.ty.TheConstants.{TEXT_CHARACTERS}
use Rattle.ds2_value.specs.declared.value.Value.{Value}
use Rattle.ds2_value.specs.declared.value.Value.TheVariants.{Null, Int, Dec, Txt}

-- an operation on two decimals that may fault; null where an operand is null
abbrev pub of_decimals : (Decimal → Decimal → Result Decimal DecFault) → Value → Value → Result Value Fault
of_decimals f (Dec a) (Dec b) = decimal_value (f a b)
of_decimals f _ _ = Ok Null

-- an operation on a decimal; null for null
abbrev pub of_decimal : (Decimal → Decimal) → Value → Value
of_decimal f (Dec a) = Dec (f a)
of_decimal f _ = Null

-- a truth as a value: 1, 0 or null
abbrev pub truth_value : Truth → Value
truth_value Yes = Int (pos 1)
truth_value No = Int (pos 0)
truth_value Unknown = Null

-- a value as a condition holds: it is a number other than 0
abbrev pub is_true : Value → Bool
is_true v = is_yes (truth_of v)

-- a BIGINT as a decimal without digits after the point
abbrev pub widened : Value → Value
widened (Int i) = Dec (whole_decimal i)
widened _ = Null

-- the value of an assignment that can't fault
abbrev pub or_null_at_fault : Result Value Fault → Value
or_null_at_fault (Ok v) = v
or_null_at_fault (Err f) = Null

-- the text of a value in a line of the log: a number as in a table, a text without the blanks at its end, null as the word
abbrev pub line_text : Value → List ℕ
line_text Null = codes "null"
line_text (Int i) = signed_decimal i
line_text (Dec d) = decimal_text d
line_text (Txt t) = cut_to TEXT_CHARACTERS (trimmed t)

-- the text of a value in a line of the log, as a value
abbrev pub line_value : Value → Value
line_value v = Txt (line_text v)

-- a function of one value; other numbers of arguments give null
abbrev pub of_one : (Value → Value) → List Value → Value
of_one f (a ∷ []) = f a
of_one f _ = Null

-- a function of one value that may fault; other numbers of arguments give null
abbrev pub of_one_or_fault : (Value → Result Value Fault) → List Value → Result Value Fault
of_one_or_fault f (a ∷ []) = f a
of_one_or_fault f _ = Ok Null

-- a function of two values that may fault; other numbers of arguments give null
abbrev pub of_two : (Value → Value → Result Value Fault) → List Value → Result Value Fault
of_two f (a ∷ b ∷ []) = f a b
of_two f _ = Ok Null
