-- The constants of a program's code: each that is not null stands there once, in the order of its first use.
use Rattle.std.specs.Prelude.{ℕ, nat_eq, Bool, true, false, bytes_eq, ◌&&◌, ◌||◌, if◌then◌else◌, List, [], ◌∷◌, ◌++◌, unwrap_or}
use Rattle.std.specs.List.{list_any, fold}
use Rattle.std.specs.Ordering.{int_eq}
use Rattle.ds2_value.specs.Types.{same_ty}
use Rattle.ds2_value.specs.Value.{is_null}
use Rattle.ds2_value.specs.declared.ty.Ty.{Ty}
use Rattle.ds2_value.specs.declared.value.Value.{Value}
use Rattle.ds2_value.specs.declared.value.Value.TheVariants.{Null, Int, Dec, Txt}
use Rattle.ds2_code.specs.declared.parts.Constant.{Constant}
use Rattle.ds2_program_code.specs.PlacedProgram.{number_of_first}
use Rattle.ds2_program_code.specs.UsedConstants.{UsedConstant}

-- two values are one, digit by digit and byte by byte
abbrev pub is_one_value : Value → Value → Bool
is_one_value Null Null = true
is_one_value (Int a) (Int b) = int_eq a b
is_one_value (Dec a) (Dec b) = int_eq a.units b.units && nat_eq a.scale b.scale
is_one_value (Txt a) (Txt b) = bytes_eq a b
is_one_value _ _ = false

-- two constants are one: they have one type and one value
abbrev pub is_one_constant : UsedConstant → UsedConstant → Bool
is_one_constant a b = same_ty a.ty b.ty && is_one_value a.value b.value

-- a constant joins others, unless it is null or stands among them
abbrev pub with_used_constant : List UsedConstant → UsedConstant → List UsedConstant
with_used_constant constants c = if is_null c.value || list_any (λ other. is_one_constant c other) constants then constants else constants ++ c ∷ []

-- constants that are used, each once
abbrev pub each_constant_once : List UsedConstant → List UsedConstant
each_constant_once used = fold with_used_constant [] used

-- the number of a constant among constants
abbrev pub constant_number : List UsedConstant → Value → Ty → ℕ
constant_number constants v ty = unwrap_or (number_of_first (λ other. is_one_constant (record { value = v; ty = ty }) other) constants) 0

-- a constant in code
abbrev pub constant_part : UsedConstant → Constant
constant_part c = record { ty = c.ty; value = c.value }
