-- The functions that sources call by their names, and how many arguments each takes.
use Rattle.std.specs.Prelude.{ℕ, Bool, ◌&&◌, nat_le, bytes_eq, codes, if◌then◌else◌, List, [], ◌∷◌, Option, Some, None}
use Rattle.std.specs.Option.{option_map}
use Rattle.ds2_value.specs.declared.value_function.ValueFunction.TheVariants.{IntegerAbsolute, DecimalAbsolute, Floor, Ceiling, IsNull, Length, Trim}
use Rattle.ds2_meaning.specs.declared.expressions.Function.{Function}
use Rattle.ds2_meaning.specs.declared.expressions.Function.TheVariants.{Value, Unchanged}
use Rattle.ds2_names.specs.declared.functions.ByType.{ByType}
use Rattle.ds2_names.specs.declared.functions.FunctionRow.{FunctionRow}
use Rattle.ds2_names.specs.declared.functions.NamedFunction.{NamedFunction}
use Rattle.ds2_names.specs.declared.functions.NamedFunction.TheVariants.{OfOne, OfMany, Remainder, Substring}
use Rattle.ds2_names.specs.declared.functions.FunctionOfMany.TheVariants.{Coalesce, Greatest, Least}

-- a function of this name, which takes at least and at most so many arguments
abbrev pub row : List ℕ → NamedFunction → (least most : ℕ) → List ℕ × FunctionRow
row name function least most = (name, record { function = function; counts = (least, most) })

-- a function of one number, for a BIGINT and for a DECIMAL
abbrev pub of_number : (integer decimal : Function) → NamedFunction
of_number integer decimal = OfOne (record { integer = Some integer; decimal = Some decimal; text = None })

-- a function of one text
abbrev pub of_text : Function → NamedFunction
of_text text = OfOne (record { integer = None; decimal = None; text = Some text })

-- the function of the word null, of one value of whatever type
abbrev pub null_test : ByType
null_test = record { integer = Some (Value IsNull); decimal = Some (Value IsNull); text = Some (Value IsNull) }

-- all functions
abbrev pub functions : List (List ℕ × FunctionRow)
functions =
    row (codes "abs") (of_number (Value IntegerAbsolute) (Value DecimalAbsolute)) 1 1
    ∷ row (codes "ceil") (of_number Unchanged (Value Ceiling)) 1 1
    ∷ row (codes "coalesce") (OfMany Coalesce) 1 16
    ∷ row (codes "floor") (of_number Unchanged (Value Floor)) 1 1
    ∷ row (codes "length") (of_text (Value Length)) 1 1
    ∷ row (codes "max") (OfMany Greatest) 2 16
    ∷ row (codes "min") (OfMany Least) 2 16
    ∷ row (codes "mod") Remainder 2 2
    ∷ row (codes "null") (OfOne null_test) 1 1
    ∷ row (codes "substr") Substring 2 3
    ∷ row (codes "trim") (of_text (Value Trim)) 1 1
    ∷ []

-- what stands in a list under a name, where it has that name
abbrev pub under_name : {A : Type 0} → List (List ℕ × A) → List ℕ → Option A
under_name [] name = None
under_name (x ∷ xs) name = if bytes_eq x.0 name then Some x.1 else under_name xs name

-- the function of this name, where there is one
abbrev pub function_named : List ℕ → Option FunctionRow
function_named name = under_name functions name

-- how many arguments it takes
abbrev pub function_counts : List ℕ → Option (ℕ × ℕ)
function_counts name = option_map (λ (f : FunctionRow). f.counts) (function_named name)

-- so many arguments are taken
abbrev pub takes_so_many : ℕ × ℕ → ℕ → Bool
takes_so_many counts n = nat_le counts.0 n && nat_le n counts.1
