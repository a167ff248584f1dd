-- The variables of a unit, as tables tell them.
use Rattle.std.specs.Prelude.{◌≡◌, ℕ, nat_eq, if◌then◌else◌, List, Option, Some, None}
use Rattle.std.specs.Cmp.Lexicographic.{pointwise}
use Rattle.std.specs.HashMap.{HashMap, get}
use Rattle.ds2_value.specs.declared.ty.Ty.{Ty}
use Rattle.ds2_value.specs.declared.ty.Ty.TheVariants.{BigInt}
use Rattle.ds2_meaning.specs.IsTyped.{type_in}
use Rattle.ds2_meaning.specs.ProgramTree.{is_listed}
use Rattle.ds2_meaning.specs.declared.globals.Variable.{Variable}
use Rattle.ds2_names.specs.NameRules.{from_each}
use Rattle.ds2_names.specs.SourceUnit.{PlacedName}
use Rattle.ds2_types.specs.Judgements.{first_type_refusal}
use Rattle.ds2_reference_types.specs.Scopes.{known_or}
use Rattle.ds2_reference_types.specs.declared.scopes.KnownName.{KnownName}
use Rattle.ds2_reference_types.specs.declared.scopes.Standing.TheVariants as standing
use Rattle.ds2_type_tables.specs.Clashes.{clash_of_column}

-- a declared variable or a column, as it is known beside these columns whose tables do not join
abbrev pub known_column : List PlacedName → Variable → KnownName
known_column unjoined v = record { name = v.name; standing = standing.Variable; ty = v.ty; refusal = first_type_refusal (from_each (clash_of_column v.name) unjoined) }

-- the declared variable or the column of this name, where there is one of this type
abbrev pub column_known_as : List PlacedName → List ℕ → Option Ty → Option KnownName
column_known_as unjoined name None = None
column_known_as unjoined name (Some ty) = Some (record { name = name; standing = standing.Variable; ty = ty; refusal = first_type_refusal (from_each (clash_of_column name) unjoined) })

-- a parameter of a thread program, as it is known
abbrev pub parameter_as_known : Variable → KnownName
parameter_as_known v = record { name = v.name; standing = standing.Parameter; ty = v.ty; refusal = None }

-- the parameter of this name, where there is one of this type
abbrev pub parameter_known_as : List ℕ → Option Ty → Option KnownName
parameter_known_as name None = None
parameter_known_as name (Some ty) = Some (record { name = name; standing = standing.Parameter; ty = ty; refusal = None })

-- an `in=` flag, as it is known
abbrev pub known_flag : List ℕ → KnownName
known_flag name = record { name = name; standing = standing.Flag; ty = BigInt; refusal = None }

-- the `in=` flag of this name, where it is one of these
abbrev pub flag_of_name : List (List ℕ) → List ℕ → Option KnownName
flag_of_name flags name = if is_listed flags name then Some (known_flag name) else None

-- a table tells of each name the first of these variables and columns that has it
abbrev pub HasColumns : {S : Type 0} → HashMap (List ℕ) KnownName S → List PlacedName → List Variable → Type 0
HasColumns names unjoined variables = (name : List ℕ) → get (pointwise nat_eq) names name ≡ column_known_as unjoined name (type_in variables name)

-- the variable, column or parameter that a name stands for, else the flag
abbrev pub global_known_as : List PlacedName → List Variable → List Variable → List (List ℕ) → List ℕ → Option KnownName
global_known_as unjoined variables parameters flags name =
    known_or (column_known_as unjoined name (type_in variables name)) (known_or (parameter_known_as name (type_in parameters name)) (flag_of_name flags name))

-- a table tells of each name the first of these variables and columns that has it, else the parameter, else the flag
abbrev pub HasGlobals : {S : Type 0} → HashMap (List ℕ) KnownName S → List PlacedName → List Variable → List Variable → List (List ℕ) → Type 0
HasGlobals names unjoined variables parameters flags =
    (name : List ℕ) → get (pointwise nat_eq) names name ≡ global_known_as unjoined variables parameters flags name
