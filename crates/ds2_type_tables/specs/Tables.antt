-- What tables of names tell.
use Rattle.std.specs.Prelude.{◌≡◌, ℕ, nat_eq, if◌then◌else◌, List, Option, Some, None}
use Rattle.std.specs.Cmp.Lexicographic.{pointwise}
use Rattle.std.specs.HashMap.{HashMap, get}
use Rattle.ds2_value.specs.declared.ty.Ty.{Ty}
use Rattle.ds2_meaning.specs.IsTyped.{type_in}
use Rattle.ds2_meaning.specs.declared.globals.Variable.{Variable}
use Rattle.ds2_reference_types.specs.declared.scopes.KnownName.{KnownName}
use Rattle.ds2_reference_types.specs.declared.scopes.Standing.TheVariants as standing

-- a parameter or local, as it is known
abbrev pub known_local : Variable → KnownName
known_local v = record { name = v.name; standing = standing.Local; ty = v.ty; refusal = None }

-- the parameter or local of this name, where there is one of this type
abbrev pub local_of : List ℕ → Option Ty → Option KnownName
local_of name None = None
local_of name (Some ty) = Some (record { name = name; standing = standing.Local; ty = ty; refusal = None })

-- a table tells of each name the first of these parameters and locals that has it
abbrev pub HasLocals : {S : Type 0} → HashMap (List ℕ) KnownName S → List Variable → Type 0
HasLocals names variables = (name : List ℕ) → get (pointwise nat_eq) names name ≡ local_of name (type_in variables name)
