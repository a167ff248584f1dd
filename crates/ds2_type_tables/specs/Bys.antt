-- BY variables, as a table tells them.
use Rattle.std.specs.Prelude.{◌≡◌, ℕ, nat_eq, if◌then◌else◌, List, Option, Some, None}
use Rattle.std.specs.Cmp.Lexicographic.{pointwise}
use Rattle.std.specs.HashMap.{HashMap, get}
use Rattle.ds2_meaning.specs.ProgramTree.{is_listed}

-- a name, where it is one of these
abbrev pub if_listed : List (List ℕ) → List ℕ → Option (List ℕ)
if_listed names name = if is_listed names name then Some name else None

-- a table tells of each name whether it is that of one of these BY variables
abbrev pub HasBys : {S : Type 0} → HashMap (List ℕ) (List ℕ) S → List (List ℕ) → Type 0
HasBys table names = (name : List ℕ) → get (pointwise nat_eq) table name ≡ if_listed names name
