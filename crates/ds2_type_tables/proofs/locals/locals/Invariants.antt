use Rattle.std.proofs.Common.{◌≡◌, ℕ, List, drop}
use Rattle.std.specs.Prelude.{nat_eq}
use Rattle.std.specs.Cmp.Lexicographic.{pointwise}
use Rattle.std.specs.HashMap.{get}
use Rattle.ds2_meaning.specs.IsTyped.{type_in}
use Rattle.ds2_reference_types.specs.Scopes.{known_or}
use Rattle.ds2_type_tables.specs.Tables.{local_of}
use Rattle.ds2_type_tables.proofs.locals.locals.Given as goal

abbrev pub invariant-variables : goal.invariant-variables
invariant-variables l =
    (name : List ℕ) → known_or (get (pointwise nat_eq) l.names name) (local_of name (type_in (drop l.v-index l.variables) name)) ≡ local_of name (type_in l.variables name)
