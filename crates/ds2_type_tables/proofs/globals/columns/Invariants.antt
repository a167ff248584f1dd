use Rattle.std.proofs.Common.{◌≡◌, ℕ, List, drop}
use Rattle.std.specs.Prelude.{nat_eq}
use Rattle.std.specs.Cmp.Lexicographic.{pointwise}
use Rattle.std.specs.HashMap.{get}
use Rattle.ds2_meaning.specs.IsTyped.{type_in}
use Rattle.ds2_reference_types.specs.Scopes.{known_or}
use Rattle.ds2_type_tables.specs.Globals.{column_known_as}
use Rattle.ds2_type_tables.proofs.globals.columns.Given as goal

abbrev pub invariant-variables : goal.invariant-variables
invariant-variables l =
    (name : List ℕ)
    → known_or (get (pointwise nat_eq) l.names name) (column_known_as l.unjoined name (type_in (drop l.v-index l.variables) name)) ≡ column_known_as l.unjoined name (type_in l.variables name)
