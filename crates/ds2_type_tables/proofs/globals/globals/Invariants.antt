use Rattle.std.proofs.Common.{◌≡◌, ℕ, List, drop}
use Rattle.std.specs.Prelude.{nat_eq}
use Rattle.std.specs.Cmp.Lexicographic.{pointwise}
use Rattle.std.specs.HashMap.{get}
use Rattle.ds2_reference_types.specs.Scopes.{known_or}
use Rattle.ds2_type_tables.specs.Globals.{flag_of_name, global_known_as}
use Rattle.ds2_type_tables.proofs.globals.globals.Given as goal

abbrev pub invariant-flags : goal.invariant-flags
invariant-flags l =
    (name : List ℕ)
    → known_or (get (pointwise nat_eq) l.names name) (flag_of_name (drop l.name-index l.flags) name)
    ≡ global_known_as l.unjoined l.variables l.parameters l.flags name
