use Rattle.std.proofs.Common.{◌≡◌, ℕ, List, drop}
use Rattle.std.specs.Prelude.{nat_eq}
use Rattle.std.specs.Cmp.Lexicographic.{pointwise}
use Rattle.std.specs.HashMap.{get}
use Rattle.ds2_meaning.specs.IsTyped.{type_in}
use Rattle.ds2_reference_types.specs.Scopes.{known_or}
use Rattle.ds2_type_tables.specs.Globals.{column_known_as, parameter_known_as}
use Rattle.ds2_type_tables.proofs.globals.variables_and_parameters.Given as goal

abbrev pub invariant-parameters : goal.invariant-parameters
invariant-parameters l =
    (name : List ℕ)
    → known_or (get (pointwise nat_eq) l.names name) (parameter_known_as name (type_in (drop l.v-index l.parameters) name))
    ≡ known_or (column_known_as l.unjoined name (type_in l.variables name)) (parameter_known_as name (type_in l.parameters name))
