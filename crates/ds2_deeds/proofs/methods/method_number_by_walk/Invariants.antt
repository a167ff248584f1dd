use Rattle.std.proofs.Common.{◌≡◌, map, drop}
use Rattle.ds2_locality.specs.Deeds.{is_same_method}
use Rattle.ds2_deeds.specs.NamedMethods.{method_of_name}
use Rattle.ds2_deeds.proofs.NumberLemmas.{number_from}
use Rattle.ds2_deeds.proofs.methods.method_number_by_walk.Given as goal

abbrev pub invariant-methods : goal.invariant-methods
invariant-methods l =
    (l.number ≡ l.other-index)
    × (number_from (is_same_method (method_of_name l.method)) l.other-index (map method_of_name (drop l.other-index l.methods)) ≡ number_from (is_same_method (method_of_name l.method)) 0 (map method_of_name l.methods))
