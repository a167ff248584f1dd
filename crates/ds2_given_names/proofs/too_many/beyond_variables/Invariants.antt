use Rattle.std.proofs.Common.{◌≡◌, ◌++◌, drop}
use Rattle.ds2_given_names.specs.TooMany.{places_bracketed}
use Rattle.ds2_given_names.proofs.too_many.beyond_variables.Given as goal

abbrev pub invariant-names : goal.invariant-names
invariant-names l = l.places ++ places_bracketed (drop l.n-index l.names) ≡ places_bracketed l.names
