use Rattle.std.proofs.Common.{◌≡◌, ℕ, List, drop}
use Rattle.std.specs.Prelude.{nat_eq}
use Rattle.std.specs.Cmp.Lexicographic.{pointwise}
use Rattle.std.specs.HashMap.{get}
use Rattle.ds2_scope.specs.Earliest.{earlier_of}
use Rattle.ds2_scope.specs.NamedPlaces.{first_place_of}
use Rattle.ds2_scope.proofs.repeated.first_places.Given as goal

abbrev pub invariant-names : goal.invariant-names
invariant-names l = (name : List ℕ) → earlier_of (get (pointwise nat_eq) l.firsts name) (first_place_of (drop l.n-index l.names) name) ≡ first_place_of l.names name
