use Rattle.std.proofs.Common.{◌≡◌, drop}
use Rattle.std.specs.Prelude.{flat_map}
use Rattle.ds2_locality.specs.Verdict.{iterators_brought}
use Rattle.ds2_deeds.specs.CodeTrees.{nameless_tree}
use Rattle.ds2_deeds.specs.NamedLocations.{locations_named, with_locations}
use Rattle.ds2_deeds.proofs.table.add_all_declared_iterators.Given as goal

abbrev pub invariant-names : goal.invariant-names
invariant-names l =
    with_locations (locations_named l.locations) (flat_map (iterators_brought (nameless_tree l.program)) (drop l.name-index l.names))
    ≡ with_locations (locations_named l.fn.locations) (flat_map (iterators_brought (nameless_tree l.program)) l.names)
