use Rattle.std.proofs.Common.{◌≡◌, map, drop}
use Rattle.std.specs.Prelude.{flat_map}
use Rattle.ds2_meaning.specs.View.{instance_tree}
use Rattle.ds2_numbering.specs.CellNumbers.{instance_iterators}
use Rattle.ds2_numbering.specs.Searching.{search_among}
use Rattle.ds2_numbering.specs.SoughtLocations.{location_sought}
use Rattle.ds2_numbering.proofs.find.search_instance_iterators.Given as goal

abbrev pub invariant-instances : goal.invariant-instances
invariant-instances l =
    search_among (location_sought l.sought) (flat_map instance_iterators (map instance_tree (drop l.instance-index l.instances))) l.search
    ≡ search_among (location_sought l.sought) (flat_map instance_iterators (map instance_tree l.instances)) l.fn.begun
