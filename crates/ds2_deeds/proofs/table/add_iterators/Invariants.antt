use Rattle.std.proofs.Common.{◌≡◌, [], drop}
use Rattle.ds2_locality.specs.Verdict.{iterators_kept_at}
use Rattle.ds2_meaning.specs.View.{objects_tree}
use Rattle.ds2_deeds.specs.NamedLocations.{code_home, locations_named, with_locations}
use Rattle.ds2_deeds.proofs.table.add_iterators.Given as goal

abbrev pub invariant-iterators : goal.invariant-iterators
invariant-iterators l =
    with_locations (locations_named l.locations) (iterators_kept_at (code_home l.home) (objects_tree [] (drop l.iterator-index l.iterators)))
    ≡ with_locations (locations_named l.fn.locations) (iterators_kept_at (code_home l.home) (objects_tree [] l.iterators))
