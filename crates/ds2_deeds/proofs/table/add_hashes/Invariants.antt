use Rattle.std.proofs.Common.{◌≡◌, [], drop}
use Rattle.ds2_locality.specs.Verdict.{hashes_kept_at}
use Rattle.ds2_meaning.specs.View.{objects_tree}
use Rattle.ds2_deeds.specs.NamedLocations.{code_home, locations_named, with_locations}
use Rattle.ds2_deeds.proofs.table.add_hashes.Given as goal

abbrev pub invariant-hashes : goal.invariant-hashes
invariant-hashes l =
    with_locations (locations_named l.locations) (hashes_kept_at (code_home l.home) (objects_tree (drop l.hash-index l.hashes) []))
    ≡ with_locations (locations_named l.fn.locations) (hashes_kept_at (code_home l.home) (objects_tree l.hashes []))
