use Rattle.std.proofs.Common.{◌≡◌, drop}
use Rattle.std.proofs.Common.{[]}
use Rattle.ds2_meaning.specs.View.{objects_tree}
use Rattle.ds2_program_code.specs.PlacedProgram.{hashes_at}
use Rattle.ds2_numbering.specs.Searching.{search_among}
use Rattle.ds2_numbering.specs.SoughtLocations.{location_sought, home_of_name}
use Rattle.ds2_numbering.proofs.find.search_hashes.Given as goal

abbrev pub invariant-hashes : goal.invariant-hashes
invariant-hashes l =
    search_among (location_sought l.sought) (hashes_at (home_of_name l.home) (objects_tree (drop l.hash-index l.hashes) [])) l.search
    ≡ search_among (location_sought l.sought) (hashes_at (home_of_name l.home) (objects_tree l.hashes [])) l.fn.begun
