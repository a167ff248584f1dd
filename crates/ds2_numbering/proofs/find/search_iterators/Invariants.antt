use Rattle.std.proofs.Common.{◌≡◌, drop}
use Rattle.std.proofs.Common.{[]}
use Rattle.ds2_meaning.specs.View.{objects_tree}
use Rattle.ds2_program_code.specs.PlacedProgram.{iterators_at}
use Rattle.ds2_numbering.specs.Searching.{search_among}
use Rattle.ds2_numbering.specs.SoughtLocations.{location_sought, home_of_name}
use Rattle.ds2_numbering.proofs.find.search_iterators.Given as goal

abbrev pub invariant-iterators : goal.invariant-iterators
invariant-iterators l =
    search_among (location_sought l.sought) (iterators_at (home_of_name l.home) (objects_tree [] (drop l.iterator-index l.iterators))) l.search
    ≡ search_among (location_sought l.sought) (iterators_at (home_of_name l.home) (objects_tree [] l.iterators)) l.fn.begun
