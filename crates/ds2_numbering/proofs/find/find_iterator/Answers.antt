use Rattle.std.proofs.Common.{map}
use Rattle.std.specs.Prelude.{flat_map, None}
use Rattle.ds2_meaning.specs.Location.{Location, is_same_location}
use Rattle.ds2_meaning.specs.View.{instance_tree}
use Rattle.ds2_program_code.specs.PlacedProgram.{iterators_at, iterator_locations}
use Rattle.ds2_numbering.specs.CellNumbers.{tree_of, instance_iterators}
use Rattle.ds2_numbering.specs.Searching.{unbegun}
use Rattle.ds2_numbering.specs.SoughtLocations.{location_sought}
use Rattle.ds2_numbering.proofs.SearchLemmas.{first_found, search_both}
use Rattle.ds2_numbering.proofs.find.find_iterator.Goals as goal

pub returns : goal.returns
returns c =
    let p = c.args.program.now in
    let test = λ (other : Location). is_same_location (location_sought c.args.sought.now) other in
    let own = iterators_at None (tree_of p).objects in
    let others = flat_map instance_iterators (map instance_tree p.instances) in
    let whole = search_both test own others unbegun in
    first_found test (iterator_locations (tree_of p)) c.in_ok-search.search (cc (whole, c.in_ok-search.ensures, c.in_ok-own.ensures, c.new.ensures, c.as_slice.ensures, c.as_slice-2.ensures))
