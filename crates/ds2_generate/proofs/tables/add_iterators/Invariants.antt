use Rattle.std.proofs.Common.{◌≡◌, ◌++◌, map, drop}
use Rattle.ds2_program_code.specs.CodeParts.{walked_hash}
use Rattle.ds2_numbering.specs.CellNumbers.{tree_of}
use Rattle.ds2_numbering.specs.SoughtLocations.{home_of_name}
use Rattle.ds2_generate.proofs.tables.add_iterators.Given as goal

abbrev pub invariant-iterators : goal.invariant-iterators
invariant-iterators l = l.parts ++ map (walked_hash (tree_of l.program) (home_of_name l.home)) (drop l.iterator-index l.iterators) ≡ l.fn.parts ++ map (walked_hash (tree_of l.program) (home_of_name l.home)) l.iterators
