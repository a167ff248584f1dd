use Rattle.std.proofs.Common.{◌≡◌, ◌++◌, map, drop}
use Rattle.ds2_generate.specs.PartsAmong.{hash_part_among}
use Rattle.ds2_numbering.specs.SoughtLocations.{home_of_name}
use Rattle.ds2_generate.proofs.tables.add_hashes.Given as goal

abbrev pub invariant-hashes : goal.invariant-hashes
invariant-hashes l = l.parts ++ map (hash_part_among l.slots (home_of_name l.home)) (drop l.hash-index l.hashes) ≡ l.fn.parts ++ map (hash_part_among l.slots (home_of_name l.home)) l.hashes
