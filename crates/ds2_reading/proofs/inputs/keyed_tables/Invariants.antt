use Rattle.std.proofs.Common.{◌≡◌, ◌++◌, length, map}
use Rattle.std.specs.Prelude.{IsTrue}
use Rattle.std.specs.List.{list_all}
use Rattle.ds2_reading.specs.ReadingFits.{read_table_fits}
use Rattle.ds2_reading.specs.ReadingKeys.{keys_of_table}
use Rattle.ds2_reading.proofs.inputs.keyed_tables.Given as goal

abbrev pub invariant-reads : goal.invariant-reads
invariant-reads l =
    IsTrue (list_all (read_table_fits l.tables) l.rest)
    × (l.keyed ++ map (keys_of_table l.tables l.bys) l.rest ≡ map (keys_of_table l.tables l.bys) l.reads)

abbrev pub decreases-reads : goal.decreases-reads
decreases-reads l = length l.rest
