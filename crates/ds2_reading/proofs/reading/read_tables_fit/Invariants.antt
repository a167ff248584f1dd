use Rattle.std.proofs.Common.{◌≡◌, length}
use Rattle.std.specs.List.{list_all}
use Rattle.ds2_reading.specs.ReadingFits.{read_table_fits}
use Rattle.ds2_reading.proofs.reading.read_tables_fit.Given as goal

abbrev pub invariant-tables : goal.invariant-tables
invariant-tables l = list_all (read_table_fits l.tables) l.rest ≡ list_all (read_table_fits l.tables) l.reads

abbrev pub decreases-tables : goal.decreases-tables
decreases-tables l = length l.rest
