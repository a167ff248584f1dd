use Rattle.std.proofs.Common.{◌≡◌, length}
use Rattle.std.specs.List.{list_all}
use Rattle.ds2_reading.specs.ReadingFits.{by_column_is}
use Rattle.ds2_reading.proofs.reading.are_by_columns.Given as goal

abbrev pub invariant-reads : goal.invariant-reads
invariant-reads l = list_all (by_column_is l.tables l.slot l.numbers) l.rest ≡ list_all (by_column_is l.tables l.slot l.numbers) l.reads

abbrev pub decreases-reads : goal.decreases-reads
decreases-reads l = length l.rest
