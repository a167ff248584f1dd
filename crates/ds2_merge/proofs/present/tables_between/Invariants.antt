use Rattle.ds2_merge.proofs.Bits.{HasFlags}
use Rattle.ds2_merge.proofs.present.tables_between.Given as goal

abbrev pub invariant-tables : goal.invariant-tables
invariant-tables l = HasFlags l.begins l.ends l.tables l.table l.present

abbrev pub decreases-tables : goal.decreases-tables
decreases-tables l = l.table
