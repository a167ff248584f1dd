use Rattle.ds2_merge.proofs.TablePlaces.{ArePlacedTo}
use Rattle.ds2_merge.proofs.next_key.table_places.Given as goal

abbrev pub invariant-tables : goal.invariant-tables
invariant-tables l = ArePlacedTo l.rows l.start l.fn.end l.table l.place l.begins l.ends
