use Rattle.ds2_object.proofs.WalkLemmas.{set_made, merge_made}
use Rattle.ds2_object.proofs.linked.reading_is_made.Goals as goal

pub returns-in-Set : goal.returns-in-Set
returns-in-Set c = set_made c.args.made.now c.args.reading.now _ _ _ c.tables_are_made.result c.in-Set.is c.as_slice.ensures c.tables_are_made.ensures

pub returns-in-Merge : goal.returns-in-Merge
returns-in-Merge c = merge_made c.args.made.now c.args.reading.now _ _ _ _ c.tables_are_made-in-Merge.result c.in-Merge.is c.as_slice-in-Merge.ensures c.tables_are_made-in-Merge.ensures
