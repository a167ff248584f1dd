use Rattle.ds2_merge.proofs.NextMerge.{current_some, current_next}
use Rattle.ds2_merge.proofs.next_load.current_key.Goals as goal

pub next_key-requires-clause-tables : goal.next_key-requires-clause-tables
next_key-requires-clause-tables c = c.requires.tables

pub next_key-requires-clause-place : goal.next_key-requires-clause-place
next_key-requires-clause-place c = c.requires.place

pub returns-in-Some : goal.returns-in-Some
returns-in-Some c = current_some c.args.rows.now c.args.place.now c.in-Some.key c.requires c.in-Some.is

pub returns-in-None : goal.returns-in-None
returns-in-None c = current_next c.args.rows.now c.args.place.now c.next_key.result c.requires c.in-None.is c.next_key.ensures
