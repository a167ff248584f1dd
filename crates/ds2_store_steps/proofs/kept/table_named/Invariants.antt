use Rattle.std.proofs.Common.{◌≡◌, drop}
use Rattle.ds2_answer.specs.HeldTables.{contents_named}
use Rattle.ds2_store_steps.proofs.kept.table_named.Given as goal

abbrev pub invariant-tables : goal.invariant-tables
invariant-tables l = contents_named (drop l.table-index l.tables) l.name ≡ contents_named l.tables l.name
