use Rattle.std.proofs.Common.{◌≡◌, ◌++◌, length, map}
use Rattle.std.specs.List.{AllByRecursion}
use Rattle.ds2_table.specs.Table.{IsTable}
use Rattle.ds2_answer.specs.HeldTables.{table_held}
use Rattle.ds2_store_steps.proofs.references.tables_referred.Given as goal

abbrev pub invariant-references : goal.invariant-references
invariant-references l = record {
  held : l.tables ++ map (table_held (record { stored = l.stored; made = l.made })) l.left ≡ map (table_held (record { stored = l.stored; made = l.made })) l.references;
  whole : AllByRecursion IsTable l.tables;
}

abbrev pub decreases-references : goal.decreases-references
decreases-references l = length l.left
