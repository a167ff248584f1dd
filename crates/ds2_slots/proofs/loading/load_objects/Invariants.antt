use Rattle.std.proofs.Common.{◌≡◌, ◌≤◌, ◌++◌, drop}
use Rattle.ds2_code.specs.CodeUnit.{opening_hashes}
use Rattle.ds2_slots.proofs.loading.load_objects.Given as goal

abbrev pub invariant-loop-part : goal.invariant-loop-part
invariant-loop-part g l = record {
  built : l.list ++ opening_hashes l.slots (drop l.part-index l.parts) (drop l.next (g.T.HashTables.tables l.tables)) ≡ opening_hashes l.slots l.parts (g.T.HashTables.tables l.tables);
  count : l.next ≤ l.part-index;
}
