use Rattle.std.proofs.Common.{◌≡◌, take}
use Rattle.ds2_compile.proofs.typed_so_far.copied.Given as goal

abbrev pub invariant-tables : goal.invariant-tables
invariant-tables l = l.copy ≡ take l.table-index l.tables
