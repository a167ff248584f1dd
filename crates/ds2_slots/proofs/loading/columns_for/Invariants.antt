use Rattle.std.proofs.Common.{◌≡◌, ◌++◌, drop}
use Rattle.ds2_code.specs.CodeUnit.{columns_for}
use Rattle.ds2_slots.specs.LoadedHashes.{row_in_table}
use Rattle.ds2_slots.proofs.loading.columns_for.Given as goal

abbrev pub invariant-loop-place : goal.invariant-loop-place
invariant-loop-place g l =
    let values = row_in_table (g.T.HashTables.tables l.from.tables.now) l.from.number l.row in
    l.list ++ columns_for l.slots (drop l.place l.numbers) (drop l.place l.columns) values ≡ columns_for l.slots l.numbers l.columns values
