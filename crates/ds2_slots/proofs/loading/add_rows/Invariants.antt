use Rattle.std.proofs.Common.{◌≡◌, [], drop, get_or}
use Rattle.ds2_code.specs.CodeUnit.{with_rows_added}
use Rattle.ds2_slots.proofs.loading.add_rows.Given as goal

abbrev pub invariant-rows : goal.invariant-rows
invariant-rows g l =
    let rows = get_or (g.T.HashTables.tables l.from.tables.now) l.from.number [] in
    with_rows_added l.slots l.part l.from.columns.now (drop l.row rows) l.object ≡ with_rows_added l.slots l.part l.from.columns.now rows l.initial.object
