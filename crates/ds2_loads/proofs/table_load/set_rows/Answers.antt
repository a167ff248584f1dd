use Rattle.std.proofs.Common.{◌≡◌, length, map, Some, refl}
use Rattle.std.specs.Prelude.{slice_get}
use Rattle.std.proofs.lemmas.Option.{slice_get_read}
use Rattle.ds2_reading.specs.LoadMeaning.{row_or_none}
use Rattle.ds2_code.specs.Desk.{with_slot_settings}
use Rattle.ds2_code_answer.specs.CodeLoads.{read_settings}
use Rattle.ds2_loads.proofs.LoadSteps.{reads_next}
use Rattle.ds2_loads.proofs.table_load.set_rows.Goals as goal

pub reads-preserved : goal.reads-preserved
reads-preserved c =
    let parts = c.args.parts.now in
    let tables = c.args.tables.now in
    let reads = c.args.reads.now in
    let rows = c.args.rows.now in
    let found = c.in-Some.ensures.lookup in
    let there : slice_get rows c.reads.number ≡ Some c.in-Some.row.now = slice_get_read rows (length rows) c.reads.number c.in-Some.row.now refl found.3.0 found.1 in
    reads_next parts tables reads rows c.reads.number c.index-reads-number.result c.in-Some.row.now c.reads.slots c.set_row.new.slots
    (with_slot_settings (read_settings parts tables reads (map row_or_none rows)) c.args.slots.now) c.reads-test.true c.index-reads-number.is there c.in_ok-set_row.ensures c.reads.invariant
