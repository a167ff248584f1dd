use Rattle.std.proofs.Common.{not, ◌||◌, if◌then◌else◌, List, [], length, map, take, sym, ap, ◌∙◌}
use Rattle.ds2_reading.specs.declared.reading.ByKey.{ByKey}
use Rattle.ds2_reading.specs.declared.reading.ReadTable.{ReadTable}
use Rattle.ds2_reading.specs.LoadMeaning.{bits_of, row_or_none}
use Rattle.ds2_code.specs.Desk.{with_slot_settings}
use Rattle.ds2_code_answer.specs.CodeLoads.{table_nulls, read_settings, in_flag_settings, by_flag_settings, first_flag_of, last_flag_of}
use Rattle.ds2_loads.proofs.LoadSteps.{five_in_turn, reads_taken}
use Rattle.ds2_loads.proofs.table_load.TableLoad.set_slots.Goals as goal

pub returns : goal.returns
returns c =
    let it = c.args.self.now in
    let load = it.load in
    let reads = it.reading.now.tables in
    let bys = it.reading.now.bys in
    let parts = it.slots.now in
    let tables = it.tables.now in
    let begun = c.args.slots.now in
    let cleared = c.clear_where.new.slots in
    let read_so = c.set_rows.new.slots in
    let present = c.set_in_flags.new.slots in
    let first = c.set_first_flags.new.slots in
    let last = c.set_last_flags.new.slots in
    five_in_turn (if not it.retains || load.is_fresh then table_nulls reads else []) (read_settings parts tables reads (map row_or_none (take (length reads) load.rows)))
    (in_flag_settings reads (bits_of (length reads) load.present)) (by_flag_settings first_flag_of bys (bits_of (length bys) load.first)) (by_flag_settings last_flag_of bys (bits_of (length bys) load.last))
    begun cleared read_so present first last
    (c.clear_where.ensures
    ∙ ap (λ b. with_slot_settings (if b then table_nulls c.as_slice-reads.result.now else []) begun) c.clears_columns-clears.ensures
    ∙ ap (λ (rs : List ReadTable). with_slot_settings (if not it.retains || load.is_fresh then table_nulls rs else []) begun) c.as_slice-reads.ensures)
    (c.in_ok-set_rows.ensures
    ∙ ap (λ (rs : List ReadTable). with_slot_settings (read_settings parts tables rs (map row_or_none load.rows)) cleared) c.as_slice-reads.ensures
    ∙ ap (λ xs. with_slot_settings xs cleared) (sym (reads_taken parts tables reads load.rows)))
    (c.set_in_flags.ensures ∙ ap (λ (rs : List ReadTable). with_slot_settings (in_flag_settings rs (bits_of (length rs) load.present)) read_so) c.as_slice-reads.ensures)
    (c.set_first_flags.ensures ∙ ap (λ (rs : List ByKey). with_slot_settings (by_flag_settings first_flag_of rs (bits_of (length rs) load.first)) present) c.as_slice-bys.ensures)
    (c.set_last_flags.ensures ∙ ap (λ (rs : List ByKey). with_slot_settings (by_flag_settings last_flag_of rs (bits_of (length rs) load.last)) first) c.as_slice-bys.ensures)
