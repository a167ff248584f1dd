use Rattle.std.proofs.Common.{◌≡◌, drop}
use Rattle.std.specs.Prelude.{map}
use Rattle.ds2_reading.specs.LoadMeaning.{row_or_none}
use Rattle.ds2_code.specs.Desk.{with_slot_settings}
use Rattle.ds2_code_answer.specs.CodeLoads.{read_settings}
use Rattle.ds2_loads.proofs.table_load.set_rows.Given as goal

abbrev pub invariant-reads : goal.invariant-reads
invariant-reads l =
    with_slot_settings (read_settings l.parts l.tables (drop l.number l.reads) (map row_or_none (drop l.number l.rows))) l.slots
    ≡ with_slot_settings (read_settings l.parts l.tables l.reads (map row_or_none l.rows)) l.initial.slots
