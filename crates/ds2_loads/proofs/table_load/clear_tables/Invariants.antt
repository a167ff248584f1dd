use Rattle.std.proofs.Common.{◌≡◌, drop}
use Rattle.ds2_code.specs.Desk.{with_slot_settings}
use Rattle.ds2_code_answer.specs.CodeLoads.{table_nulls}
use Rattle.ds2_loads.proofs.table_load.clear_tables.Given as goal

abbrev pub invariant-reads : goal.invariant-reads
invariant-reads l = with_slot_settings (table_nulls (drop l.read-index l.reads)) l.slots ≡ with_slot_settings (table_nulls l.reads) l.initial.slots
