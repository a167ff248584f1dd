use Rattle.std.proofs.Common.{◌≡◌, drop}
use Rattle.ds2_code.specs.Desk.{with_slot_settings}
use Rattle.ds2_code_answer.specs.CodeLoads.{column_nulls}
use Rattle.ds2_loads.proofs.table_load.clear_slots.Given as goal

abbrev pub invariant-numbers : goal.invariant-numbers
invariant-numbers l = with_slot_settings (column_nulls (drop l.number-index l.numbers)) l.slots ≡ with_slot_settings (column_nulls l.numbers) l.initial.slots
