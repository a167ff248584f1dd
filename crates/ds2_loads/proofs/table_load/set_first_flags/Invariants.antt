use Rattle.std.proofs.Common.{◌≡◌, length}
use Rattle.ds2_reading.specs.LoadMeaning.{bits_of}
use Rattle.ds2_code.specs.Desk.{with_slot_settings}
use Rattle.ds2_code_answer.specs.CodeLoads.{by_flag_settings, first_flag_of}
use Rattle.ds2_loads.proofs.table_load.set_first_flags.Given as goal

abbrev pub invariant-bys : goal.invariant-bys
invariant-bys l =
    with_slot_settings (by_flag_settings first_flag_of l.rest (bits_of (length l.rest) l.bits)) l.slots
    ≡ with_slot_settings (by_flag_settings first_flag_of l.bys (bits_of (length l.bys) l.first)) l.initial.slots

abbrev pub decreases-bys : goal.decreases-bys
decreases-bys l = length l.rest
