use Rattle.std.proofs.Common.{◌≡◌, length}
use Rattle.ds2_reading.specs.LoadMeaning.{bits_of}
use Rattle.ds2_code.specs.Desk.{with_slot_settings}
use Rattle.ds2_code_answer.specs.CodeLoads.{in_flag_settings}
use Rattle.ds2_loads.proofs.table_load.set_in_flags.Given as goal

abbrev pub invariant-reads : goal.invariant-reads
invariant-reads l =
    with_slot_settings (in_flag_settings l.rest (bits_of (length l.rest) l.bits)) l.slots
    ≡ with_slot_settings (in_flag_settings l.reads (bits_of (length l.reads) l.present)) l.initial.slots

abbrev pub decreases-reads : goal.decreases-reads
decreases-reads l = length l.rest
