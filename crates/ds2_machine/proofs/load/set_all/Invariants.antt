use Rattle.std.proofs.Common.{◌≡◌, drop}
use Rattle.ds2_code.specs.Desk.{with_slot_settings}
use Rattle.ds2_machine.proofs.load.set_all.Given as goal

abbrev pub invariant-loop-setting : goal.invariant-loop-setting
invariant-loop-setting l = with_slot_settings (drop l.setting-index l.settings) l.slots ≡ with_slot_settings l.settings l.initial.slots
