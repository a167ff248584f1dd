use Rattle.std.proofs.Common.{◌≡◌, ◌++◌, drop}
use Rattle.std.specs.Prelude.{flat_map}
use Rattle.ds2_layout.specs.Layout.{input_flag_slots}
use Rattle.ds2_layout.proofs.slots.add_input_flags.Given as goal

abbrev pub invariant-inputs : goal.invariant-inputs
invariant-inputs l = l.slots ++ flat_map input_flag_slots (drop l.input-index l.inputs) ≡ l.fn.slots ++ flat_map input_flag_slots l.inputs
