use Rattle.std.proofs.Common.{◌≡◌, ◌++◌, drop}
use Rattle.std.specs.Prelude.{flat_map}
use Rattle.ds2_layout.specs.Layout.{by_flag_slots}
use Rattle.ds2_layout.proofs.slots.add_by_flags.Given as goal

abbrev pub invariant-bys : goal.invariant-bys
invariant-bys l = l.slots ++ flat_map by_flag_slots (drop l.by-index l.bys) ≡ l.fn.slots ++ flat_map by_flag_slots l.bys
