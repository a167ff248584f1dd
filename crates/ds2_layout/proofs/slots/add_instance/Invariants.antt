use Rattle.std.proofs.Common.{◌≡◌, ◌++◌, drop, map, Some}
use Rattle.ds2_meaning.specs.declared.globals.Variable.{Variable}
use Rattle.ds2_meaning.specs.declared.location.Global.TheVariants.{Named}
use Rattle.ds2_layout.specs.declared.slot.SlotRole.TheVariants.{Kept}
use Rattle.ds2_layout.specs.Layout.{slot_for}
use Rattle.ds2_layout.proofs.slots.add_instance.Given as goal

abbrev pub invariant-variables : goal.invariant-variables
invariant-variables l =
    l.slots ++ map (λ (v : Variable). slot_for (Some l.instance) (Named v.name) v.ty Kept) (drop l.variable-index l.variables)
    ≡ l.fn.slots ++ map (λ (v : Variable). slot_for (Some l.instance) (Named v.name) v.ty Kept) l.variables
