use Rattle.std.proofs.Common.{◌≡◌, ◌++◌, drop, map, None}
use Rattle.ds2_meaning.specs.declared.globals.Variable.{Variable}
use Rattle.ds2_meaning.specs.declared.location.Global.TheVariants.{Parameter}
use Rattle.ds2_layout.specs.declared.slot.SlotRole.TheVariants.{Kept}
use Rattle.ds2_layout.specs.Layout.{slot_for}
use Rattle.ds2_layout.proofs.slots.add_parameters.Given as goal

abbrev pub invariant-parameters : goal.invariant-parameters
invariant-parameters l =
    l.slots ++ map (λ (v : Variable). slot_for None (Parameter v.name) v.ty Kept) (drop l.parameter-index l.parameters)
    ≡ l.fn.slots ++ map (λ (v : Variable). slot_for None (Parameter v.name) v.ty Kept) l.parameters
