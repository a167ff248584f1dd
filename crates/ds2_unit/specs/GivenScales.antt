-- Whether values that are given for slots have the scales of these.
use Rattle.std.specs.Prelude.{ℕ, Bool, true, ◌&&◌, List, [], ◌∷◌, Option, Some, None}
use Rattle.ds2_value.specs.Row.{Row}
use Rattle.ds2_value.specs.declared.ty.Ty.{Ty}
use Rattle.ds2_value.specs.declared.value.Value.{Value}
use Rattle.ds2_code.specs.declared.parts.Slot.{Slot}
use Rattle.ds2_code.specs.OperandTypes.{slot_type}
use Rattle.ds2_code.specs.Scales.{is_scaled}

-- a value has the scale of the slot for which it is given, where that slot is there
abbrev pub has_scale_of_slot : Option Ty → Value → Bool
has_scale_of_slot None value = true
has_scale_of_slot (Some ty) value = is_scaled value ty

-- each value that is given for a slot, in order, has the scale of the slot
abbrev pub have_given_scales : List Slot → List ℕ → Row → Bool
have_given_scales slots ns [] = true
have_given_scales slots [] (v ∷ vs) = true
have_given_scales slots (n ∷ ns) (v ∷ vs) = has_scale_of_slot (slot_type slots n) v && have_given_scales slots ns vs
