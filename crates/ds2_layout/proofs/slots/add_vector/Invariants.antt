use Rattle.std.proofs.Common.{◌≡◌, ◌++◌, drop, map}
use Rattle.std.specs.HashSet.{contains_text}
use Rattle.ds2_layout.specs.SlotSearch.{vector_slot_by}
use Rattle.ds2_layout.proofs.slots.add_vector.Given as goal

abbrev pub invariant-variables : goal.invariant-variables
invariant-variables l =
    l.slots ++ map (vector_slot_by (contains_text l.names.columns) (contains_text l.names.retained)) (drop l.variable-index l.variables)
    ≡ l.fn.slots ++ map (vector_slot_by (contains_text l.names.columns) (contains_text l.names.retained)) l.variables
