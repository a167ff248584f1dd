use Rattle.std.proofs.Common.{List, map, ap, ◌∙◌}
use Rattle.ds2_layout.specs.declared.slot.LayoutSlot.{LayoutSlot}
use Rattle.ds2_program_code.specs.CodeParts.{layout_slot}
use Rattle.ds2_generate.proofs.SlotLemmas.{init_named, run_named, term_named, slots_placed}
use Rattle.ds2_generate.proofs.program.all_slots.Goals as goal

pub add_own_slots-requires : goal.add_own_slots-requires
add_own_slots-requires c = init_named

pub add_own_slots-requires-2 : goal.add_own_slots-requires-2
add_own_slots-requires-2 c = run_named

pub add_own_slots-requires-3 : goal.add_own_slots-requires-3
add_own_slots-requires-3 c = term_named

pub returns : goal.returns
returns c =
    slots_placed c.each_value_has_type.ensures c.args.unit.now _ _ _ _ _ _ _ c.requires (c.in_ok-slots.ensures ∙ ap (λ (l : List LayoutSlot). map layout_slot l) c.as_slice.ensures)
    c.in_ok-init.ensures.first c.in_ok-init.ensures.slots c.in_ok-run.ensures.first c.in_ok-run.ensures.slots c.in_ok-term.ensures.first c.in_ok-term.ensures.slots
