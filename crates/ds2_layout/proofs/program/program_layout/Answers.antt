use Rattle.std.proofs.Common.{List, map, ap, ◌∙◌}
use Rattle.std.specs.HashMap.{get_by_text}
use Rattle.ds2_meaning.specs.View.{unit_tree}
use Rattle.ds2_layout.specs.declared.slot.LayoutSlot.{LayoutSlot}
use Rattle.ds2_layout.specs.Layout.{program_slots, slot_at}
use Rattle.ds2_layout.specs.SlotSearch.{own_variable, projection_by}
use Rattle.ds2_layout.proofs.LayoutLemmas.{layout_made}
use Rattle.ds2_layout.proofs.program.program_layout.Goals as goal

pub returns : goal.returns
returns c = λ thread.
    let p = c.args.program.now in
    let numbers = get_by_text c.in_ok-numbers.numbers in
    layout_made c.in_ok-slots.slots (program_slots (unit_tree thread c.args.parameters.now p)) c.in_ok-projections.projections p.outputs numbers
    (c.in_ok-slots.ensures thread)
    (λ name. c.in_ok-numbers.ensures name ∙ ap (λ (l : List LayoutSlot). slot_at l (own_variable name)) c.as_slice.ensures)
    (c.in_ok-projections.ensures ∙ ap (map (projection_by numbers)) c.as_slice-2.ensures)
