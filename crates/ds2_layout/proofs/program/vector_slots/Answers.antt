use Rattle.std.proofs.Common.{◌++◌, List, map, ap, ◌∙◌}
use Rattle.std.specs.HashSet.{contains_text}
use Rattle.ds2_meaning.specs.declared.globals.Variable.{Variable}
use Rattle.ds2_meaning.specs.ProgramTree.{is_listed}
use Rattle.ds2_meaning.specs.Reading.{is_column}
use Rattle.ds2_meaning.specs.View.{reading_with_run}
use Rattle.ds2_layout.specs.declared.slot.LayoutSlot.{LayoutSlot}
use Rattle.ds2_layout.specs.SlotSearch.{vector_slot_by}
use Rattle.ds2_layout.proofs.LayoutLemmas.{vector_made}
use Rattle.ds2_layout.proofs.program.vector_slots.Goals as goal

pub returns : goal.returns
returns c = λ thread parameters.
    let p = c.args.program.now in
    let columns = contains_text c.in_ok-names.names.columns in
    let retained = contains_text c.in_ok-names.names.retained in
    let slots = map (vector_slot_by columns retained) in
    vector_made columns retained (is_column (reading_with_run p.run p.reading)) (is_listed p.retained) c.in_ok-names.ensures.columns c.in_ok-names.ensures.retained
    p.declared p.columns c.add_vector.new.slots c.add_vector-2.new.slots
    (c.in_ok-add_vector.ensures ∙ ap (λ (l : List LayoutSlot). l ++ slots c.as_slice-first.result.now) c.new-slots.ensures ∙ ap slots c.as_slice-first.ensures)
    (c.in_ok-add_vector-2.ensures ∙ ap (λ (l : List Variable). c.add_vector.new.slots ++ slots l) c.as_slice-second.ensures)
