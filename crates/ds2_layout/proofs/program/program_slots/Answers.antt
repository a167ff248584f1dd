use Rattle.std.proofs.Common.{◌++◌, List, map, ap, ◌∙◌}
use Rattle.std.specs.Prelude.{flat_map}
use Rattle.ds2_meaning.specs.declared.units.Instance.{Instance}
use Rattle.ds2_meaning.specs.declared.readings.ByVariable.{ByVariable}
use Rattle.ds2_meaning.specs.declared.readings.Input.{Input}
use Rattle.ds2_meaning.specs.Reading.{inputs_of, bys_of}
use Rattle.ds2_meaning.specs.View.{unit_tree, instance_tree}
use Rattle.ds2_layout.specs.Layout.{vector_slots, parameter_slots, input_flag_slots, by_flag_slots, instance_slots}
use Rattle.ds2_layout.proofs.LayoutLemmas.{five_made}
use Rattle.ds2_layout.proofs.program.program_slots.Goals as goal

pub returns : goal.returns
returns c = λ thread.
    let u = unit_tree thread c.args.parameters.now c.args.program.now in
    let two = c.add_parameters.new.slots in
    let three = c.add_input_flags.new.slots in
    let four = c.add_by_flags.new.slots in
    five_made (vector_slots u) (parameter_slots u) (flat_map input_flag_slots (inputs_of u.reading)) (flat_map by_flag_slots (bys_of u.reading)) (flat_map instance_slots u.instances)
    c.in_ok-slots.slots two three four c.add_instances.new.slots
    (c.in_ok-slots.ensures thread c.args.parameters.now)
    c.in_ok-add_parameters.ensures
    (c.in_ok-add_input_flags.ensures ∙ ap (λ (l : List Input). two ++ flat_map input_flag_slots l) c.inputs_read.ensures)
    (c.in_ok-add_by_flags.ensures ∙ ap (λ (l : List ByVariable). three ++ flat_map by_flag_slots l) c.bys_read.ensures)
    (c.in_ok-add_instances.ensures ∙ ap (λ (l : List Instance). four ++ flat_map instance_slots (map instance_tree l)) c.as_slice.ensures)
