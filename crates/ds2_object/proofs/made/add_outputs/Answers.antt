use Rattle.ds2_object.proofs.MadeLemmas.{first_and_rest, output_more}
use Rattle.ds2_object.proofs.made.add_outputs.Goals as goal

pub outputs-preserved : goal.outputs-preserved
outputs-preserved c =
    output_more c.args.made.now c.args.maker c.args.slots.now c.args.outputs.now c.outputs.made c.add_output.new.made c.first-item.result c.outputs.rest.now _
    (first_and_rest c.outputs.rest.now c.first-item.result c.in-len1-up.len_at_least c.first-item.is) c.outputs.invariant c.in_ok-add_output.ensures
