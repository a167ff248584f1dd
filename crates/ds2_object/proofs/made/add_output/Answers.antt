use Rattle.ds2_object.proofs.MadeLemmas.{output_added}
use Rattle.ds2_object.proofs.made.add_output.Goals as goal

pub returns : goal.returns
returns c =
    output_added c.args.maker c.args.slots.now c.args.output.now c.in_ok-key.key c.args.made.now c.add_spelling.new.made c.in_ok-key.ensures c.requires c.in_ok-add_spelling.ensures
