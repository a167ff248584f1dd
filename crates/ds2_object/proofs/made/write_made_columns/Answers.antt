use Rattle.ds2_object.proofs.MadeLemmas.{columns_begun}
use Rattle.ds2_object.proofs.made.write_made_columns.Goals as goal

pub columns-init : goal.columns-init
columns-init c = columns_begun c.args.out.now c.args.slots.now c.args.columns.now c.requires
