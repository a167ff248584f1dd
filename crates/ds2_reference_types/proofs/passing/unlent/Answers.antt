use Rattle.ds2_reference_types.proofs.PassingForms.{unlent_given}
use Rattle.ds2_reference_types.proofs.passing.unlent.Goals as goal

pub returns : goal.returns
returns c = λ e p h n.
    unlent_given c.args.ty e c.args.x c.args.place c.type_clash-other.result p h c.type_clash-other.ensures c.refusal.result c.broken.result c.first_of_both.result n c.refusal.ensures
    c.broken.ensures c.first_of_both.ensures
