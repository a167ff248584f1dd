use Rattle.std.proofs.Common.{Some, None, ◌∙◌}
use Rattle.ds2_unit.proofs.GivenScales.{scale_where}
use Rattle.ds2_unit.proofs.given.fits_slot.Goals as goal

pub returns-in-None : goal.returns-in-None
returns-in-None c = scale_where c.args.slots.now c.args.number c.args.value.now None c.in-None.ensures

pub returns-in-Some : goal.returns-in-Some
returns-in-Some c = c.is_scaled.ensures ∙ scale_where c.args.slots.now c.args.number c.args.value.now (Some c.in-Some.slot.now) c.in-Some.ensures
