use Rattle.std.proofs.Common.{◌∙◌}
use Rattle.ds2_declared_types.proofs.UnitReadings.{clash_is}
use Rattle.ds2_declared_types.proofs.columns.clash_over.Goals as goal

pub returns : goal.returns
returns c = λ before u h. c.clash_read.ensures ∙ clash_is before u c.args.from h c.args.declared c.args.name.now
