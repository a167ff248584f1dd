use Rattle.ds2_deeds.specs.NumberedDeeds.{with_deeds}
use Rattle.ds2_deeds.proofs.deed.add_write.Goals as goal

pub returns : goal.returns
unfolding with_deeds
returns c numbers = c.push.ensures.ok
