use Rattle.std.proofs.Common.{ap, ◌∙◌}
use Rattle.ds2_recorded_walk.specs.LocationBits.{is_on}
use Rattle.ds2_recorded_walk.proofs.SetLemmas.{off_behind}
use Rattle.ds2_recorded_walk.proofs.number_marks.reach.Goals as goal

pub places-preserved : goal.places-preserved
places-preserved c = λ n. ap (λ l. is_on l n) c.in_ok-push.ensures.ok ∙ off_behind c.places.marks n ∙ c.places.invariant n
