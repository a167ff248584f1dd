use Rattle.std.proofs.Common.{ap, ◌∙◌}
use Rattle.ds2_recorded_walk.specs.declared.number_marks.NumberMarks.{NumberMarks}
use Rattle.ds2_recorded_walk.specs.LocationBits.{both_on}
use Rattle.ds2_recorded_walk.specs.MarkedSets.{all_but_marked}
use Rattle.ds2_recorded_walk.proofs.SetLemmas.{with_others_out}
use Rattle.ds2_recorded_walk.proofs.location_set.LocationSet.common.Goals as goal

pub returns : goal.returns
returns c =
    let count = c.self.inside.count in
    let others = all_but_marked c.other.inside.count c.other.inside.out in
    c.all_but.ensures
    ∙ with_others_out count c.in_ok-out.out c.other.inside.count c.other.inside.out c.mark_range.new.self c.mark_all.new.self c.in_ok-mark_range.ensures c.in_ok-mark_all.ensures
    ∙ ap (λ (m : NumberMarks). both_on (all_but_marked count m) others) c.in_ok-out.ensures ∙ ap (λ l. both_on l others) c.self.view_is ∙ ap (both_on c.args.self.now) c.other.view_is
