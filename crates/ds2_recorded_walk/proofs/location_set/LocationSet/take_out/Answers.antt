use Rattle.std.proofs.Common.{false, ap, ◌∙◌}
use Rattle.std.specs.Prelude.{slice_set}
use Rattle.ds2_emitter.proofs.Appended.{on_ok}
use Rattle.ds2_recorded_walk.proofs.SetLemmas.{one_out}
use Rattle.ds2_recorded_walk.proofs.location_set.LocationSet.take_out.Goals as goal

pub returns : goal.returns
returns c =
    on_ok c.mark.result c.mark.ensures.ok
    (λ h. one_out c.self.inside.count c.self.inside.out c.mark.new.self c.args.number h ∙ ap (λ l. slice_set l c.args.number false) c.self.view_is)
