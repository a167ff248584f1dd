use Rattle.std.proofs.Common.{sym, ◌∙◌}
use Rattle.ds2_emitter.proofs.Appended.{on_ok}
use Rattle.ds2_deeds.specs.NamedLocations.{location_named}
use Rattle.ds2_recorded_walk.proofs.GoesLemmas.{goes_clean, goes_unclean}
use Rattle.ds2_recorded_walk.proofs.walk_reads.clean_at.Goals as goal

pub returns-in-None : goal.returns-in-None
returns-in-None c = goes_unclean c.args.scope.now (location_named c.args.at) c.args.walk.now (sym c.number_of.ensures ∙ c.in-None.is)

pub returns-in-Some : goal.returns-in-Some
returns-in-Some c =
    on_ok c.clean.result c.clean.ensures
    (λ e. goes_clean c.args.scope.now (location_named c.args.at) c.in-Some.number c.args.walk.now _ (sym c.number_of.ensures ∙ c.in-Some.is) e)
