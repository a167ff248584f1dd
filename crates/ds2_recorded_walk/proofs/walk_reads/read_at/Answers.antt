use Rattle.std.proofs.Common.{sym, ◌∙◌}
use Rattle.ds2_emitter.proofs.Appended.{on_ok}
use Rattle.ds2_deeds.specs.NamedLocations.{location_named}
use Rattle.ds2_recorded_walk.proofs.GoesLemmas.{goes_read, goes_unread}
use Rattle.ds2_recorded_walk.proofs.walk_reads.read_at.Goals as goal

pub returns-in-None : goal.returns-in-None
returns-in-None c = goes_unread c.args.scope.now c.args.place (location_named c.args.at) c.args.walk.now (sym c.number_of.ensures ∙ c.in-None.is)

pub returns-in-Some : goal.returns-in-Some
returns-in-Some c =
    on_ok c.read.result c.read.ensures
    (λ e. goes_read c.args.scope.now c.args.place (location_named c.args.at) c.in-Some.number c.args.walk.now _ (sym c.number_of.ensures ∙ c.in-Some.is) e)
