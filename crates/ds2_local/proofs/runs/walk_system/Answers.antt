use Rattle.std.proofs.Common.{sym, subst}
use Rattle.ds2_locality.specs.Walk.{walk_all}
use Rattle.ds2_meaning.specs.View.{system_tree}
use Rattle.ds2_recorded_walk.specs.RecordedStatements.{GoesPastBy}
use Rattle.ds2_local.proofs.BodyLemmas.{none_passed}
use Rattle.ds2_local.proofs.runs.walk_system.Goals as goal

pub returns-in-None : goal.returns-in-None
returns-in-None c =
    subst (λ m. GoesPastBy c.args.scope.now c.args.walk.now c.args.walk.now (λ s. walk_all s (system_tree m).statements)) (sym c.in-None.is) (none_passed c.args.scope.now c.args.walk.now)
