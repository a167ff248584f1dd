use Rattle.std.proofs.Common.{drop}
use Rattle.ds2_locality.specs.Deeds.{iterators_over}
use Rattle.ds2_locality.specs.Walk.{GoesOn, all_cleaned}
use Rattle.ds2_deeds.specs.NamedLocations.{code_home}
use Rattle.ds2_recorded_walk.specs.RecordedStatements.{LeavesToGoOn}
use Rattle.ds2_recorded_walk.proofs.walk_reads.clean_iterators.Given as goal

abbrev pub invariant-iterators : goal.invariant-iterators
invariant-iterators l =
    LeavesToGoOn l.scope l.fn.walk l.walk (λ w d. GoesOn (all_cleaned (iterators_over (code_home l.scope.body.home) (drop l.iterator-index l.scope.body.iterators.now) l.hash) d))
    (λ w d. GoesOn (all_cleaned (iterators_over (code_home l.scope.body.home) l.scope.body.iterators.now l.hash) d))
