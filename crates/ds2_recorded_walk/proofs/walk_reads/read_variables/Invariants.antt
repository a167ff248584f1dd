use Rattle.std.proofs.Common.{drop}
use Rattle.ds2_locality.specs.Deeds.{variables_at}
use Rattle.ds2_locality.specs.Walk.{read_locations}
use Rattle.ds2_deeds.specs.NamedLocations.{code_home}
use Rattle.ds2_recorded_walk.specs.RecordedStatements.{LeavesToGoOn}
use Rattle.ds2_recorded_walk.proofs.walk_reads.read_variables.Given as goal

abbrev pub invariant-variables : goal.invariant-variables
invariant-variables l =
    LeavesToGoOn l.scope l.fn.walk l.walk (λ w. read_locations l.place (variables_at (code_home l.scope.body.home) (drop l.variable-index l.variables)))
    (λ w. read_locations l.place (variables_at (code_home l.scope.body.home) l.variables))
