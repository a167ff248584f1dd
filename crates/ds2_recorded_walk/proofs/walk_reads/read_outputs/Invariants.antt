use Rattle.std.proofs.Common.{drop}
use Rattle.ds2_locality.specs.Deeds.{columns_written}
use Rattle.ds2_locality.specs.Walk.{read_locations}
use Rattle.ds2_deeds.specs.CodeTrees.{scope_of}
use Rattle.ds2_recorded_walk.specs.RecordedStatements.{LeavesToGoOn}
use Rattle.ds2_recorded_walk.proofs.walk_reads.read_outputs.Given as goal

abbrev pub invariant-outputs : goal.invariant-outputs
invariant-outputs l =
    LeavesToGoOn l.scope l.fn.walk l.walk (λ w. read_locations l.place (columns_written (scope_of l.scope.body) (drop l.number-index l.outputs)))
    (λ w. read_locations l.place (columns_written (scope_of l.scope.body) l.outputs))
