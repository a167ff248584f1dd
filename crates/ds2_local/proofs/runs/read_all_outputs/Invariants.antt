use Rattle.std.specs.List.{range_with_len}
use Rattle.ds2_locality.specs.Deeds.{columns_written}
use Rattle.ds2_locality.specs.Walk.{read_locations}
use Rattle.ds2_recorded_walk.specs.RecordedStatements.{GoesOnBy}
use Rattle.ds2_local.proofs.runs.read_all_outputs.Given as goal

abbrev pub invariant-outputs : goal.invariant-outputs
invariant-outputs l = GoesOnBy l.scope l.fn.walk l.walk (λ s. read_locations l.place (columns_written s.code (range_with_len 0 l.number)))
