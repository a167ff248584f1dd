use Rattle.std.proofs.Common.{map, drop, Some}
use Rattle.ds2_meaning.specs.declared.globals.OutputColumn.{OutputColumn}
use Rattle.ds2_locality.specs.Deeds.{columns_at}
use Rattle.ds2_locality.specs.Walk.{read_locations}
use Rattle.ds2_deeds.specs.NamedLocations.{code_home}
use Rattle.ds2_recorded_walk.specs.RecordedStatements.{LeavesToGoOn}
use Rattle.ds2_recorded_walk.proofs.walk_reads.read_columns.Given as goal

abbrev pub invariant-columns : goal.invariant-columns
invariant-columns l =
    LeavesToGoOn l.scope l.fn.walk l.walk (λ w. read_locations l.place (columns_at (code_home l.scope.body.home) (Some (map (λ (c : OutputColumn). c.source) (drop l.column-index l.columns)))))
    (λ w. read_locations l.place (columns_at (code_home l.scope.body.home) (Some (map (λ (c : OutputColumn). c.source) l.columns))))
