use Rattle.std.proofs.Common.{◌≡◌, length}
use Rattle.ds2_unit.proofs.LoadsInOrder.{IsOnLoads}
use Rattle.ds2_unit.proofs.units.run_loads.Given as goal

abbrev pub invariant-loads : goal.invariant-loads
invariant-loads g l =
    IsOnLoads g.S.UnitSink.has_taken l.code l.budget l.initial.sink l.sink l.executed (g.L.LoadSource.left l.initial.source) (g.L.LoadSource.left l.source) l.initial.machine l.machine
    × (g.L.LoadSource.grouped l.source ≡ g.L.LoadSource.grouped l.initial.source)

abbrev pub decreases-loads : goal.decreases-loads
decreases-loads g l = length (g.L.LoadSource.left l.source)
