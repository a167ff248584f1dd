use Rattle.std.proofs.Common.{◌-◌, length}
use Rattle.ds2_reading.proofs.Runs.{IsSettledTo}
use Rattle.ds2_reading.proofs.settling.settle.Given as goal

abbrev pub invariant-runs : goal.invariant-runs
invariant-runs l = IsSettledTo l.inputs l.fn.numbers l.from l.numbers

abbrev pub decreases-runs : goal.decreases-runs
decreases-runs l = length l.numbers - l.from
