use Rattle.std.proofs.Common.{◌≡◌, ◌+◌, ◌≤◌}
use Rattle.ds2_code.specs.CodeBound.{work_left}
use Rattle.ds2_machine.specs.MachineView.{machine_of_state, nothing_told, IsUnderWay, IsStateScaled}
use Rattle.ds2_machine.proofs.state.State.run.Given as goal

abbrev pub invariant-steps : goal.invariant-steps
invariant-steps g l = record {
  ran : IsUnderWay g.S.UnitSink.has_taken l.fn.sink l.sink l.code (machine_of_state l.fn.self nothing_told) l.executed l.self;
  bound : l.executed + work_left l.code.instrs (machine_of_state l.self nothing_told) ≤ work_left l.code.instrs (machine_of_state l.fn.self nothing_told);
  same_code : l.code ≡ l.fn.code;
  scaled : IsStateScaled l.code l.self;
}

abbrev pub decreases-steps : goal.decreases-steps
decreases-steps g l = work_left l.code.instrs (machine_of_state l.self nothing_told)
