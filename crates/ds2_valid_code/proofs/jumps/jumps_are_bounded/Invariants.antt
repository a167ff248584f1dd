use Rattle.std.proofs.Common.{◌≡◌, drop}
use Rattle.ds2_valid_code.specs.BoundedJumps.{jumps_bounded}
use Rattle.ds2_valid_code.proofs.jumps.jumps_are_bounded.Given as goal

abbrev pub invariant-jumps : goal.invariant-jumps
invariant-jumps l = (l.at ≡ l.instr-index) × (jumps_bounded l.instrs (drop l.instr-index l.instrs) l.at ≡ jumps_bounded l.instrs l.instrs 0)
