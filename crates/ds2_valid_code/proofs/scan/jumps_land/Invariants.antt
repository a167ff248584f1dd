use Rattle.std.proofs.Common.{◌≡◌, drop}
use Rattle.ds2_valid_code.specs.CodeScan.{jumps_land}
use Rattle.ds2_valid_code.proofs.scan.jumps_land.Given as goal

abbrev pub invariant-jumps : goal.invariant-jumps
invariant-jumps l = (l.at ≡ l.instr-index) × (jumps_land l.marks (drop l.instr-index l.instrs) l.at ≡ jumps_land l.marks l.instrs 0)
