use Rattle.std.proofs.Common.{◌≡◌, [], false, drop}
use Rattle.ds2_valid_code.specs.CodeScan.{scan_code, standing, entry_table}
use Rattle.std.specs.Prelude.{slice_get}
use Rattle.ds2_code.specs.ValidCode.{stage_parameters}
use Rattle.ds2_valid_code.specs.declared.owner.CodeOwner.TheVariants.{Unit as UnitCode}
use Rattle.ds2_valid_code.proofs.ScanLemmas.{marks_joined}
use Rattle.ds2_valid_code.proofs.scan.scan.Given as goal

abbrev pub invariant-scan : goal.invariant-scan
invariant-scan l = (l.at ≡ l.instr-index) × (marks_joined l.marks.items (scan_code l.code (stage_parameters (slice_get l.stages 0)) (entry_table l.code) l.at l.came (standing l.owner l.types) (drop l.instr-index l.instrs)) ≡ scan_code l.code (stage_parameters (slice_get l.stages 0)) (entry_table l.code) 0 false (standing UnitCode []) l.instrs)
