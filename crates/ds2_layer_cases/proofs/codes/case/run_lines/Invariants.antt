use Rattle.std.proofs.Common.{◌≡◌, false}
use Rattle.ds2_code.specs.Scales.{IsDataScaled}
use Rattle.ds2_machine.specs.AtRest.{staged_program}
use Rattle.ds2_layer_cases.proofs.codes.case.run_lines.Given as goal

abbrev pub invariant-loop-line : goal.invariant-loop-line
invariant-loop-line l = l.machine.spent ≡ false → IsDataScaled (staged_program l.code l.machine.program) l.machine.state
