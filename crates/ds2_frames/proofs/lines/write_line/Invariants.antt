use Rattle.std.proofs.Common.{◌≡◌, ◌∷◌, length}
use Rattle.std.specs.Prelude.{map, string_bytes}
use Rattle.std.specs.List.{join_with_byte}
use Rattle.ds2_code.specs.CodeRun.{operand_text}
use Rattle.ds2_frames.proofs.lines.write_line.Given as goal

abbrev pub invariant-operands : goal.invariant-operands
invariant-operands l = join_with_byte 32 (string_bytes l.line ∷ map operand_text l.left) ≡ join_with_byte 32 (map operand_text l.fn.operands)

abbrev pub decreases-operands : goal.decreases-operands
decreases-operands l = length l.left
