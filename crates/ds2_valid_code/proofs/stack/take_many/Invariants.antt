use Rattle.std.proofs.Common.{◌≡◌}
use Rattle.ds2_valid_code.specs.OperandStack.{below_classes}
use Rattle.std.specs.Prelude.{replicate}
use Rattle.ds2_valid_code.proofs.stack.take_many.Given as goal

abbrev pub invariant-operands : goal.invariant-operands
invariant-operands l = below_classes (replicate l.left l.class) l.types ≡ below_classes (replicate l.n l.class) l.initial.types

abbrev pub decreases-operands : goal.decreases-operands
decreases-operands l = l.left
