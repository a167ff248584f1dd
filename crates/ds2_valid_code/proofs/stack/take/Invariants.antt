use Rattle.std.proofs.Common.{◌≡◌, length}
use Rattle.ds2_valid_code.specs.OperandStack.{below_classes}
use Rattle.ds2_valid_code.proofs.stack.take.Given as goal

abbrev pub invariant-classes : goal.invariant-classes
invariant-classes l = below_classes l.rest l.types ≡ below_classes l.classes l.initial.types

abbrev pub decreases-classes : goal.decreases-classes
decreases-classes l = length l.rest
