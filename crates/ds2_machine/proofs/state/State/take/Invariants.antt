use Rattle.std.proofs.Common.{◌≡◌, []}
use Rattle.ds2_code.specs.Desk.{take_off}
use Rattle.ds2_machine.proofs.state.State.take.Given as goal

abbrev pub invariant-loop-left : goal.invariant-loop-left
invariant-loop-left l = record {
  taken : take_off l.left l.self.arguments l.self.operands.stack ≡ take_off l.fn.number [] l.fn.self.operands.stack;
  below : l.self.operands.below ≡ l.fn.self.operands.below;
  rest : l.self ≡ record l.fn.self { operands = l.self.operands; arguments = l.self.arguments };
}

abbrev pub decreases-loop-left : goal.decreases-loop-left
decreases-loop-left l = l.left
