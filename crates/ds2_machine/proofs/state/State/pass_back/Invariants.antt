use Rattle.std.proofs.Common.{◌≡◌, drop}
use Rattle.ds2_code.specs.CodeRun.{with_in_outs}
use Rattle.ds2_machine.proofs.state.State.pass_back.Given as goal

abbrev pub invariant-loop-number : goal.invariant-loop-number
invariant-loop-number l = record {
  stack : with_in_outs (drop l.number l.parameters) (drop l.number l.self.locals.own) l.self.operands.stack ≡ with_in_outs l.parameters l.fn.self.locals.own l.fn.self.operands.stack;
  below : l.self.operands.below ≡ l.fn.self.operands.below;
  rest : l.self ≡ record l.fn.self { operands = l.self.operands };
}
