use Rattle.std.proofs.Common.{drop, Ok, Err}
use Rattle.ds2_base.specs.Says.{Says}
use Rattle.ds2_base.specs.declared.stop.Stop.TheVariants.{Refused}
use Rattle.ds2_code.specs.InstructionTable.{kind_of}
use Rattle.ds2_frames.specs.OperationKinds.{operation_result}
use Rattle.ds2_machine.proofs.Steps.{stuck_operation, faulted_operation, operated}
use Rattle.ds2_machine.proofs.state.State.operate_on_last.Goals as goal

pub returns-in_default : goal.returns-in_default
returns-in_default c = λ told. stuck_operation c.args.code.now c.args.n c.args.self.now told (kind_of c.args.instr) c.requires.operands c.in_default.ensures.taken

pub returns-in-Err-Refused : goal.returns-in-Err-Refused
returns-in-Err-Refused c = λ told.
    let said : Says (Err c.in-Err-Refused.field-0) (operation_result (kind_of c.args.instr) c.in-Some.operands.now) = rw c.in-Err-Refused.is at c.computed.ensures in
    let refused : Says (Err (Refused c.in-Err-Refused.fault)) (operation_result (kind_of c.args.instr) c.in-Some.operands.now) = rw c.in-Err-Refused.field-0-is at said in
    faulted_operation c.args.code.now c.args.n c.args.self.now told c.in-Some.operands.now c.in-Some.ensures.taken c.in-Err-Refused.fault (kind_of c.args.instr) c.requires.operands refused

pub returns-in_ok-replace_last-in-Ok : goal.returns-in_ok-replace_last-in-Ok
returns-in_ok-replace_last-in-Ok c = λ told.
    operated c.args.code.now c.args.n c.args.self.now told c.in-Some.operands.now c.in-Some.ensures.taken c.replace_last.new.self c.in-Ok.value (kind_of c.args.instr) c.requires.operands
    (let said : Says (Ok c.in-Ok.value) (operation_result (kind_of c.args.instr) c.in-Some.operands.now) = rw c.in-Ok.is at c.computed.ensures in said) c.in_ok-replace_last-in-Ok.ensures.stack c.in_ok-replace_last-in-Ok.ensures.below

pub computed-requires-clause-scales : goal.computed-requires-clause-scales
computed-requires-clause-scales c = c.requires.scales c.args.n (record { values = c.in-Some.operands.now; below = drop c.args.n c.args.self.now.operands.stack }) c.requires.operands c.in-Some.ensures.taken
