use Rattle.std.proofs.Common.{◌∙◌, sym, drop}
use Rattle.ds2_code.specs.InstructionTable.{kind_of}
use Rattle.ds2_frames.specs.OperationKinds.{operation_result}
use Rattle.ds2_machine.proofs.Steps.{stuck_operation, faulted_operation, operated}
use Rattle.ds2_machine.proofs.CallLemmas.{two_there}
use Rattle.ds2_machine.proofs.state.State.operate_on_pair.Goals as goal

pub returns-in_default : goal.returns-in_default
returns-in_default c = λ told. stuck_operation c.args.code.now 2 c.args.self.now told (kind_of c.args.instr) c.requires.operands c.in_default.ensures.taken

pub returns-in-Err : goal.returns-in-Err
returns-in-Err c = λ told.
    faulted_operation c.args.code.now 2 c.args.self.now told c.in-Some.operands.now c.in-Some.ensures.taken c.in-Err.fault (kind_of c.args.instr) c.requires.operands
    (sym c.computed_from_pair.ensures ∙ c.in-Err.is)

pub returns-in-Ok : goal.returns-in-Ok
returns-in-Ok c = λ told.
    operated c.args.code.now 2 c.args.self.now told c.in-Some.operands.now c.in-Some.ensures.taken c.replace_two.new.self c.in-Ok.value (kind_of c.args.instr) c.requires.operands
    (sym c.computed_from_pair.ensures ∙ c.in-Ok.is) c.replace_two.ensures.stack c.replace_two.ensures.below

pub computed_from_pair-requires-clause-scales : goal.computed_from_pair-requires-clause-scales
computed_from_pair-requires-clause-scales c = c.requires.scales 2 (record { values = c.in-Some.operands.now; below = drop 2 c.args.self.now.operands.stack }) c.requires.operands c.in-Some.ensures.taken

pub replace_two-requires : goal.replace_two-requires
replace_two-requires c = two_there _ _ c.in-Some.ensures.taken
