use Rattle.std.proofs.Common.{ap, subst, Ok}
use Rattle.ds2_base.specs.declared.stop.OutOfMemory.{OutOfMemory}
use Rattle.ds2_code.specs.declared.instr.Instr.{Instr}
use Rattle.ds2_code.specs.declared.instr.Instr.TheVariants as instr
use Rattle.ds2_code.specs.InstructionTable.{kind_of}
use Rattle.ds2_machine.specs.Executable.{HasScalesFor}
use Rattle.ds2_machine.proofs.Steps.{quiet_of_kind}
use Rattle.ds2_machine.proofs.state.State.operate.Goals as goal

pub returns-in-IAdd : goal.returns-in-IAdd
returns-in-IAdd c = quiet_of_kind {E = OutOfMemory} c.args.code.now (kind_of c.args.instr) (kind_of instr.IAdd) c.args.self.now c.operate_on_pair.new.self (Ok c.operate_on_pair.result) (ap kind_of c.in-IAdd.is) c.operate_on_pair.ensures

pub returns-in-ISub : goal.returns-in-ISub
returns-in-ISub c = quiet_of_kind {E = OutOfMemory} c.args.code.now (kind_of c.args.instr) (kind_of instr.ISub) c.args.self.now c.operate_on_pair-in-ISub.new.self (Ok c.operate_on_pair-in-ISub.result) (ap kind_of c.in-ISub.is) c.operate_on_pair-in-ISub.ensures

pub returns-in-IMul : goal.returns-in-IMul
returns-in-IMul c = quiet_of_kind {E = OutOfMemory} c.args.code.now (kind_of c.args.instr) (kind_of instr.IMul) c.args.self.now c.operate_on_pair-in-IMul.new.self (Ok c.operate_on_pair-in-IMul.result) (ap kind_of c.in-IMul.is) c.operate_on_pair-in-IMul.ensures

pub returns-in-ICmp : goal.returns-in-ICmp
returns-in-ICmp c = quiet_of_kind {E = OutOfMemory} c.args.code.now (kind_of c.args.instr) (kind_of (instr.ICmp c.in-ICmp.comparison)) c.args.self.now c.operate_on_pair-in-ICmp.new.self (Ok c.operate_on_pair-in-ICmp.result) (ap kind_of c.in-ICmp.is) c.operate_on_pair-in-ICmp.ensures

pub returns-in-DAdd : goal.returns-in-DAdd
returns-in-DAdd c = quiet_of_kind {E = OutOfMemory} c.args.code.now (kind_of c.args.instr) (kind_of instr.DAdd) c.args.self.now c.operate_on_pair-in-DAdd.new.self (Ok c.operate_on_pair-in-DAdd.result) (ap kind_of c.in-DAdd.is) c.operate_on_pair-in-DAdd.ensures

pub returns-in-DSub : goal.returns-in-DSub
returns-in-DSub c = quiet_of_kind {E = OutOfMemory} c.args.code.now (kind_of c.args.instr) (kind_of instr.DSub) c.args.self.now c.operate_on_pair-in-DSub.new.self (Ok c.operate_on_pair-in-DSub.result) (ap kind_of c.in-DSub.is) c.operate_on_pair-in-DSub.ensures

pub returns-in-DCmp : goal.returns-in-DCmp
returns-in-DCmp c = quiet_of_kind {E = OutOfMemory} c.args.code.now (kind_of c.args.instr) (kind_of (instr.DCmp c.in-DCmp.comparison)) c.args.self.now c.operate_on_pair-in-DCmp.new.self (Ok c.operate_on_pair-in-DCmp.result) (ap kind_of c.in-DCmp.is) c.operate_on_pair-in-DCmp.ensures

pub returns-in-DMul : goal.returns-in-DMul
returns-in-DMul c = quiet_of_kind {E = OutOfMemory} c.args.code.now (kind_of c.args.instr) (kind_of instr.DMul) c.args.self.now c.operate_on_pair-in-DMul.new.self (Ok c.operate_on_pair-in-DMul.result) (ap kind_of c.in-DMul.is) c.operate_on_pair-in-DMul.ensures

pub returns-in-DDiv : goal.returns-in-DDiv
returns-in-DDiv c = quiet_of_kind {E = OutOfMemory} c.args.code.now (kind_of c.args.instr) (kind_of instr.DDiv) c.args.self.now c.operate_on_pair-in-DDiv.new.self (Ok c.operate_on_pair-in-DDiv.result) (ap kind_of c.in-DDiv.is) c.operate_on_pair-in-DDiv.ensures

pub returns-in-IToD : goal.returns-in-IToD
returns-in-IToD c = quiet_of_kind {E = OutOfMemory} c.args.code.now (kind_of c.args.instr) (kind_of instr.IToD) c.args.self.now c.operate_on_last.new.self c.operate_on_last.result (ap kind_of c.in-IToD.is) c.operate_on_last.ensures

pub returns-in-Rescale : goal.returns-in-Rescale
returns-in-Rescale c = quiet_of_kind {E = OutOfMemory} c.args.code.now (kind_of c.args.instr) (kind_of (instr.Rescale c.in-Rescale.p c.in-Rescale.s)) c.args.self.now c.operate_on_last-in-Rescale.new.self c.operate_on_last-in-Rescale.result (ap kind_of c.in-Rescale.is) c.operate_on_last-in-Rescale.ensures

pub operate_on_pair-requires-in-DMul-clause-scales : goal.operate_on_pair-requires-in-DMul-clause-scales
operate_on_pair-requires-in-DMul-clause-scales c =
    let P : Instr → Type 0 = λ i. HasScalesFor i c.args.self.now.operands.stack in
    subst P c.in-DMul.is c.requires.scales
