use Rattle.std.proofs.Common.{ap, refl, Ok, Some, true, false}
use Rattle.ds2_base.specs.declared.stop.OutOfMemory.{OutOfMemory}
use Rattle.ds2_value.specs.declared.fault.Fault.TheVariants as fault
use Rattle.ds2_code.specs.Desk.{OfConstant, OfSlot, OfLocal, IntoSlot, IntoLocal, IntoParameter}
use Rattle.ds2_code.specs.InstructionTable.{Loads, Stores, Drops, Ticks, Jumps, Tests, Enters, GoesBack, CallsHash, CallsIterator, Raises, Finishes, kind_of}
use Rattle.ds2_machine.specs.declared.state.Halt.TheVariants as halt
use Rattle.ds2_machine.proofs.Steps.{quiet_of_kind}
use Rattle.ds2_machine.proofs.state.State.act_quietly.Goals as goal

pub returns-in-Const : goal.returns-in-Const
returns-in-Const c = quiet_of_kind {E = OutOfMemory} c.args.code.now (kind_of c.args.instr) (Loads (OfConstant c.in-Const.k)) c.args.self.now c.load_constant.new.self c.load_constant.result (ap kind_of c.in-Const.is) c.load_constant.ensures

pub returns-in-GLoad : goal.returns-in-GLoad
returns-in-GLoad c = quiet_of_kind {E = OutOfMemory} c.args.code.now (kind_of c.args.instr) (Loads (OfSlot c.in-GLoad.n)) c.args.self.now c.load_slot.new.self c.load_slot.result (ap kind_of c.in-GLoad.is) c.load_slot.ensures

pub returns-in-LLoad : goal.returns-in-LLoad
returns-in-LLoad c = quiet_of_kind {E = OutOfMemory} c.args.code.now (kind_of c.args.instr) (Loads (OfLocal c.in-LLoad.n)) c.args.self.now c.load_local.new.self c.load_local.result (ap kind_of c.in-LLoad.is) c.load_local.ensures

pub returns-in-GStore : goal.returns-in-GStore
returns-in-GStore c = quiet_of_kind {E = OutOfMemory} c.args.code.now (kind_of c.args.instr) (Stores (IntoSlot c.in-GStore.n)) c.args.self.now c.store_slot.new.self (Ok c.store_slot.result) (ap kind_of c.in-GStore.is) c.store_slot.ensures

pub returns-in-LStore : goal.returns-in-LStore
returns-in-LStore c = quiet_of_kind {E = OutOfMemory} c.args.code.now (kind_of c.args.instr) (Stores (IntoLocal c.in-LStore.n)) c.args.self.now c.store_local.new.self (Ok c.store_local.result) (ap kind_of c.in-LStore.is) c.store_local.ensures

pub returns-in-SetParm : goal.returns-in-SetParm
returns-in-SetParm c = quiet_of_kind {E = OutOfMemory} c.args.code.now (kind_of c.args.instr) (Stores (IntoParameter c.in-SetParm.j)) c.args.self.now c.store_parameter.new.self (Ok c.store_parameter.result) (ap kind_of c.in-SetParm.is) c.store_parameter.ensures

pub returns-in-DropTop : goal.returns-in-DropTop
returns-in-DropTop c = quiet_of_kind {E = OutOfMemory} c.args.code.now (kind_of c.args.instr) (Drops) c.args.self.now c.discard.new.self (Ok c.discard.result) (ap kind_of c.in-DropTop.is) c.discard.ensures

pub returns-in-Tick : goal.returns-in-Tick
returns-in-Tick c = quiet_of_kind {E = OutOfMemory} c.args.code.now (kind_of c.args.instr) (Ticks c.in-Tick.place) c.args.self.now c.tick.new.self (Ok c.tick.result) (ap kind_of c.in-Tick.is) c.tick.ensures

pub returns-in-Jump : goal.returns-in-Jump
returns-in-Jump c = quiet_of_kind {E = OutOfMemory} c.args.code.now (kind_of c.args.instr) (Jumps c.in-Jump.to) c.args.self.now c.jump.new.self (Ok c.jump.result) (ap kind_of c.in-Jump.is) c.jump.ensures

pub returns-in-JFalse : goal.returns-in-JFalse
returns-in-JFalse c = quiet_of_kind {E = OutOfMemory} c.args.code.now (kind_of c.args.instr) (Tests false c.in-JFalse.to) c.args.self.now c.test.new.self (Ok c.test.result) (ap kind_of c.in-JFalse.is) c.test.ensures

pub returns-in-JTrue : goal.returns-in-JTrue
returns-in-JTrue c = quiet_of_kind {E = OutOfMemory} c.args.code.now (kind_of c.args.instr) (Tests true c.in-JTrue.to) c.args.self.now c.test-in-JTrue.new.self (Ok c.test-in-JTrue.result) (ap kind_of c.in-JTrue.is) c.test-in-JTrue.ensures

pub returns-in-Call : goal.returns-in-Call
returns-in-Call c = quiet_of_kind {E = OutOfMemory} c.args.code.now (kind_of c.args.instr) (Enters c.in-Call.number) c.args.self.now c.call.new.self c.call.result (ap kind_of c.in-Call.is) c.call.ensures

pub returns-in-Ret : goal.returns-in-Ret
returns-in-Ret c = quiet_of_kind {E = OutOfMemory} c.args.code.now (kind_of c.args.instr) (GoesBack false) c.args.self.now c.go_back.new.self c.go_back.result (ap kind_of c.in-Ret.is) c.go_back.ensures

pub returns-in-RetV : goal.returns-in-RetV
returns-in-RetV c = quiet_of_kind {E = OutOfMemory} c.args.code.now (kind_of c.args.instr) (GoesBack true) c.args.self.now c.go_back-in-RetV.new.self c.go_back-in-RetV.result (ap kind_of c.in-RetV.is) c.go_back-in-RetV.ensures

pub returns-in-HCall : goal.returns-in-HCall
returns-in-HCall c = quiet_of_kind {E = OutOfMemory} c.args.code.now (kind_of c.args.instr) (CallsHash c.in-HCall.function c.in-HCall.number) c.args.self.now c.call_hash.new.self c.call_hash.result (ap kind_of c.in-HCall.is) c.call_hash.ensures

pub returns-in-ICall : goal.returns-in-ICall
returns-in-ICall c = quiet_of_kind {E = OutOfMemory} c.args.code.now (kind_of c.args.instr) (CallsIterator c.in-ICall.function c.in-ICall.number) c.args.self.now c.call_iterator.new.self c.call_iterator.result (ap kind_of c.in-ICall.is) c.call_iterator.ensures

pub returns-in-NoWhen : goal.returns-in-NoWhen
returns-in-NoWhen c = quiet_of_kind {E = OutOfMemory} c.args.code.now (kind_of c.args.instr) (Raises fault.NoWhen) c.args.self.now c.args.self.now (Ok (Some (halt.Faulted fault.NoWhen))) (ap kind_of c.in-NoWhen.is) (λ told. refl)

pub returns-in-End : goal.returns-in-End
returns-in-End c = quiet_of_kind {E = OutOfMemory} c.args.code.now (kind_of c.args.instr) Finishes c.args.self.now c.args.self.now (Ok (Some halt.Normal)) (ap kind_of c.in-End.is) (λ told. refl)
