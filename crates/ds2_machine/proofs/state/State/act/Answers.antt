use Rattle.std.proofs.Common.{ap}
use Rattle.ds2_code.specs.CodeRun.{perform}
use Rattle.ds2_code.specs.InstructionTable.{Writes, Puts, kind_of}
use Rattle.ds2_machine.specs.MachineView.{machine_of_state}
use Rattle.ds2_machine.proofs.Runs.{quiet_all}
use Rattle.ds2_machine.proofs.Steps.{sunk_of_kind}
use Rattle.ds2_machine.proofs.state.State.act.Goals as goal

pub returns-in-Output : goal.returns-in-Output
returns-in-Output g c = sunk_of_kind g.S.UnitSink.has_taken c.args.sink.now c.write.new.sink c.args.code.now (kind_of c.args.instr) (Writes c.in-Output.number) c.args.self.now c.write.new.self c.write.result (ap kind_of c.in-Output.is) c.write.ensures

pub returns-in-Put : goal.returns-in-Put
returns-in-Put g c = sunk_of_kind g.S.UnitSink.has_taken c.args.sink.now c.put.new.sink c.args.code.now (kind_of c.args.instr) (Puts c.in-Put.n) c.args.self.now c.put.new.self c.put.result (ap kind_of c.in-Put.is) c.put.ensures

pub returns-in_default : goal.returns-in_default
returns-in_default g c = quiet_all g.S.UnitSink.has_taken c.args.sink.now (λ told. perform c.args.code.now (kind_of c.args.instr) (machine_of_state c.args.self.now told)) c.act_quietly.new.self c.act_quietly.result c.act_quietly.ensures
