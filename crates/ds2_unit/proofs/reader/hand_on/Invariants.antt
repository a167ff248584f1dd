use Rattle.std.proofs.Common.{[], take}
use Rattle.ds2_machine.specs.Sink.{SinkTakes}
use Rattle.ds2_unit.proofs.reader.hand_on.Given as goal

abbrev pub invariant-lines : goal.invariant-lines
invariant-lines g l = SinkTakes g.S.UnitSink.has_taken l.initial.sink l.sink [] (take l.line-index l.lines)
