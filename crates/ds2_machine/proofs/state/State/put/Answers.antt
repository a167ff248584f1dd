use Rattle.std.proofs.Common.{refl, sym, ◌∙◌}
use Rattle.ds2_machine.proofs.Steps.{not_put, put_line}
use Rattle.ds2_machine.proofs.state.State.put.Goals as goal

pub returns-in_default : goal.returns-in_default
returns-in_default g c = not_put g.S.UnitSink.has_taken c.args.n c.args.self.now c.args.sink.now c.in_default.ensures.taken

pub returns : goal.returns
returns g c =
    put_line g.S.UnitSink.has_taken c.args.n c.args.self.now c.in-Some.operands.now c.as_str.result.now c.drop_last.new.self c.in-Some.ensures.taken (c.as_str.ensures.value ∙ c.in_ok-write_line.ensures) c.drop_last.ensures.stack c.drop_last.ensures.below
    c.args.sink.now c.take_line.new.self _ (λ told. refl) c.in_ok-take_line.ensures
