use Rattle.std.proofs.Common.{sym, ap, ◌∙◌, subst, List, [], ◌∷◌}
use Rattle.std.specs.Option.{option_copied}
use Rattle.ds2_value.specs.declared.value.Value.{Value}
use Rattle.ds2_code.specs.CodeRun.{column_slots}
use Rattle.ds2_code.specs.Desk.{values_of_slots}
use Rattle.ds2_machine.specs.Sink.{SinkTakes}
use Rattle.ds2_machine.proofs.Steps.{not_written, written}
use Rattle.ds2_machine.proofs.state.State.write.Goals as goal

pub returns-in_default : goal.returns-in_default
returns-in_default g c = not_written g.S.UnitSink.has_taken c.args.code.now c.args.number c.args.self.now c.args.sink.now (sym c.get.ensures ∙ ap option_copied c.in_default.is)

pub returns : goal.returns
returns g c =
    let P : List Value → Type 0 = λ slots. SinkTakes g.S.UnitSink.has_taken c.args.sink.now c.take_row.new.self (record { output = c.args.number; row = values_of_slots (column_slots c.in-Some.output.now) slots } ∷ []) [] in
    written g.S.UnitSink.has_taken c.args.code.now c.args.number c.args.self.now c.args.sink.now c.take_row.new.self c.in-Some.output.now (sym c.in-Some.ensures) (subst P c.as_slice.ensures c.in_ok-take_row.ensures)
