use Rattle.std.proofs.Common.{◌≡◌, ◌+◌, ◌<◌, ◌++◌, length, Some, refl, sym, ap, ◌∙◌, arith}
use Rattle.std.specs.Prelude.{slice_get}
use Rattle.std.proofs.lemmas.List.{append-nil}
use Rattle.std.proofs.lemmas.Option.{slice_get_read}
use Rattle.ds2_value.specs.Run.{Written}
use Rattle.ds2_code.specs.CodeRun.{column_slots}
use Rattle.ds2_code.specs.Desk.{values_of_slots}
use Rattle.ds2_unit.proofs.OutputLists.{none_there, taken_there}
use Rattle.ds2_unit.proofs.output_sinks.OutputSinksUnitSink.take_row.Goals as goal

pub returns-then-number-len : goal.returns-then-number-len
returns-then-number-len g c = λ from so_far said taken.
    let written : Written = record { output = c.args.number; row = values_of_slots (column_slots c.args.output.now) c.args.slots.now } in (
      none_there g.R.RowSink.has_rows so_far written 0 from.outputs.items c.args.self.now.outputs.items (omega (arith, c.if-number-len.true, c.len.ensures)) taken.0,
      taken.1 ∙ ap (λ lines. from.lines ++ lines) (sym (append-nil said)),
    )

pub returns : goal.returns
returns g c = λ from so_far said taken.
    let written : Written = record { output = c.args.number; row = values_of_slots (column_slots c.args.output.now) c.args.slots.now } in
    let items = c.args.self.now.outputs.items in
    let before = c.index_mut.result.now in
    let within : c.args.number < length items = omega (arith, c.if-number-len.false, c.len.ensures) in
    let there : slice_get items c.args.number ≡ Some before = slice_get_read items (length items) c.args.number before refl within c.index_mut.ensures.value in
    let same : 0 + c.args.number ≡ c.args.number = omega arith in (
      taken_there g.R.RowSink.has_rows so_far written c.args.number 0 from.outputs.items items before c.take_values.new.self same there c.in_ok-take_values.ensures taken.0,
      taken.1 ∙ ap (λ lines. from.lines ++ lines) (sym (append-nil said)),
    )
