use Rattle.std.proofs.Common.{ℕ, List, map, ap, ◌∙◌}
use Rattle.ds2_code.specs.CodeRun.{column_slots}
use Rattle.ds2_code.specs.Desk.{values_of_slots}
use Rattle.ds2_unit.proofs.OutputTables.{row_kept}
use Rattle.ds2_unit.proofs.table_sink.TableRowSink.take_values.Goals as goal

pub returns : goal.returns
returns c = λ from so_far taken.
    let slots = c.args.slots.now in
    row_kept from c.args.self.now c.push_fitting.new.table so_far c.in_ok-row.row (values_of_slots (column_slots c.args.output.now) slots) c.in_ok-push_fitting.ensures
    (c.in_ok-row.ensures ∙ ap (λ (columns : List (List ℕ × ℕ)). values_of_slots (map (λ (column : List ℕ × ℕ). column.1) columns) slots) c.as_slice.ensures) taken
