use Rattle.std.proofs.Common.{ℕ, List, ◌++◌, ap, ◌∙◌}
use Rattle.csv.specs.Writing.{default_writer, row_text}
use Rattle.ds2_value.specs.Row.{Columns}
use Rattle.ds2_code.specs.CodeRun.{column_slots}
use Rattle.ds2_code.specs.Desk.{values_of_slots}
use Rattle.ds2_csv.specs.Text.{cells_text}
use Rattle.ds2_program_text.proofs.SlotCells.{values_named}
use Rattle.ds2_program_text.proofs.WrittenRows.{row_written}
use Rattle.ds2_program_text.proofs.table_sink.WrittenTableRowSink.take_values.Goals as goal

pub returns : goal.returns
returns c = λ from so_far taken.
    let before = c.args.self.now in
    let slots = c.args.slots.now in
    let longer =
    c.in_ok-add_row.ensures
    ∙ ap (λ (columns : Columns). before.text ++ row_text default_writer (cells_text columns (values_named c.as_slice.result.now slots))) c.as_slice-columns.ensures
    ∙ ap (λ (named : List (List ℕ × ℕ)). before.text ++ row_text default_writer (cells_text before.columns (values_named named slots))) c.as_slice.ensures in
    row_written from before c.add_row.new.out c.in_ok-rows.rows so_far (values_of_slots (column_slots c.args.output.now) slots) longer c.in_ok-rows.ensures taken
