use Rattle.std.proofs.Common.{◌≡◌, ◌-◌, ◌<◌, length, get_or, ◌∙◌, arith}
use Rattle.std.proofs.lemmas.List.{get_or_default}
use Rattle.ds2_value.specs.Cell.{lent_value}
use Rattle.ds2_loads.proofs.SettingLists.{columns_next}
use Rattle.ds2_loads.proofs.columns.set_columns.Goals as goal

pub columns-preserved : goal.columns-preserved
columns-preserved c =
    let i = c.columns.column - 1 in
    let in_numbers : i < length c.args.numbers.now = omega (arith, c.columns-test.true, c.columns.invariant.1) in
    let in_row : i < length c.args.row.now = omega (arith, c.columns-test.true, c.columns.invariant.1) in
    let v = lent_value c.as_cell-cell.result in
    let own : v ≡ get_or c.args.row.now i v =
    c.as_cell-cell.ensures ∙ c.index-row-column.is ∙ get_or_default c.args.row.now i c.index-row-column.result v in_row in (
      columns_next c.args.parts.now c.args.numbers.now c.args.row.now c.columns.slots c.set_column.new.slots c.args.slots.now c.columns.column i v (omega (arith, c.columns-test.true)) in_numbers in_row
          own c.columns.invariant.0 c.in_ok-set_column.ensures,
      omega (arith, c.columns.invariant.1),
    )
