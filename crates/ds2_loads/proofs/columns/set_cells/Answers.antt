use Rattle.std.proofs.Common.{◌≡◌, ◌-◌, ◌<◌, [], length, get_or, ap, ◌∙◌, arith}
use Rattle.std.specs.Prelude.{slice_set}
use Rattle.std.proofs.lemmas.Option.{slice_get-get_or}
use Rattle.ds2_value.specs.Value.{or_null}
use Rattle.ds2_value.specs.declared.value.Value.{Value}
use Rattle.ds2_table.specs.Table.{table_value}
use Rattle.ds2_loads.proofs.SettingLists.{columns_next}
use Rattle.ds2_loads.proofs.columns.set_cells.Goals as goal

pub columns-preserved : goal.columns-preserved
columns-preserved c =
    let i = c.columns.column - 1 in
    let values = get_or c.args.table.now.rows c.args.row [] in
    let in_numbers : i < length c.args.numbers.now = omega (arith, c.columns-test.true, c.columns.invariant.1) in
    let in_row : i < length values = omega (arith, c.columns-test.true, c.columns.invariant.1) in
    let v = table_value c.args.table.now.rows c.args.row i in
    let own : v ≡ get_or values i v = ap or_null (slice_get-get_or values i v in_row) in (
      columns_next c.args.parts.now c.args.numbers.now values c.columns.slots c.set.new.items c.args.slots.now c.columns.column i v (omega (arith, c.columns-test.true)) in_numbers in_row
          own c.columns.invariant.0 (c.set.ensures ∙ ap (λ (w : Value). slice_set c.columns.slots (get_or c.args.numbers.now i 0) w) c.in_ok-given.ensures),
      omega (arith, c.columns.invariant.1),
    )
