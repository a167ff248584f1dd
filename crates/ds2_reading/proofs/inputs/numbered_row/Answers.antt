use Rattle.std.proofs.Common.{◌+◌, ◌-◌, drop, ap, sym, ◌∙◌, arith}
use Rattle.std.specs.Prelude.{slice_get}
use Rattle.ds2_table.specs.Loads.{input_rows}
use Rattle.ds2_reading.proofs.AllRows.{row_within, row_behind, row_past}
use Rattle.ds2_reading.proofs.inputs.numbered_row.Goals as goal

pub returns-then-left-rows-clause-row : goal.returns-then-left-rows-clause-row
returns-then-left-rows-clause-row c =
    sym (row_within c.args.tables.now c.tables.table c.tables.left (omega arith) (omega (arith, c.rows_of-rows.ensures, c.if-left-rows.true))) ∙ c.tables.invariant

pub tables-preserved : goal.tables-preserved
tables-preserved c =
    let ts = c.args.tables.now in
    ap (λ n. slice_get (input_rows (c.tables.table + 1) (drop (c.tables.table + 1) ts)) (c.tables.left - n)) c.rows_of-rows.ensures
    ∙ sym (row_behind ts c.tables.table c.tables.left (omega arith) (omega (arith, c.rows_of-rows.ensures, c.if-left-rows.false)))
    ∙ c.tables.invariant

pub returns-clause-row : goal.returns-clause-row
returns-clause-row c = sym (row_past c.args.tables.now c.tables.table c.tables.left (omega arith)) ∙ c.tables.invariant
