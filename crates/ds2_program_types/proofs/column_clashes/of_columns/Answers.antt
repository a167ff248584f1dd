use Rattle.std.proofs.Common.{◌∙◌}
use Rattle.ds2_program_types.specs.UnitsAtHand.{columns_at_hand, source_at_hand}
use Rattle.ds2_program_types.proofs.ColumnLists.{columns_ruled}
use Rattle.ds2_program_types.proofs.column_clashes.of_columns.Goals as goal

pub returns : goal.returns
returns c = λ before h.
    let x = c.args.unit in
    let u = source_at_hand x in
    let variables = c.as_slice-variables.result.now in
    columns_ruled (columns_at_hand x) before u variables x.columns.now c.in_ok-first.first c.of_undeclared-second.result c.lesser.result (c.as_slice-variables.ensures ∙ c.in_ok-declared.ensures) h.columns
    (c.in_ok-first.ensures before u variables h.reads c.in_ok-known.ensures) (c.of_undeclared-second.ensures before u variables h.reads c.in_ok-known.ensures) c.lesser.ensures
