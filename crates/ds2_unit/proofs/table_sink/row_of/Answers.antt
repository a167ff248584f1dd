use Rattle.std.proofs.Common.{[], ◌∷◌, ◌++◌, sym, ap, ◌∙◌}
use Rattle.std.specs.Prelude.{slice_get}
use Rattle.ds2_value.specs.Row.{Row}
use Rattle.ds2_value.specs.Value.{or_null}
use Rattle.ds2_value.specs.declared.value.Value.{Value}
use Rattle.ds2_unit.proofs.OutputTables.{value_next}
use Rattle.ds2_unit.proofs.table_sink.row_of.Goals as goal

pub columns-preserved : goal.columns-preserved
columns-preserved c =
    let item = c.column-item.result in
    c.in_ok-push.ensures.ok
    ∙ ap (λ (v : Value). c.columns.row ++ v ∷ []) c.in_ok-value.ensures
    ∙ ap (λ (r : Row). r ++ or_null (slice_get c.args.slots.now item.1) ∷ []) c.columns.invariant
    ∙ sym (value_next c.args.columns.now c.args.slots.now c.columns.column-index item c.columns-test.true c.column-item.is)
