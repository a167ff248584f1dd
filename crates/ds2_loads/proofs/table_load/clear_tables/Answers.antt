use Rattle.std.proofs.Common.{List, ℕ, ap, ◌∙◌}
use Rattle.ds2_code.specs.Desk.{with_slot_settings}
use Rattle.ds2_code_answer.specs.CodeLoads.{column_nulls, table_nulls}
use Rattle.ds2_loads.proofs.LoadSteps.{tables_next}
use Rattle.ds2_loads.proofs.table_load.clear_tables.Goals as goal

pub reads-preserved : goal.reads-preserved
reads-preserved c =
    tables_next c.args.reads.now c.reads.read-index c.read-item.result c.reads.slots c.clear_slots.new.slots (with_slot_settings (table_nulls c.args.reads.now) c.args.slots.now) c.reads-test.true c.read-item.is
    (c.clear_slots.ensures ∙ ap (λ (numbers : List ℕ). with_slot_settings (column_nulls numbers) c.reads.slots) c.as_slice.ensures) c.reads.invariant
