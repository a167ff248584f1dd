use Rattle.std.proofs.Common.{List, ◌++◌, ap, map, subst}
use Rattle.std.specs.Arc.{arc_value}
use Rattle.ds2_table.specs.Table.{Contents, IsTable}
use Rattle.ds2_answer.specs.HeldTables.{table_held}
use Rattle.ds2_store_steps.proofs.Leading.{item_is}
use Rattle.ds2_store_steps.proofs.ReferenceSteps.{another_whole, none_whole, referred_more}
use Rattle.ds2_store_steps.proofs.references.tables_referred.Goals as goal

pub references-init : goal.references-init
references-init c = record {
  held = ap (λ (tables : List Contents). tables ++ map (table_held (record { stored = c.args.stored.now; made = c.args.made.now })) c.args.references.now) c.new-tables.ensures;
  whole = none_whole c.new-tables.result c.new-tables.ensures;
}

pub references-preserved : goal.references-preserved
references-preserved c = record {
  held = referred_more (record { stored = c.args.stored.now; made = c.args.made.now }) _ _ _ _ _ _ _ (item_is _ _ c.in-len1-up.len_at_least c.reference-item.is) c.in_ok-table.ensures c.in_ok-push.ensures.ok c.references.invariant.held;
  whole = another_whole _ _ (arc_value c.in_ok-table.table) c.references.invariant.whole (subst (λ (t : Contents). IsTable t) c.deref.ensures c.is_table.ensures) c.in_ok-push.ensures.ok;
}
