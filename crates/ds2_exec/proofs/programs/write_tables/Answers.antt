use Rattle.std.proofs.Common.{arith, Ok, ◌∙◌}
use Rattle.ds2_exec.specs.OutputSinks.{write_sink_then}
use Rattle.ds2_store_steps.proofs.Leading.{part_more, part_halts, item_is, parts_done}
use Rattle.ds2_exec.proofs.programs.write_tables.Goals as goal

pub loop-left-preserved : goal.loop-left-preserved
loop-left-preserved g c = record {
  leads = part_more write_sink_then _ _ _ _ _ _ _ _ _ _ (Ok tt) c.loop-left.invariant.leads (item_is _ _ c.in-len1-up.len_at_least c.table-item.is) c.in_ok-write_one.ensures.does;
  same_store = c.in_ok-write_one.ensures.cause.same_store ∙ c.loop-left.invariant.same_store;
  reads = omega (arith, c.in_ok-write_one.ensures.cause.read);
  writes = omega (arith, c.in_ok-write_one.ensures.cause.write);
}

pub returns-clause-does : goal.returns-clause-does
returns-clause-does g c = parts_done write_sink_then _ _ _ _ _ _ c.loop-left.invariant.leads c.in_default.len_below

pub returns-in_err-write_one-clause-does : goal.returns-in_err-write_one-clause-does
returns-in_err-write_one-clause-does g c =
    part_halts write_sink_then _ _ (g.S.Store.files c.write_one.new.session.store.now) _ _ _ _ _ _ c.write_one.new.session.log _ c.from_residual.result c.from_residual.ensures.1 c.loop-left.invariant.leads (item_is _ _ c.in-len1-up.len_at_least c.table-item.is) c.in_err-write_one.ensures.does
