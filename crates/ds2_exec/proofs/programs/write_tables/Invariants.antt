use Rattle.std.proofs.Common.{◌≡◌, ◌≤◌, length}
use Rattle.ds2_answer.specs.Plan.{Plan, each_in_turn}
use Rattle.ds2_exec.specs.OutputSinks.{write_sink_then}
use Rattle.ds2_store_steps.specs.Halts.{LeadsOn}
use Rattle.ds2_exec.proofs.programs.write_tables.Given as goal

abbrev pub invariant-loop-left : goal.invariant-loop-left
invariant-loop-left g l = record {
  leads : (rest : Plan) → LeadsOn (each_in_turn write_sink_then l.tables rest) (each_in_turn write_sink_then l.left rest) l.initial.session.log (g.S.Store.files l.initial.session.store.now) l.session.log (g.S.Store.files l.session.store.now);
  same_store : l.session.store.ghost_name ≡ l.initial.session.store.ghost_name;
  reads : g.S.Store.read_faults l.initial.session.store.now ≤ g.S.Store.read_faults l.session.store.now;
  writes : g.S.Store.write_faults l.initial.session.store.now ≤ g.S.Store.write_faults l.session.store.now;
}

abbrev pub decreases-loop-left : goal.decreases-loop-left
decreases-loop-left g l = length l.left
