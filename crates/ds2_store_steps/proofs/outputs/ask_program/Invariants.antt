use Rattle.std.proofs.Common.{◌≡◌, ◌≤◌, length, map}
use Rattle.std.specs.Prelude.{nat_eq}
use Rattle.std.specs.Cmp.Lexicographic.{pointwise}
use Rattle.std.specs.HashSet.{contains}
use Rattle.ds2_store_steps.specs.OutputAsks.{output_named}
use Rattle.ds2_store_steps.proofs.OutputSteps.{AskedSoFar}
use Rattle.ds2_store_steps.proofs.outputs.ask_program.Given as goal

abbrev pub invariant-outputs : goal.invariant-outputs
invariant-outputs g l = record {
  asked : AskedSoFar (contains (pointwise nat_eq) l.initial.made) (map output_named l.outputs) (map output_named l.left) l.initial.session.log (g.S.Store.files l.initial.session.store.now) (contains (pointwise nat_eq) l.made) l.session.log (g.S.Store.files l.session.store.now);
  same_store : l.session.store.ghost_name ≡ l.initial.session.store.ghost_name;
  reads : g.S.Store.read_faults l.initial.session.store.now ≤ g.S.Store.read_faults l.session.store.now;
  writes : g.S.Store.write_faults l.initial.session.store.now ≤ g.S.Store.write_faults l.session.store.now;
}

abbrev pub decreases-outputs : goal.decreases-outputs
decreases-outputs g l = length l.left
