use Rattle.std.proofs.Common.{◌≡◌, ◌≤◌, length, flat_map}
use Rattle.std.specs.Prelude.{nat_eq}
use Rattle.std.specs.Cmp.Lexicographic.{pointwise}
use Rattle.std.specs.HashSet.{contains}
use Rattle.ds2_answer.specs.ObjectPlans.{outputs_of_code}
use Rattle.ds2_answer.specs.TablePlans.{none_made}
use Rattle.ds2_store_steps.proofs.OutputSteps.{AskedSoFar}
use Rattle.ds2_store_steps.proofs.outputs.ask_outputs.Given as goal

abbrev pub invariant-codes : goal.invariant-codes
invariant-codes g l = record {
  asked : AskedSoFar none_made (flat_map outputs_of_code l.codes) (flat_map outputs_of_code l.left) l.initial.session.log (g.S.Store.files l.initial.session.store.now) (contains (pointwise nat_eq) l.made) l.session.log (g.S.Store.files l.session.store.now);
  same_store : l.session.store.ghost_name ≡ l.initial.session.store.ghost_name;
  reads : g.S.Store.read_faults l.initial.session.store.now ≤ g.S.Store.read_faults l.session.store.now;
  writes : g.S.Store.write_faults l.initial.session.store.now ≤ g.S.Store.write_faults l.session.store.now;
}

abbrev pub decreases-codes : goal.decreases-codes
decreases-codes g l = length l.left
