use Rattle.std.proofs.Common.{◌≡◌, ◌≤◌, drop, length}
use Rattle.std.specs.Prelude.{nat_eq}
use Rattle.std.specs.Cmp.Lexicographic.{pointwise}
use Rattle.std.specs.HashSet.{contains}
use Rattle.std.specs.List.{AllByRecursion}
use Rattle.ds2_verdicts.specs.ThreadVerdicts.{verdict_named}
use Rattle.ds2_exec.specs.LocalCodes.{IsIndependentWhereLocal}
use Rattle.ds2_exec.proofs.RunSteps.{AreRunSoFar}
use Rattle.ds2_exec.proofs.programs.run_programs.Given as goal

abbrev pub invariant-loop-left : goal.invariant-loop-left
invariant-loop-left g l = record {
  place : drop (length l.made) l.fn.input.codes.now ≡ l.left;
  run : AreRunSoFar (contains (pointwise nat_eq) l.running.kept.now) (verdict_named l.fn.input.verdicts.now) l.fn.input.budget l.fn.input.stored.now l.fn.input.codes.now l.left l.made l.initial.session.log (g.S.Store.files l.initial.session.store.now) l.session.log (g.S.Store.files l.session.store.now);
  independent : AllByRecursion (IsIndependentWhereLocal (verdict_named l.fn.input.verdicts.now)) l.left;
  same_store : l.session.store.ghost_name ≡ l.initial.session.store.ghost_name;
  reads : g.S.Store.read_faults l.initial.session.store.now ≤ g.S.Store.read_faults l.session.store.now;
  writes : g.S.Store.write_faults l.initial.session.store.now ≤ g.S.Store.write_faults l.session.store.now;
}

abbrev pub decreases-loop-left : goal.decreases-loop-left
decreases-loop-left g l = length l.left
