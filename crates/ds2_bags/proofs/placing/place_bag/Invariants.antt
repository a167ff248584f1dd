use Rattle.std.proofs.Common.{◌≡◌, ◌<◌, ℕ, Some, None}
use Rattle.std.specs.Prelude.{◌==◌, slice_index_or, if◌then◌else◌}
use Rattle.std.specs.List.{All, list_any}
use Rattle.ds2_bags.proofs.placing.place_bag.Given as goal

abbrev pub invariant-loop-done : goal.invariant-loop-done
invariant-loop-done g l = record {
  job : All (λ d. d.job.now ≡ l.job) l.dones.items;
  same : (k : ℕ) → k < g.J.Answers.count l.job →
      (if list_any (λ d. d.group == k) l.dones.items then Some (g.J.Answers.answer l.job k) else slice_index_or l.out k None)
      ≡ (if list_any (λ d. d.group == k) l.initial.dones.items then Some (g.J.Answers.answer l.job k) else slice_index_or l.initial.out k None);
}

abbrev pub decreases-loop-done : goal.decreases-loop-done
decreases-loop-done g l = goal.left-loop-done g l
