use Rattle.std.proofs.Common.{◌≡◌, ◌<◌, ℕ, Some, None}
use Rattle.std.specs.Prelude.{◌==◌, slice_index_or, if◌then◌else◌}
use Rattle.std.specs.List.{All, list_any}
use Rattle.ds2_bags.proofs.placing.place.Given as goal

abbrev pub invariant-loop-bag : goal.invariant-loop-bag
invariant-loop-bag g l = record {
  job : All (λ bag. All (λ d. d.job.now ≡ l.job) bag) l.left.items;
  same : (k : ℕ) → k < g.J.Answers.count l.job →
      (if list_any (λ bag. list_any (λ d. d.group == k) bag) l.left.items then Some (g.J.Answers.answer l.job k) else slice_index_or l.all k None)
      ≡ (if list_any (λ bag. list_any (λ d. d.group == k) bag) l.initial.left.items then Some (g.J.Answers.answer l.job k) else slice_index_or l.initial.all k None);
}

abbrev pub decreases-loop-bag : goal.decreases-loop-bag
decreases-loop-bag g l = goal.left-loop-bag g l
