use Rattle.std.proofs.Common.{◌≡◌, ◌+◌, ◌≤◌, ℕ, vec_len, sum_by, length, map}
use Rattle.std.specs.Prelude.{◌==◌, ◌||◌, vec_capacity}
use Rattle.std.specs.List.{All, list_any}
use Rattle.ds2_bags.specs.Endings.{ended_by_fault}
use Rattle.ds2_stage.specs.Ended.{IsEndedBag}
use Rattle.ds2_stage.specs.Gathered.{IsEndedPass, times_shown}
use Rattle.ds2_stage.specs.Passes.{PassView}
use Rattle.ds2_stage.proofs.concluding.unpack.Given as goal

abbrev pub invariant-loop-bag : goal.invariant-loop-bag
invariant-loop-bag g l = record {
  left : All (λ b. IsEndedBag (g.J.Answers.answer l.job) l.shared.tickets b.pass (map (λ d. record { group = d.group; rows = length d.end.rows; faulted = ended_by_fault d.end.ending }) b.dones) (record { short = b.short; odd = b.odd; stop = b.stop }) × All (λ d. d.job.now ≡ l.job) b.dones) l.bags.items;
  made : vec_len l.passes + vec_len l.bags ≡ vec_len l.initial.bags;
  room : (vec_len l.passes + vec_len l.bags ≤ vec_capacity l.passes) × (vec_len l.dones + vec_len l.bags ≤ vec_capacity l.dones);
  parts : sum_by (λ (p : PassView). p.parts) l.passes.items + vec_len l.bags ≡ vec_len l.initial.bags;
  passes : All (IsEndedPass l.shared.tickets) l.passes.items;
  jobs : All (λ bag. All (λ d. d.job.now ≡ l.job) bag) l.dones.items;
  numbers : (x : ℕ) → sum_by (times_shown x) l.passes.items + sum_by (λ b. times_shown x b.pass) l.bags.items ≡ sum_by (λ b. times_shown x b.pass) l.initial.bags.items;
  named : (k : ℕ) → (list_any (λ bag. list_any (λ d. d.group == k) bag) l.dones.items || list_any (λ b. list_any (λ d. d.group == k) b.dones) l.bags.items) ≡ list_any (λ b. list_any (λ d. d.group == k) b.dones) l.initial.bags.items;
}

abbrev pub decreases-loop-bag : goal.decreases-loop-bag
decreases-loop-bag g l = goal.left-loop-bag g l
