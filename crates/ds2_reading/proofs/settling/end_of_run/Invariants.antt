use Rattle.std.proofs.Common.{ℕ, ◌≡◌, ◌<◌, ◌≤◌, ◌-◌, length}
use Rattle.std.specs.Prelude.{get_or}
use Rattle.ds2_reading.specs.KeyHeads.{head_of}
use Rattle.ds2_reading.proofs.settling.end_of_run.Given as goal

abbrev pub invariant-numbers : goal.invariant-numbers
invariant-numbers l =
    (l.fn.from < l.end) × (l.end ≤ length l.numbers)
    × ((k d : ℕ) → l.fn.from ≤ k → k < l.end → head_of (get_or l.numbers k d) ≡ head_of (get_or l.numbers l.fn.from d))

abbrev pub decreases-numbers : goal.decreases-numbers
decreases-numbers l = length l.numbers - l.end
