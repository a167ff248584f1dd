-- What the numbers that a seat shows tell.
use Rattle.std.specs.Prelude.{◌≡◌, ℕ, ◌+◌, ◌≤◌, List, [], ◌∷◌, ◌++◌}
use Rattle.ds2_schedule.specs.Runs.{times, once_below}
use Rattle.ds2_schedule.specs.Bags.{IsAscending}

-- A seat that shows every number below k, each once, and all numbers again after its draw of d, drew k.
abbrev pub DrawsTheNext : Type 0
DrawsTheNext = (shown : List ℕ) (k d next : ℕ) → ((x : ℕ) → times x shown ≡ once_below x k) → ((x : ℕ) → times x (shown ++ d ∷ []) ≡ once_below x next) → (d ≡ k) × (next ≡ k + 1)

-- The numbers of a seat ascend, where each draw is above those before it.
abbrev pub StillAscends : Type 0
StillAscends = (shown : List ℕ) (d : ℕ) → IsAscending shown → ((x : ℕ) → d ≤ x → times x shown ≡ 0) → IsAscending (shown ++ d ∷ [])
