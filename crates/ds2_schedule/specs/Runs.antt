-- How the groups of a stage are cut into runs.
use Rattle.std.specs.Prelude.{◌≡◌, ℕ, ◌+◌, ◌-◌, ◌*◌, ◌/◌, ◌≤◌, List, [], ◌∷◌, min, max, if◌then◌else◌, ◌==◌, nat_lt}
use Rattle.std.specs.List.{range_with_len}

-- How many groups a run has: a quarter of a worker's share, but at least 1 and at most 64.
unfoldable pub run_length : ℕ → ℕ → ℕ
run_length m workers = max 1 (min 64 (m / (4 * workers)))

-- How many runs of l groups m groups need.
unfoldable pub run_count : ℕ → ℕ → ℕ
run_count m l = (m + (l - 1)) / l

-- The groups of run d, where runs have l of the m groups: none where d is past the last run.
abbrev pub run_groups : ℕ → ℕ → ℕ → List ℕ
run_groups m l d = range_with_len (d * l) (min m ((d + 1) * l) - d * l)

-- How often x stands in a list.
abbrev pub times : ℕ → List ℕ → ℕ
times x [] = 0
times x (y ∷ ys) = (if y == x then 1 else 0) + times x ys

-- Once for a number below n, and never for another.
abbrev pub once_below : ℕ → ℕ → ℕ
once_below x n = if nat_lt x n then 1 else 0

-- The number of runs is the least one whose runs hold all groups.
abbrev pub RunsAreLeast : Type 0
RunsAreLeast = (m l : ℕ) → 1 ≤ l → (m ≤ run_count m l * l) × ((k : ℕ) → m ≤ k * l → run_count m l ≤ k)

-- A stage of m groups and so many workers has q runs of l groups, and the last run has z.
pub record IsCut (m workers l q z : ℕ) : Type 0 where
  pub run : run_length m workers ≡ l
  pub runs : run_count m l ≡ q
  pub last : (min m (q * l) - (q - 1) * l) ≡ z

-- How some stages are cut.
pub record SomeCuts : Type 0 where
  pub none : IsCut 0 8 1 0 0
  pub ten : IsCut 10 2 1 10 1
  pub hundred : IsCut 100 4 6 17 4
  pub thousand : IsCut 1000 2 64 16 40
