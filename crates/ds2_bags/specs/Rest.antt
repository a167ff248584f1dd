-- The groups that nobody has brought, and those of them that the caller runs.
use Rattle.std.specs.Prelude.{◌≡◌, ℕ, zero, suc, ◌+◌, ◌<◌, List, [], ◌∷◌, ◌++◌, Bool, true, false, Option, Some, None, ◌⊎◌, length, map}
use Rattle.std.specs.List.{list_any}
use Rattle.ds2_schedule.specs.Bags.{GroupRun, AreFrom, OnlyLastFaults}
use Rattle.ds2_bags.specs.declared.group_end.GroupEnd.{GroupEnd}
use Rattle.ds2_bags.specs.Endings.{ended_by_fault}

-- A group in front of others, where nobody brought it.
abbrev pub unless_brought : Option GroupEnd → ℕ → List ℕ → List ℕ
unless_brought None g rest = g ∷ rest
unless_brought (Some end) g rest = rest

-- Of the n groups from g on those that nobody brought, in ascending order.
abbrev pub unbrought : (ℕ → Option GroupEnd) → ℕ → ℕ → List ℕ
unbrought slot g zero = []
unbrought slot g (suc n) = unless_brought (slot g) g (unbrought slot (g + 1) n)

-- A run of group g that gave the job's answer.
abbrev pub answered_run : (ℕ → GroupEnd) → ℕ → GroupRun
answered_run answer g = record { group = g; rows = length (answer g).rows; faulted = ended_by_fault (answer g).ending }

-- Whether a group was brought.
abbrev pub is_brought : Option GroupEnd → Bool
is_brought None = false
is_brought (Some end) = true

-- How the caller came to stop before the groups of `rest`: none are left; or its last group faulted; or they are above a group that was brought with a fault.
abbrev pub HasStoppedAt : (ℕ → GroupEnd) → (ℕ → Option GroupEnd) → ℕ → List ℕ → List ℕ → Type 0
HasStoppedAt answer slot m ran rest =
    (rest ≡ []) ⊎ ((list_any (λ g. ended_by_fault (answer g).ending) ran ≡ true) ⊎ ((g : ℕ) × (g < m) × (is_brought (slot g) ≡ true) × (ended_by_fault (answer g).ending ≡ true) × AreFrom g rest))

-- The caller ran the first ones of the groups that nobody brought, in ascending order, and nothing behind a fault.
pub record HasRunRest (answer : ℕ → GroupEnd) (slot : ℕ → Option GroupEnd) (m : ℕ) (ran : List ℕ) : Type 0 where
  pub rest : List ℕ
  pub begins : ran ++ rest ≡ unbrought slot 0 m
  pub faults : OnlyLastFaults (map (answered_run answer) ran)
  pub stopped : HasStoppedAt answer slot m ran rest
