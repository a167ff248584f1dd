-- Histories of a stage in which each party carries a state, and what one thread gives.
use Rattle.std.specs.Prelude.{◌≡◌, ℕ, zero, suc, ◌+◌, List, [], ◌∷◌, ◌++◌, Bool, true, false, Option, Some, None, replicate, slice_get, if◌then◌else◌, ◌==◌}
use Rattle.std.specs.List.{list_any}
use Rattle.ds2_schedule.specs.Stage.{StageStep, Draws, HandsIn, Retakes, changed_at, is_legal, is_complete}

-- What running a group from a state gives, the state that it leaves, and of a result the number of its rows and whether it is a fault.
pub record GroupProgram (S O : Type 0) : Type 0 where
  pub result : S → ℕ → O
  pub leaves : S → ℕ → S
  pub rows : O → ℕ
  pub faults : O → Bool

-- What a state holds at each location, and which locations are fixed: no run changes them.
pub record FixedPart (S K C : Type 0) : Type 0 where
  pub content : S → K → C
  pub is_fixed : K → Bool

-- Two states agree where they hold the same at every fixed location.
abbrev pub Agree : {S K C : Type 0} → FixedPart S K C → S → S → Type 0
Agree {S} {K} f s t = (k : K) → f.is_fixed k ≡ true → f.content s k ≡ f.content t k

-- They agree as states where both are states of the program, as a test says: code promises nothing of other data.
abbrev pub AgreeAsStates : {S K C : Type 0} → (S → Bool) → FixedPart S K C → S → S → Type 0
AgreeAsStates is_state f s t = (is_state s ≡ true) × (is_state t ≡ true) × Agree f s t

-- Groups are independent where states that agree give one result, and a run that ends without fault leaves a state that agrees with the one before.
pub record AreIndependent {S O : Type 0} (agrees : S → S → Type 0) (p : GroupProgram S O) : Type 0 where
  pub same : (s t : S) (g : ℕ) → agrees s t → p.result s g ≡ p.result t g
  pub kept : (s : S) (g : ℕ) → agrees s s → p.faults (p.result s g) ≡ false → agrees (p.leaves s g) s

-- A hand-in carries the result from its party's state: its rows and whether it is a fault.
abbrev pub IsCarriedStep : {S O : Type 0} → GroupProgram S O → List S → StageStep → Type 0
IsCarriedStep {S} p states (Draws w d) = Unit {0}
IsCarriedStep {S} p states (HandsIn w g rows faulted) = (s : S) × (slice_get states w ≡ Some s) × (rows ≡ p.rows (p.result s g)) × (faulted ≡ p.faults (p.result s g))
IsCarriedStep {S} p states Retakes = Unit {0}

-- The states after a step: a hand-in leaves its party the state that the run left.
abbrev pub carried : {S O : Type 0} → GroupProgram S O → List S → StageStep → List S
carried p states (Draws w d) = states
carried p states (HandsIn w g rows faulted) = changed_at (λ s. p.leaves s g) states w
carried p states Retakes = states

-- A group with its result from the state of the party that ran it.
abbrev pub with_result : {S O : Type 0} → GroupProgram S O → ℕ → Option S → List (ℕ × O)
with_result p g None = []
with_result p g (Some s) = (g, p.result s g) ∷ []

-- What a step hands in: a group and its result.
abbrev pub brought : {S O : Type 0} → GroupProgram S O → List S → StageStep → List (ℕ × O)
brought p states (Draws w d) = []
brought p states (HandsIn w g rows faulted) = with_result p g (slice_get states w)
brought p states Retakes = []

-- Every hand-in of several steps carries the result from its party's state.
abbrev pub AreCarried : {S O : Type 0} → GroupProgram S O → List S → List StageStep → Type 0
AreCarried p states [] = Unit {0}
AreCarried p states (x ∷ xs) = IsCarriedStep p states x × AreCarried p (carried p states x) xs

-- The results that the hand-ins of several steps bring, each with its group.
abbrev pub all_brought : {S O : Type 0} → GroupProgram S O → List S → List StageStep → List (ℕ × O)
all_brought p states [] = []
all_brought p states (x ∷ xs) = brought p states x ++ all_brought p (carried p states x) xs

-- A history with states: the caller and each worker begin with the first state.
abbrev pub IsCarried : {S O : Type 0} → GroupProgram S O → ℕ → S → List StageStep → Type 0
IsCarried p workers first xs = AreCarried p (replicate (workers + 1) first) xs

-- The groups that were handed in with their results, in order of hand-in.
abbrev pub results : {S O : Type 0} → GroupProgram S O → ℕ → S → List StageStep → List (ℕ × O)
results p workers first xs = all_brought p (replicate (workers + 1) first) xs

-- The result of group g, in a list of groups with their results.
abbrev pub result_at : {O : Type 0} → ℕ → List (ℕ × O) → Option O
result_at g [] = None
result_at g (e ∷ es) = if e.0 == g then Some e.1 else result_at g es

-- Nothing comes behind a fault.
abbrev pub up_to_fault : {O : Type 0} → Bool → O → List O → List O
up_to_fault true o rest = o ∷ []
up_to_fault false o rest = o ∷ rest

-- A result in front of those that follow, but for a fault, which is the last one; where there is none, none follows.
abbrev pub next_result : {O : Type 0} → (O → Bool) → Option O → List O → List O
next_result faults None rest = []
next_result faults (Some o) rest = up_to_fault (faults o) o rest

-- The results of the n groups from g on, in order of group, up to and with the first fault.
abbrev pub in_order : {O : Type 0} → (O → Bool) → List (ℕ × O) → ℕ → ℕ → List O
in_order faults done g zero = []
in_order faults done g (suc n) = next_result faults (result_at g done) (in_order faults done (g + 1) n)

-- One thread: it runs the n groups from g on, each from the state that the one before left, up to the first fault.
abbrev pub one_thread : {S O : Type 0} → GroupProgram S O → S → ℕ → ℕ → List O
one_thread p s g zero = []
one_thread p s g (suc n) = up_to_fault (p.faults (p.result s g)) (p.result s g) (one_thread p (p.leaves s g) (g + 1) n)

-- The state that one thread leaves.
abbrev pub left_by_one : {S O : Type 0} → GroupProgram S O → S → ℕ → ℕ → S
left_by_one p s g zero = s
left_by_one p s g (suc n) = left_by_one p (p.leaves s g) (g + 1) n

-- Each group run from the first state, up to the first fault.
abbrev pub from_first : {S O : Type 0} → GroupProgram S O → S → ℕ → ℕ → List O
from_first p first g zero = []
from_first p first g (suc n) = up_to_fault (p.faults (p.result first g)) (p.result first g) (from_first p first (g + 1) n)

-- Where groups are independent, one thread gives what each group gives from the first state, and leaves a state that agrees with that one where none is a fault.
abbrev pub OneThreadAgrees : Type 0 → Type 0 → Type 0 → Type 0 → Type 0
OneThreadAgrees S K C O = (p : GroupProgram S O) (is_state : S → Bool) (fixed : FixedPart S K C) (first : S) (m : ℕ) → AreIndependent (AgreeAsStates is_state fixed) p → is_state first ≡ true
    → (one_thread p first 0 m ≡ from_first p first 0 m) × (list_any p.faults (one_thread p first 0 m) ≡ false → AgreeAsStates is_state fixed (left_by_one p first 0 m) first)

-- Where groups are independent, the results of every legal and complete history with states, put in order, are those of one thread.
abbrev pub EverySchedule : Type 0 → Type 0 → Type 0 → Type 0 → Type 0
EverySchedule S K C O = (p : GroupProgram S O) (is_state : S → Bool) (fixed : FixedPart S K C) (m workers : ℕ) (first : S) (xs : List StageStep) → AreIndependent (AgreeAsStates is_state fixed) p → is_state first ≡ true
    → is_legal m workers xs ≡ true → IsCarried p workers first xs → is_complete m workers xs ≡ true
    → in_order p.faults (results p workers first xs) 0 m ≡ one_thread p first 0 m
