-- The sums over the hand-ins of a stage, and its least fault.
use Rattle.std.specs.Prelude.{◌≡◌, ℕ, ◌+◌, ◌≤◌, length, List, [], ◌∷◌, Bool, true, false, Option, Some, None, ◌&&◌, if◌then◌else◌, ◌==◌, nat_lt}
use Rattle.std.specs.List.{list_any}
use Rattle.ds2_schedule.specs.Stage.{HandIn, some_fault}

-- A hand-in of a party.
abbrev pub handed : ℕ → ℕ → ℕ → Bool → HandIn
handed party g rows faulted = record { party = party; group = g; rows = rows; faulted = faulted }

-- The least faulting group after one more hand-in: its own group where it faulted and there was none or a greater one.
abbrev pub lesser_fault : Option ℕ → ℕ → Bool → Option ℕ
lesser_fault None g faulted = if faulted then Some g else None
lesser_fault (Some f) g faulted = if faulted && nat_lt g f then Some g else Some f

-- The least faulting group after several hand-ins, in the order in which they came.
abbrev pub least_fault : Option ℕ → List HandIn → Option ℕ
least_fault before [] = before
least_fault before (e ∷ es) = least_fault (lesser_fault before e.group e.faulted) es

-- The rows of several hand-ins.
abbrev pub rows_handed : List HandIn → ℕ
rows_handed [] = 0
rows_handed (e ∷ es) = e.rows + rows_handed es

-- The sums of several hand-ins: how many there are, their rows, and the least group that faulted.
pub record AreSums (es : List HandIn) (hand_ins rows : ℕ) (fault : Option ℕ) : Type 0 where
  pub count : hand_ins ≡ length es
  pub all_rows : rows ≡ rows_handed es
  pub least : fault ≡ least_fault None es

-- No group that faulted is below f.
abbrev pub NoFaultBelow : ℕ → List HandIn → Type 0
NoFaultBelow f [] = Unit {0}
NoFaultBelow f (e ∷ es) = (e.faulted ≡ true → f ≤ e.group) × NoFaultBelow f es

-- Whether group g was handed in with a fault.
abbrev pub has_fault_at : ℕ → List HandIn → Bool
has_fault_at g handed = list_any (λ (e : HandIn). e.faulted && e.group == g) handed

-- Whatever the order of the hand-ins, the answer is a group that faulted and none below it did; it is None exactly where none did.
abbrev pub FaultIsLeast : Type 0
FaultIsLeast = (es : List HandIn) →
    ((f : ℕ) → least_fault None es ≡ Some f → NoFaultBelow f es × (has_fault_at f es ≡ true))
    × (least_fault None es ≡ None → some_fault es ≡ false) × (some_fault es ≡ false → least_fault None es ≡ None)
