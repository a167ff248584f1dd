-- What the ticket's one word, the next number, and the views of its seats keep.
use Rattle.std.specs.Prelude.{◌≡◌, ℕ, ◌+◌, ◌<◌, ◌≤◌, List, [], ◌∷◌, ◌++◌, if◌then◌else◌, nat_le}
use mathlib.Core.Option.{some}
use lib.ListN.{get_elem?}
use Rattle.atomic_table.specs.Table.{State}
use Rattle.ds2_schedule.specs.Runs.{times, once_below}
use Rattle.ds2_schedule.specs.declared.rule.SeatView.{SeatView}
use Rattle.ds2_schedule.specs.declared.rule.SeatView.TheVariants.{First, Other, Spent}

-- The numbers that a seat shows.
abbrev pub shown : SeatView → List ℕ
shown (First split joined drawn) = drawn
shown (Other drawn) = drawn
shown Spent = []

-- How many seats the first one counts as split from it.
abbrev pub split_off : SeatView → ℕ
split_off (First split joined drawn) = split
split_off (Other drawn) = 0
split_off Spent = 0

-- How many seats the first one counts as joined into it.
abbrev pub joined_in : SeatView → ℕ
joined_in (First split joined drawn) = joined
joined_in (Other drawn) = 0
joined_in Spent = 0

-- Counts the first seat.
abbrev pub one_if_first : SeatView → ℕ
one_if_first (First split joined drawn) = 1
one_if_first (Other drawn) = 0
one_if_first Spent = 0

-- Counts the seats besides the first one that are not spent.
abbrev pub one_if_other : SeatView → ℕ
one_if_other (First split joined drawn) = 0
one_if_other (Other drawn) = 1
one_if_other Spent = 0

-- How many of the numbers are past the last of q runs.
abbrev pub past : ℕ → List ℕ → ℕ
past q [] = 0
past q (x ∷ xs) = (if nat_le q x then 1 else 0) + past q xs

-- How many numbers past the last run a seat shows at most: the first one more than the seats joined into it, another seat one.
abbrev pub most_past : SeatView → ℕ
most_past (First split joined drawn) = joined + 1
most_past (Other drawn) = 1
most_past Spent = 0

-- The sum of f over all seats.
abbrev pub over_seats : (SeatView → ℕ) → List SeatView → ℕ
over_seats f [] = 0
over_seats f (v ∷ views) = f v + over_seats f views

-- The rule of a ticket of q runs whose next number is `word`.
pub record TicketRule (q word : ℕ) (views : List SeatView) : Type 0 where
  -- The numbers that the seats show are those below the next one, each once.
  pub each_once : (x : ℕ) → over_seats (λ v. times x (shown v)) views ≡ once_below x word
  -- There is one first seat, and at most 64 seats were split from it.
  pub first : over_seats one_if_first views ≡ 1
  pub few_split : over_seats split_off views ≤ 64
  -- The seats besides it that are not spent are as many as were split from it and not joined into it.
  pub unspent : over_seats one_if_other views + over_seats joined_in views ≡ over_seats split_off views
  -- No seat shows more numbers past the last run than it may.
  pub few_past : (id : ℕ) (v : SeatView) → get_elem? views id ≡ some v → past q (shown v) ≤ most_past v

-- A table that keeps the rule has one word, the next number.
abbrev pub IsTicket : ℕ → State ℕ SeatView → Type 0
IsTicket q s = (word : ℕ) × (s.words ≡ word ∷ []) × TicketRule q word s.views

-- A draw: the number goes to the end of the seat's own.
abbrev pub with_number : ℕ → SeatView → SeatView
with_number d (First split joined drawn) = First split joined (drawn ++ d ∷ [])
with_number d (Other drawn) = Other (drawn ++ d ∷ [])
with_number d Spent = Spent

-- A split: the first seat counts the new one.
abbrev pub with_split : SeatView → SeatView
with_split (First split joined drawn) = First (split + 1) joined drawn
with_split (Other drawn) = Other drawn
with_split Spent = Spent

-- A join: the first seat has the numbers of both, and counts the other.
abbrev pub with_joined : SeatView → SeatView → SeatView
with_joined (First split joined drawn) other = First split (joined + 1) (drawn ++ shown other)
with_joined (Other drawn) other = Other drawn
with_joined Spent other = Spent

-- A seat may draw where it shows no number past the last run; the first one, where it shows no more of them than seats were joined into it.
abbrev pub MayDraw : ℕ → SeatView → Type 0
MayDraw q (First split joined drawn) = past q drawn ≤ joined
MayDraw q (Other drawn) = past q drawn ≡ 0
MayDraw q Spent = ⊥

-- A seat may be split from the first one where fewer than 64 were.
abbrev pub MaySplit : SeatView → Type 0
MaySplit (First split joined drawn) = split < 64
MaySplit (Other drawn) = ⊥
MaySplit Spent = ⊥

-- A seat that was split from the first one may be joined into that.
abbrev pub MayJoin : SeatView → SeatView → Type 0
MayJoin (First split joined drawn) (Other numbers) = Unit {0}
MayJoin _ _ = ⊥

-- No number that a seat shows is d or above.
abbrev pub IsAbove : ℕ → SeatView → Type 0
IsAbove d v = (x : ℕ) → d ≤ x → times x (shown v) ≡ 0

-- The first seat, where every other one was joined into it, shows the numbers below n, each once.
abbrev pub ShowsAll : ℕ → SeatView → Type 0
ShowsAll n (First split joined drawn) = split ≡ joined → (x : ℕ) → times x drawn ≡ once_below x n
ShowsAll n (Other drawn) = Unit {0}
ShowsAll n Spent = Unit {0}
