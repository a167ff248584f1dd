-- What a party's pass shows.
use Rattle.std.specs.Prelude.{◌≡◌, ℕ, ◌+◌, ◌<◌, List, [], length, slice_index_or}
use Rattle.ds2_schedule.specs.declared.rule.SeatView.TheVariants.{First, Other}
use Rattle.ds2_schedule.specs.declared.tickets.Tickets.{Tickets}
use Rattle.ds2_schedule.specs.declared.tickets.TicketSeat.{TicketSeat}
use Rattle.ds2_schedule.specs.Seats.{view_of, IsSeatOf}

-- The number of the party, its seat, how many groups it handed in and their rows, and how many parts of each ledger it has.
pub record PassView : Type 0 where
  pub number : ℕ
  pub seat : TicketSeat
  pub groups : ℕ
  pub rows : ℕ
  pub parts : ℕ

-- The pass of worker n before its first draw.
pub record IsWorkerPass (t : Tickets) (n : ℕ) (p : PassView) : Type 0 where
  pub number : p.number ≡ n
  pub of : IsSeatOf t p.seat
  pub seat : view_of p.seat ≡ Other []
  pub groups : p.groups ≡ 0
  pub rows : p.rows ≡ 0
  pub parts : p.parts ≡ 1

-- The pass of the caller of so many workers, whose seats were split from its own.
pub record IsCallerPass (t : Tickets) (workers : ℕ) (p : PassView) : Type 0 where
  pub number : p.number ≡ workers
  pub of : IsSeatOf t p.seat
  pub seat : view_of p.seat ≡ First workers 0 []
  pub groups : p.groups ≡ 0
  pub rows : p.rows ≡ 0
  pub parts : p.parts ≡ 1

-- Two passes differ in their seats alone.
abbrev pub IsSameButSeat : PassView → PassView → Type 0
IsSameButSeat p q = q ≡ record { number = p.number; seat = q.seat; groups = p.groups; rows = p.rows; parts = p.parts }

-- A pass behind one more hand-in, of a group with so many rows.
abbrev pub IsHandedIn : PassView → ℕ → PassView → Type 0
IsHandedIn p rows q = q ≡ record { number = p.number; seat = p.seat; groups = p.groups + 1; rows = p.rows + rows; parts = p.parts }

-- A pass that has the sums and parts of two.
abbrev pub IsMerged : PassView → PassView → PassView → Type 0
IsMerged p other q = q ≡ record { number = p.number; seat = q.seat; groups = p.groups + other.groups; rows = p.rows + other.rows; parts = p.parts + other.parts }

-- A worker's pass before its first draw, for a job of as many groups as the stage has.
pub record MayWork (groups : ℕ) (t : Tickets) (p : PassView) : Type 0 where
  pub same : groups ≡ t.groups
  pub number : ℕ
  pub pass : IsWorkerPass t number p

-- The passes of several parties stand in order of number, from 0 on.
abbrev pub AreInOrderOfNumber : List PassView → Type 0
AreInOrderOfNumber passes = (i : ℕ) (p : PassView) → i < length passes → (slice_index_or passes i p).number ≡ i
