-- How far a unit has come, and how it ends: all of it that a run of a program's tree and a run of its code have in common.
use Rattle.std.specs.Prelude.{ℕ, zero, suc, Bool, true, false, List, [], ◌∷◌, ◌++◌}
use Rattle.ds2_base.specs.declared.place.Place.{Place}
use Rattle.ds2_value.specs.Row.{Row}
use Rattle.ds2_value.specs.Run.{Event, Began, Did, Failed, Written}
use Rattle.ds2_value.specs.declared.fault.Fault.{Fault}

-- where a run of one unit stands, but for its variables
pub record Progress : Type 0 where
  -- the place of the step that is under way
  pub place : Place
  -- how many steps and calls may still begin
  pub left : ℕ
  -- what it did that can fail or go two ways, the first event first
  pub way : List Event
  -- the rows that it wrote, the first one first
  pub rows : List Written
  -- the lines that it put into the log, the first one first
  pub lines : List (List ℕ)

-- before the first step of a unit: no place yet, the whole budget, nothing done, written or put
abbrev pub at_the_start : ℕ → Progress
at_the_start budget = record { place = record { line = 0; column = 0 }; left = budget; way = []; rows = []; lines = [] }

-- one more event
abbrev pub with_event : Event → Progress → Progress
with_event e p = record p { way = p.way ++ e ∷ [] }

-- an operation has failed in the step that is under way
abbrev pub with_failure : Progress → Progress
with_failure p = with_event Failed p

-- a step has begun at a place, and leaves this much of the budget
abbrev pub with_step : Place → ℕ → Progress → Progress
with_step place left p = record p { place = place; left = left; way = p.way ++ Began place ∷ [] }

-- a step at a place has found the budget spent
abbrev pub without_step : Place → Progress → Progress
without_step place p = with_failure (record p { place = place; left = 0 })

-- a method was entered, which leaves this much of the budget; the place stays
abbrev pub with_call : ℕ → Progress → Progress
with_call left p = with_event Did (record p { left = left })

-- a call that leaves this much of the budget lies deeper than calls may lie
abbrev pub without_call : ℕ → Progress → Progress
without_call left p = with_failure (record p { left = left })

-- a caller goes on, in the step that it was in
abbrev pub with_place : Place → Progress → Progress
with_place place p = record p { place = place }

-- one more row of an output
abbrev pub with_written : ℕ → Row → Progress → Progress
with_written output row p = record p { rows = p.rows ++ record { output = output; row = row } ∷ [] }

-- one more line of the log
abbrev pub with_line : List ℕ → Progress → Progress
with_line line p = record p { lines = p.lines ++ line ∷ [] }

-- how a unit ends over variables C, with how far it has come and how many instructions it executed; a tree executes none
pub data UnitOutcome (C : Type 0) : Type 0 where
  Completed : C → Progress → (executed : ℕ) → UnitOutcome C
  Interrupted : Fault → Progress → (executed : ℕ) → UnitOutcome C
  -- instructions that are no valid code have no further step, or no end; neither a tree nor valid code strays
  Strayed : UnitOutcome C

-- a unit has an end, normal or by a fault
abbrev pub has_end : {C : Type 0} → UnitOutcome C → Bool
has_end (Completed c p n) = true
has_end (Interrupted fault p n) = true
has_end Strayed = false
