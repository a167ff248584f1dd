-- What a run of a program's tree and a run of its code have in common.
use Rattle.std.specs.Prelude.{ℕ, Bool}
use Rattle.ds2_base.specs.declared.place.Place.{Place}
use Rattle.ds2_value.specs.Row.{Row}

-- what a run does that can fail or go two ways, one event after the other: a step began at a place, an operation that may fail
-- did not or a method was entered, a test came out, an operation failed
pub data Event : Type 0 where
  Began : Place → Event
  Did : Event
  Tested : Bool → Event
  Failed : Event

-- a row that was written to an output, which is named by its number
pub record Written : Type 0 where
  pub output : ℕ
  pub row : Row
