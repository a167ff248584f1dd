-- Parts of methods that reach each other, by which the methods on cycles of calls are told and share their effects.
use Rattle.std.specs.List.{list_all}
use Rattle.std.specs.Prelude.{◌≡◌, ◌<◌, ◌≤◌, ◌⊎◌, ◌+◌, ◌&&◌, ℕ, zero, suc, nat_lt, Bool, true, List, length, slice_get, Option, Some, None}
use Rattle.ds2_value.specs.declared.fault.TheConstants.{CALL_DEPTH}
use Rattle.ds2_deeds.specs.declared.deed.NumberedDeed.{NumberedDeed}
use Rattle.ds2_deeds.specs.declared.deed.NumberedDeed.TheVariants as numbered
use Rattle.ds2_deeds.specs.NumberedCalls.{calls_by_number, deeds_numbered, is_one_of_numbers, may_call}
use Rattle.ds2_recorded_walk.specs.declared.record.CallEffect.{CallEffect}
use Rattle.ds2_local.specs.JudgedBodies.{cycle_effect}

-- a number that is there, and 0
abbrev pub or_zero : Option ℕ → ℕ
or_zero None = zero
or_zero (Some number) = number

-- the number at a place, and 0 where there is none
abbrev pub number_at : List ℕ → ℕ → ℕ
number_at numbers place = or_zero (slice_get numbers place)

-- a deed calls no method but one that has a part, whose number is below a bound
abbrev pub leads_below : List ℕ → ℕ → NumberedDeed → Bool
leads_below parts bound (numbered.Call number) = nat_lt number (length parts) && nat_lt (number_at parts number) bound
leads_below parts bound _ = true

-- so do all of these deeds
abbrev pub all_lead_below : List ℕ → ℕ → List NumberedDeed → Bool
all_lead_below parts bound deeds = list_all (leads_below parts bound) deeds

-- no method calls another one than these
abbrev pub StayWithin : List (List NumberedDeed) → Type 0
StayWithin all = (k called : ℕ) → is_one_of_numbers (calls_by_number all k) called ≡ true → called < length all

-- no method calls another one than these, and along every call the number of the part does not rise
pub record NeverRises (parts : List ℕ) (all : List (List NumberedDeed)) : Type 0 where
  pub within : StayWithin all
  pub rises : (k called : ℕ) → is_one_of_numbers (calls_by_number all k) called ≡ true → number_at parts called ≤ number_at parts k

-- the method of a number calls that of another one, where there is such a number
abbrev pub CallsIfSome : List (List NumberedDeed) → ℕ → Option ℕ → Type 0
CallsIfSome all k None = Unit {0}
CallsIfSome all k (Some called) = is_one_of_numbers (calls_by_number all k) called ≡ true

-- the method of one number may call that of another one, by way of others too
abbrev pub Reaches : List (List NumberedDeed) → ℕ → ℕ → Type 0
Reaches all k called = is_one_of_numbers (may_call all (length all + CALL_DEPTH) (deeds_numbered all k)) called ≡ true

-- each method with a mark, one more than a number, is the method of that number or is reached by it
pub record AreReached (all : List (List NumberedDeed)) (marks : List ℕ) : Type 0 where
  pub each : StayWithin all → (k head : ℕ) → number_at marks k ≡ suc head → (k ≡ head) ⊎ Reaches all head k

-- each method with a mark, one more than a number, is the method of that number, or the two reach each other
pub record AreJoined (all : List (List NumberedDeed)) (marks : List ℕ) : Type 0 where
  pub each : StayWithin all → (k head : ℕ) → number_at marks k ≡ suc head → (k ≡ head) ⊎ (Reaches all k head × Reaches all head k)

-- an effect that is there is that of the method of a number, which is on a cycle of calls
abbrev pub TellsCycle : (count : ℕ) → List (List NumberedDeed) → ℕ → Option CallEffect → Type 0
TellsCycle count all number None = Unit {0}
TellsCycle count all number (Some effect) = Some effect ≡ cycle_effect count all number (deeds_numbered all number)

-- so is each of effects, in the order of the methods
pub record TellCycles (count : ℕ) (all : List (List NumberedDeed)) (effects : List (Option CallEffect)) : Type 0 where
  pub each : (number : ℕ) (effect : Option CallEffect) → slice_get effects number ≡ Some effect → TellsCycle count all number effect
