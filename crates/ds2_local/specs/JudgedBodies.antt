-- What the code of the checker holds of a thread program.
use Rattle.std.specs.Prelude.{◌≡◌, ◌+◌, if◌then◌else◌, ℕ, true, List, length, map, replicate, slice_get, Option, Some, None}
use Rattle.ds2_value.specs.declared.fault.TheConstants.{CALL_DEPTH}
use Rattle.ds2_meaning.specs.declared.globals.Variable.{Variable}
use Rattle.ds2_meaning.specs.declared.units.Program.{Program}
use Rattle.ds2_meaning.specs.View.{unit_tree}
use Rattle.ds2_locality.specs.Deeds.{MethodAt, Deed, method_deeds, is_among_methods, may_be_called, with_callees}
use Rattle.ds2_locality.specs.Verdict.{JudgedThread, locations_in_order}
use Rattle.ds2_deeds.specs.declared.deed.NumberedDeed.{NumberedDeed}
use Rattle.ds2_local.specs.declared.judged.JudgedBodies.{JudgedBodies}
use Rattle.ds2_recorded_walk.specs.declared.record.CallEffect.{CallEffect}
use Rattle.ds2_recorded_walk.specs.declared.record.RecordedRead.{RecordedRead}
use Rattle.ds2_recorded_walk.specs.declared.record.RecordedWalk.{RecordedWalk}
use Rattle.ds2_local.specs.JudgedTrees.{place_of_system}
use Rattle.ds2_local.specs.MarkedLocations.{numbers_mentioned}
use Rattle.ds2_deeds.specs.NamedLocations.{locations_named, told_once, AreDistinct}
use Rattle.ds2_deeds.specs.NamedMethods.{methods_named, methods_in_order, number_among_methods}
use Rattle.ds2_deeds.specs.NumberedCalls.{is_one_of_numbers, may_call, with_called}
use Rattle.ds2_deeds.specs.NumberedDeeds.{ProgramNumbers, numbers_of, numbered_deeds}

-- a thread program as the code holds it, whose locations, each once, and methods have these numbers
pub record IsNumbered (t : JudgedThread) (program : Program) (n : ProgramNumbers) : Type 0 where
  pub thread : Option (List ℕ)
  pub parameters : List Variable
  pub tree : t.program ≡ unit_tree thread parameters program
  pub run_place : t.run_place ≡ place_of_system program.run
  pub term_place : t.term_place ≡ place_of_system program.term
  pub locations : n.locations ≡ told_once (locations_in_order t)
  pub methods : n.methods ≡ methods_in_order t.program

-- a call that reads all of so many locations that deeds mention, and makes nothing clean
abbrev pub effect_of_mentions : (count : ℕ) → List NumberedDeed → CallEffect
effect_of_mentions count deeds = record { reads = numbers_mentioned count deeds; keeps = replicate count true }

-- the effect of the method of a number, which has these deeds, where it is on a cycle of calls: it reads all that it and the methods that it may
-- call mention
abbrev pub cycle_effect : (count : ℕ) → List (List NumberedDeed) → ℕ → List NumberedDeed → Option CallEffect
cycle_effect count all number deeds =
    if is_one_of_numbers (may_call all (length all + CALL_DEPTH) deeds) number then Some (effect_of_mentions count (with_called all (length all + CALL_DEPTH) deeds))
    else None

-- these are the effects of the methods on cycles of calls, in the order of their numbers
pub record AreCycleEffects (count : ℕ) (all : List (List NumberedDeed)) (effects : List (Option CallEffect)) : Type 0 where
  pub as_many : length effects ≡ length all
  pub each : (number : ℕ) (deeds : List NumberedDeed) → slice_get all number ≡ Some deeds → slice_get effects number ≡ Some (cycle_effect count all number deeds)

-- a call of a method whose body was walked
abbrev pub effect_of_walk : RecordedWalk → CallEffect
effect_of_walk w = record { reads = map (λ (r : RecordedRead). r.location) w.reads; keeps = w.onward }

-- the code holds this thread program with its numbers, and the deeds of each method; what deeds by numbers reach and do by way of calls
-- is what the program's own do
pub record HoldsJudged (t : JudgedThread) (b : JudgedBodies) : Type 0 where
  pub numbered : IsNumbered t b.program.now (numbers_of b.numbers)
  pub distinct : AreDistinct (locations_named b.numbers.locations.now)
  pub deeds : b.deeds.now ≡ map (λ (m : MethodAt). numbered_deeds (numbers_of b.numbers) (method_deeds t.program m)) (methods_named b.numbers.methods.now)
  pub callees : (own : List Deed)
      → with_called b.deeds.now (length b.deeds.now + CALL_DEPTH) (numbered_deeds (numbers_of b.numbers) own) ≡ numbered_deeds (numbers_of b.numbers) (with_callees t.program own)
  pub reached : (own : List Deed) (m : MethodAt) (k : ℕ) → number_among_methods (methods_named b.numbers.methods.now) m ≡ Some k
      → is_one_of_numbers (may_call b.deeds.now (length b.deeds.now + CALL_DEPTH) (numbered_deeds (numbers_of b.numbers) own)) k ≡ is_among_methods m (may_be_called t.program own)
  pub cycles : AreCycleEffects (length b.numbers.locations.now) b.deeds.now b.cycles.now
