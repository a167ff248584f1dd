-- Effects that are found bottom-up: those of the methods on cycles at first, and then each round those of the methods that call no other one
-- whose effect is still to be found.
use Rattle.std.specs.List.{list_any}
use Rattle.std.specs.Prelude.{◌≡◌, ◌+◌, ◌⊎◌, ℕ, suc, Bool, true, false, not, List, length, slice_get, slice_set, Option, Some, None}
use Rattle.ds2_meaning.specs.declared.readings.ByVariable.{ByVariable}
use Rattle.ds2_locality.specs.Deeds.{MethodAt}
use Rattle.ds2_locality.specs.Verdict.{JudgedThread, walk_method}
use Rattle.ds2_deeds.specs.declared.deed.NumberedDeed.{NumberedDeed}
use Rattle.ds2_deeds.specs.declared.deed.NumberedDeed.TheVariants as numbered
use Rattle.ds2_deeds.specs.NamedMethods.{methods_named, number_among_methods}
use Rattle.ds2_deeds.specs.NumberedCalls.{deeds_numbered}
use Rattle.ds2_deeds.specs.NumberedDeeds.{numbers_of}
use Rattle.ds2_recorded_walk.specs.declared.record.CallEffect.{CallEffect}
use Rattle.ds2_recorded_walk.specs.KnownFlags.{first_flags}
use Rattle.ds2_recorded_walk.specs.LocationBits.{is_on}
use Rattle.ds2_local.specs.declared.judged.JudgedBodies.{JudgedBodies}
use Rattle.ds2_local.specs.EffectSteps.{EffectTells}

-- a method whose effect is still to be found
abbrev pub unless_settled : Option Bool → Bool
unless_settled None = false
unless_settled (Some settled) = not settled

-- the effect of the method of a number is still to be found
abbrev pub is_left : List Bool → ℕ → Bool
is_left settled number = unless_settled (slice_get settled number)

-- a deed calls a method whose effect is still to be found
abbrev pub waits_for : List Bool → NumberedDeed → Bool
waits_for settled (numbered.Call number) = is_left settled number
waits_for settled _ = false

-- whose effect is found: a method without one waits, or had it before
abbrev pub IsFoundBy : List Bool → ℕ → List NumberedDeed → Option CallEffect → Type 0
IsFoundBy settled number deeds None = (is_on settled number ≡ true) ⊎ (list_any (waits_for settled) deeds ≡ true)
IsFoundBy settled number deeds (Some effect) = is_on settled number ≡ false

-- effects with the one that was found for the method of a number, where one was
abbrev pub with_found : List CallEffect → ℕ → Option CallEffect → List CallEffect
with_found effects number None = effects
with_found effects number (Some effect) = slice_set effects number effect

-- marks with that of the method of a number, where its effect was found
abbrev pub with_one_settled : List Bool → ℕ → Option CallEffect → List Bool
with_one_settled settled number None = settled
with_one_settled settled number (Some effect) = slice_set settled number true

-- the effects of the methods on cycles, and any others
pub record HaveCycleEffects (cycles : List (Option CallEffect)) (effects : List CallEffect) : Type 0 where
  pub as_many : length effects ≡ length cycles
  pub cycle : (number : ℕ) (effect : CallEffect) → slice_get cycles number ≡ Some (Some effect) → slice_get effects number ≡ Some effect

-- the effects of the methods on cycles are found
pub record CoversCycles (cycles : List (Option CallEffect)) (settled : List Bool) : Type 0 where
  pub as_many : length settled ≡ length cycles
  pub cycle : (number : ℕ) (effect : CallEffect) → slice_get cycles number ≡ Some (Some effect) → slice_get settled number ≡ Some true

-- the effects that are found tell how calls are walked that are so many deep or deeper
abbrev pub Settles : JudgedThread → JudgedBodies → List ByVariable → List Bool → List CallEffect → (depth : ℕ) → Type 0
Settles t b known settled effects depth =
    (m : MethodAt) (number : ℕ) (effect : CallEffect) → number_among_methods (methods_named b.numbers.methods.now) m ≡ Some number
    → slice_get settled number ≡ Some true → slice_get effects number ≡ Some effect
    → (more : ℕ) → EffectTells (numbers_of b.numbers) effect (walk_method t (first_flags known) (depth + more) m)

-- there is an effect for each method, those of the methods on cycles are found, and those that are found tell how calls are walked that are
-- so many deep or deeper
pub record IsSettledTo (t : JudgedThread) (b : JudgedBodies) (known : List ByVariable) (settled : List Bool) (effects : List CallEffect) (depth : ℕ) : Type 0 where
  pub as_many : length effects ≡ length settled
  pub covers : CoversCycles b.cycles.now settled
  pub settles : Settles t b known settled effects depth

-- an effect that is found tells how calls of a method are walked that are one deeper or more
abbrev pub FoundTells : JudgedThread → JudgedBodies → List ByVariable → (depth : ℕ) → MethodAt → Option CallEffect → Type 0
FoundTells t b known depth m None = Unit {0}
FoundTells t b known depth m (Some effect) = (more : ℕ) → EffectTells (numbers_of b.numbers) effect (walk_method t (first_flags known) (suc (depth + more)) m)

-- a round: which effects are found behind it, and that the other methods wait for one that was not found before it
pub record IsRound (deeds : List (List NumberedDeed)) (settled next : List Bool) : Type 0 where
  pub as_many : length next ≡ length deeds
  pub kept : (number : ℕ) → slice_get settled number ≡ Some true → slice_get next number ≡ Some true
  pub left : (number : ℕ) → slice_get next number ≡ Some false → (is_on settled number ≡ false) × (list_any (waits_for settled) (deeds_numbered deeds number) ≡ true)
