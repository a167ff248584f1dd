-- What effects tell of the walks of calls, one after the other and one deeper.
use Rattle.std.proofs.Common.{◌≡◌, ℕ, zero, suc, ◌+◌, ◌<◌, Bool, List, [], ◌∷◌, ◌++◌, length, Option, Some, None, option_map, refl, sym, ap, ◌∙◌, subst, arith, ◌⊎◌, inl, inr}
use Rattle.std.specs.Prelude.{slice_get}
use Rattle.std.proofs.lemmas.List.{length-map}
use Rattle.std.proofs.lemmas.Option.{same_Some, slice_get-map, slice_get_within}
use Rattle.ds2_value.specs.declared.fault.TheConstants.{CALL_DEPTH}
use Rattle.ds2_meaning.specs.Location.{Location}
use Rattle.ds2_locality.specs.Deeds.{MethodAt, Deed, method_deeds, number_of_methods, with_callees}
use Rattle.ds2_locality.specs.Verdict.{JudgedThread, locations_in_order, is_on_cycle, read_on_cycle, walk_method}
use Rattle.ds2_locality.specs.Walk.{read_locations, CallWalks}
use Rattle.ds2_deeds.specs.declared.deed.NumberedDeed.{NumberedDeed}
use Rattle.ds2_deeds.specs.NamedLocations.{location_named, locations_named}
use Rattle.ds2_deeds.specs.NamedMethods.{methods_named, methods_in_order, number_among_methods}
use Rattle.ds2_deeds.specs.NumberedCalls.{is_one_of_numbers, may_call, with_called}
use Rattle.ds2_deeds.specs.NumberedDeeds.{ProgramNumbers, numbers_of, numbered_deeds}
use Rattle.ds2_local.proofs.FirstLemmas.{method_at}
use Rattle.ds2_recorded_walk.specs.declared.record.CallEffect.{CallEffect}
use Rattle.ds2_recorded_walk.specs.LocationBits.{set_of_bits}
use Rattle.ds2_recorded_walk.specs.RecordedWalks.{of_those, past_effect, effect_numbered, EffectsTell}
use Rattle.ds2_local.specs.declared.judged.JudgedBodies.{JudgedBodies}
use Rattle.ds2_local.specs.EffectSteps.{EffectTells}
use Rattle.ds2_local.specs.JudgedBodies.{HoldsJudged, effect_of_mentions}
use Rattle.ds2_local.proofs.CycleLemmas.{mentions_told}
use Rattle.ds2_local.proofs.MethodLemmas.{methods_counted, none_numbered, none_walked}

-- ---- what is held

module _ (t : JudgedThread) (b : JudgedBodies) (holds : HoldsJudged t b) where
  -- how many methods there are
  pub held_count : length b.deeds.now ≡ number_of_methods t.program
  held_count =
      ap (λ l. length l) holds.deeds ∙ length-map (methods_named b.numbers.methods.now) (λ (m : MethodAt). numbered_deeds (numbers_of b.numbers) (method_deeds t.program m))
      ∙ ap (λ l. length l) holds.numbered.methods ∙ methods_counted t.program

  -- the deeds of the method of a number
  pub held_deeds : (m : MethodAt) (k : ℕ) → number_among_methods (methods_named b.numbers.methods.now) m ≡ Some k → slice_get b.deeds.now k ≡ Some (numbered_deeds (numbers_of b.numbers) (method_deeds t.program m))
  held_deeds m k e =
      ap (λ l. slice_get l k) holds.deeds ∙ slice_get-map (λ (x : MethodAt). numbered_deeds (numbers_of b.numbers) (method_deeds t.program x)) (methods_named b.numbers.methods.now) k
      ∙ ap (λ o. option_map (λ (x : MethodAt). numbered_deeds (numbers_of b.numbers) (method_deeds t.program x)) o) (method_at (methods_named b.numbers.methods.now) m k e)

  -- those with what they may call
  pub held_callees : (deeds : List NumberedDeed) (own : List Deed) → deeds ≡ numbered_deeds (numbers_of b.numbers) own
      → with_called b.deeds.now (length b.deeds.now + CALL_DEPTH) deeds ≡ numbered_deeds (numbers_of b.numbers) (with_callees t.program own)
  held_callees deeds own e = ap (λ l. with_called b.deeds.now (length b.deeds.now + CALL_DEPTH) l) e ∙ holds.callees own

  -- a method is on a cycle
  pub held_cycle : (deeds : List NumberedDeed) (m : MethodAt) (k : ℕ) → number_among_methods (methods_named b.numbers.methods.now) m ≡ Some k → deeds ≡ numbered_deeds (numbers_of b.numbers) (method_deeds t.program m)
      → is_one_of_numbers (may_call b.deeds.now (length b.deeds.now + CALL_DEPTH) deeds) k ≡ is_on_cycle t.program m
  held_cycle deeds m k is e = ap (λ l. is_one_of_numbers (may_call b.deeds.now (length b.deeds.now + CALL_DEPTH) l) k) e ∙ holds.reached (method_deeds t.program m) m k is

  pub located : length b.numbers.locations.now ≡ length (locations_named b.numbers.locations.now)
  located = sym (length-map b.numbers.locations.now location_named)

  -- the effect of a method that reads all that it and what it may call mention
  pub cycle_tells : (deeds : List NumberedDeed) (m : MethodAt) → deeds ≡ numbered_deeds (numbers_of b.numbers) (method_deeds t.program m)
      → EffectTells (numbers_of b.numbers) (effect_of_mentions (length b.numbers.locations.now) (with_called b.deeds.now (length b.deeds.now + CALL_DEPTH) deeds)) (λ place dirty. read_locations place (read_on_cycle t m) dirty)
  cycle_tells deeds m e place bits before =
      mentions_told (numbers_of b.numbers) (locations_in_order t) (with_callees t.program (method_deeds t.program m)) holds.numbered.locations holds.distinct (length b.numbers.locations.now) located place bits before
      ∙ ap (λ l. past_effect (locations_named b.numbers.locations.now) (Some (effect_of_mentions (length b.numbers.locations.now) l)) place (of_those (set_of_bits (locations_named b.numbers.locations.now) bits) before))
      (sym (held_callees deeds (method_deeds t.program m) e))

-- ---- the effects of all methods

-- effects tell of each method that has a number how it is walked
abbrev pub EachTells : ProgramNumbers → List CallEffect → CallWalks → Type 0
EachTells n effects calls = (m : MethodAt) (k : ℕ) (effect : CallEffect) → number_among_methods n.methods m ≡ Some k → slice_get effects k ≡ Some effect → EffectTells n effect (calls m)

none_within : {A : Type 0} (xs : List A) (k : ℕ) → k < length xs → slice_get xs k ≡ None → ⊥
none_within [] k lt e = omega (arith, lt)
none_within (x ∷ xs) zero lt e = absurd cc
none_within (x ∷ xs) (suc k) lt e = let less : k < length xs = omega (arith, lt) in none_within xs k less e

-- where each tells, and there is one for each method, they tell how all calls are walked
pub all_tell : (t : JudgedThread) (n : ProgramNumbers) (known : Location → Bool) (effects : List CallEffect) (depth : ℕ) → n.methods ≡ methods_in_order t.program → length effects ≡ length n.methods
    → EachTells n effects (walk_method t known depth) → EffectsTell n effects (walk_method t known depth)
all_tell t n known effects depth is counted each m place bits before = by_number (number_among_methods n.methods m) refl
  where
    by_effect : (k : ℕ) (o : Option CallEffect) → number_among_methods n.methods m ≡ Some k → slice_get effects k ≡ o
        → walk_method t known depth m place (of_those (set_of_bits n.locations bits) before) ≡ past_effect n.locations o place (of_those (set_of_bits n.locations bits) before)
    by_effect k None e f =
        let there : k < length effects = omega (arith, slice_get_within n.methods k m (method_at n.methods m k e), counted) in absurd (none_within effects k there f)
    by_effect k (Some effect) e f = each m k effect e f place bits before

    by_number : (o : Option ℕ) → number_among_methods n.methods m ≡ o
        → walk_method t known depth m place (of_those (set_of_bits n.locations bits) before)
        ≡ past_effect n.locations (effect_numbered effects (number_among_methods n.methods m)) place (of_those (set_of_bits n.locations bits) before)
    by_number None e =
        none_walked t known depth m place (of_those (set_of_bits n.locations bits) before) (none_numbered t.program m (ap (λ ms. number_among_methods ms m) (sym is) ∙ e))
        ∙ ap (λ o. past_effect n.locations (effect_numbered effects o) place (of_those (set_of_bits n.locations bits) before)) (sym e)
    by_number (Some k) e =
        by_effect k (slice_get effects k) e refl
        ∙ ap (λ o. past_effect n.locations (effect_numbered effects o) place (of_those (set_of_bits n.locations bits) before)) (sym e)
