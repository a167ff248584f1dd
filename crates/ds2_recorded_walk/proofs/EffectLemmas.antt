-- Calls of methods that have effects.
use Rattle.std.proofs.Common.{◌≡◌, Option, Some, None, sym, ap, ◌∙◌}
use Rattle.ds2_base.specs.declared.place.Place.{Place}
use Rattle.ds2_locality.specs.Deeds.{MethodAt}
use Rattle.ds2_locality.specs.Walk.{CallWalks}
use Rattle.ds2_recorded_walk.specs.declared.record.CallEffect.{CallEffect}
use Rattle.ds2_recorded_walk.specs.declared.record.RecordedWalk.{RecordedWalk}
use Rattle.ds2_recorded_walk.specs.declared.walk_scope.RecordScope.{RecordScope}
use Rattle.ds2_recorded_walk.specs.LocationBits.{set_of_bits}
use Rattle.ds2_deeds.specs.NamedMethods.{methods_named, number_among_methods}
use Rattle.ds2_recorded_walk.specs.RecordedStatements.{locations_of, TellsCalls}
use Rattle.ds2_recorded_walk.specs.RecordedWalks.{of_those, told, walked_on, with_effect, past_effect, effect_numbered}
use Rattle.ds2_recorded_walk.proofs.CallLemmas.{told_effect, on_told}
use Rattle.ds2_recorded_walk.proofs.WalkLemmas.{nothing_walked}

module _ (s : RecordScope) (calls : CallWalks) (tells : TellsCalls s calls) (m : MethodAt) (place : Place) (w : RecordedWalk) where
  call_as : (o : Option CallEffect) → effect_numbered s.effects.now (number_among_methods (methods_named s.numbers.methods.now) m) ≡ o
      → walked_on (calls m place) (told (locations_of s) w) ≡ walked_on (past_effect (locations_of s) o place) (told (locations_of s) w)
  call_as o e =
      on_told (locations_of s) w (calls m place) (past_effect (locations_of s) o place)
      (λ before. tells.effects m place w.onward before ∙ ap (λ x. past_effect (locations_of s) x place (of_those (set_of_bits (locations_of s) w.onward) before)) e)

  -- a method without an effect does nothing
  pub no_effect : effect_numbered s.effects.now (number_among_methods (methods_named s.numbers.methods.now) m) ≡ None
      → told (locations_of s) w ≡ walked_on (calls m place) (told (locations_of s) w)
  no_effect e = sym (call_as None e ∙ nothing_walked (told (locations_of s) w))

  -- a method of an effect
  pub its_effect : (effect : CallEffect) → effect_numbered s.effects.now (number_among_methods (methods_named s.numbers.methods.now) m) ≡ Some effect
      → told (locations_of s) (with_effect place effect w) ≡ walked_on (calls m place) (told (locations_of s) w)
  its_effect effect e = told_effect (locations_of s) tells.distinct place effect w ∙ sym (call_as (Some effect) e)
