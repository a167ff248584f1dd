-- What the code records of statements, whatever walks of calls the effects tell of.
use Rattle.std.specs.Prelude.{◌≡◌, Bool, if◌then◌else◌, List}
use Rattle.ds2_meaning.specs.Location.{Location}
use Rattle.ds2_locality.specs.Walk.{DirtySet, united, WalkEnd, GoesOn, then_walk, WaysOut, CallWalks, WalkScope}
use Rattle.ds2_recorded_walk.specs.declared.record.RecordedWalk.{RecordedWalk}
use Rattle.ds2_recorded_walk.specs.declared.walk_scope.RecordScope.{RecordScope}
use Rattle.ds2_deeds.specs.ElseParts.{ElsePart}
use Rattle.ds2_recorded_walk.specs.ElseWalks.{else_walk}
use Rattle.ds2_deeds.specs.CodeTrees.{scope_of}
use Rattle.ds2_recorded_walk.specs.KnownFlags.{first_flags}
use Rattle.ds2_recorded_walk.specs.LocationBits.{set_of_bits}
use Rattle.ds2_deeds.specs.NamedLocations.{locations_named, AreDistinct}
use Rattle.ds2_deeds.specs.NumberedDeeds.{numbers_of}
use Rattle.ds2_recorded_walk.specs.RecordedWalks.{of_those, Telling, told, walked_on, walked_past, EffectsTell}

-- what the definition's walk finds, with these walks of calls
abbrev pub walk_scope : RecordScope → CallWalks → WalkScope
walk_scope s calls = record { code = scope_of s.body; calls = calls; known = first_flags s.known.now }

-- the locations of the program
abbrev pub locations_of : RecordScope → List Location
locations_of s = locations_named s.numbers.locations.now

-- each location has its number, and the effects tell of these walks of calls
pub record TellsCalls (s : RecordScope) (calls : CallWalks) : Type 0 where
  pub distinct : AreDistinct (locations_of s)
  pub effects : EffectsTell (numbers_of s.numbers) s.effects.now calls

-- a walk has gone on past a part of a statement
pub record GoesOnBy (s : RecordScope) (before after : RecordedWalk) (go : WalkScope → DirtySet → WalkEnd DirtySet) : Type 0 where
  pub by : (calls : CallWalks) → TellsCalls s calls → told (locations_of s) after ≡ walked_on (go (walk_scope s calls)) (told (locations_of s) before)

-- a walk has gone on so far that these are left of those parts
pub record LeavesToGoOn (s : RecordScope) (before after : RecordedWalk) (left whole : WalkScope → DirtySet → WalkEnd DirtySet) : Type 0 where
  pub by : (calls : CallWalks) → TellsCalls s calls
      → walked_on (left (walk_scope s calls)) (told (locations_of s) after) ≡ walked_on (whole (walk_scope s calls)) (told (locations_of s) before)

-- a walk has gone past statements
pub record GoesPastBy (s : RecordScope) (before after : RecordedWalk) (go : WalkScope → DirtySet → WalkEnd WaysOut) : Type 0 where
  pub by : (calls : CallWalks) → TellsCalls s calls → told (locations_of s) after ≡ walked_past (go (walk_scope s calls)) (told (locations_of s) before)

-- a walk has gone so far that these are left of those statements
pub record LeavesToPass (s : RecordScope) (before after : RecordedWalk) (left whole : WalkScope → DirtySet → WalkEnd WaysOut) : Type 0 where
  pub by : (calls : CallWalks) → TellsCalls s calls
      → walked_past (left (walk_scope s calls)) (told (locations_of s) after) ≡ walked_past (whole (walk_scope s calls)) (told (locations_of s) before)

-- walks that meet others, on which these locations are dirty
unfoldable pub met : DirtySet → Telling → Telling
met others t = λ before. then_walk (t before) (λ x. GoesOn (record x { onward = united x.onward (of_those others before) }))

-- the rest of a chain: where a part before is always taken, none of it is walked
abbrev pub rest_walk : WalkScope → (is_decided : Bool) → ElsePart → Telling → Telling
rest_walk s is_decided rest t = if is_decided then t else walked_past (else_walk s rest) t

-- the rest of a chain behind branches on whose ways out these locations are dirty
abbrev pub chain_rest : WalkScope → List Location → (ends : List Bool) → (is_decided : Bool) → ElsePart → Telling → Telling
chain_rest s locations ends is_decided rest t = met (set_of_bits locations ends) (rest_walk s is_decided rest t)
