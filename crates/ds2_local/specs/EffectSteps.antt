-- What the effects of calls tell of the definition's walk of calls.
use Rattle.std.specs.Prelude.{◌≡◌, ℕ, Bool, List, Some}
use Rattle.ds2_base.specs.declared.place.Place.{Place}
use Rattle.ds2_meaning.specs.declared.readings.ByVariable.{ByVariable}
use Rattle.ds2_meaning.specs.Location.{Location}
use Rattle.ds2_meaning.specs.TypedStatement.{TypedStatements}
use Rattle.ds2_locality.specs.Verdict.{JudgedThread, past_body, walk_method, walk_run}
use Rattle.ds2_locality.specs.Walk.{DirtySet, WalkEnd, then_walk, at_end, CallWalks, walk_all}
use Rattle.ds2_local.specs.declared.judged.JudgedBodies.{JudgedBodies}
use Rattle.ds2_recorded_walk.specs.declared.record.CallEffect.{CallEffect}
use Rattle.ds2_recorded_walk.specs.declared.record.RecordedWalk.{RecordedWalk}
use Rattle.ds2_recorded_walk.specs.declared.walk_scope.RecordScope.{RecordScope}
use Rattle.ds2_recorded_walk.specs.KnownFlags.{first_flags}
use Rattle.ds2_recorded_walk.specs.LocationBits.{set_of_bits}
use Rattle.ds2_deeds.specs.NumberedDeeds.{ProgramNumbers, numbers_of}
use Rattle.ds2_recorded_walk.specs.RecordedStatements.{walk_scope, locations_of, TellsCalls}
use Rattle.ds2_local.specs.RunGrounds.{past_run_in}
use Rattle.ds2_recorded_walk.specs.RecordedWalks.{of_those, first_failing, walk_ending, past_effect, EffectsTell}

-- an effect tells how a call is walked, from any dirty set of the program's locations
abbrev pub EffectTells : ProgramNumbers → CallEffect → (Place → DirtySet → WalkEnd DirtySet) → Type 0
EffectTells n effect call =
    (place : Place) (bits : List Bool) (before : DirtySet)
    → call place (of_those (set_of_bits n.locations bits) before) ≡ past_effect n.locations (Some effect) place (of_those (set_of_bits n.locations bits) before)

-- an effect tells how the body of a method is walked
abbrev pub BodyTells : RecordScope → TypedStatements → CallEffect → Type 0
BodyTells s body effect =
    (calls : CallWalks) → TellsCalls s calls → EffectTells (numbers_of s.numbers) effect (λ place dirty. past_body place (walk_all (walk_scope s calls) body dirty))

-- effects tell how calls are walked that are so many deep
abbrev pub EffectsAtDepth : JudgedThread → JudgedBodies → List ByVariable → List CallEffect → ℕ → Type 0
EffectsAtDepth t b known effects depth = EffectsTell (numbers_of b.numbers) effects (walk_method t (first_flags known) depth)

-- a recorded walk tells how `run` is walked with these flags known, from any dirty set of the program's locations
abbrev pub RunTells : JudgedThread → List Location → (Location → Bool) → RecordedWalk → Type 0
RunTells t locations known w =
    (bits : List Bool) (before : DirtySet)
    → walk_run t known (of_those (set_of_bits locations bits) before)
    ≡ walk_ending (first_failing locations (of_those (set_of_bits locations bits) before) w.reads) (of_those (set_of_bits locations w.onward) (of_those (set_of_bits locations bits) before))

-- a recorded walk tells how these statements of `run` are walked up to its end, whatever walks of calls the effects tell of
abbrev pub RunRecorded : RecordScope → TypedStatements → (has_output : Bool) → Place → RecordedWalk → Type 0
RunRecorded s statements has_output place w =
    (calls : CallWalks) → TellsCalls s calls → (bits : List Bool) (before : DirtySet)
    → then_walk (walk_all (walk_scope s calls) statements (of_those (set_of_bits (locations_of s) bits) before)) (λ ways. past_run_in has_output place (walk_scope s calls) (at_end ways))
    ≡ walk_ending (first_failing (locations_of s) (of_those (set_of_bits (locations_of s) bits) before) w.reads) (of_those (set_of_bits (locations_of s) w.onward) (of_those (set_of_bits (locations_of s) bits) before))
