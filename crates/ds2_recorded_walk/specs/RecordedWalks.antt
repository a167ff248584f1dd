-- What a recorded walk tells of the walk from whichever locations are dirty.
use Rattle.std.specs.Prelude.{◌≡◌, ℕ, ◌&&◌, Bool, not, if◌then◌else◌, List, [], ◌∷◌, ◌++◌, map, slice_get, Option, Some, None}
use Rattle.ds2_base.specs.declared.place.Place.{Place}
use Rattle.ds2_meaning.specs.Location.{Location}
use Rattle.ds2_locality.specs.Deeds.{MethodAt}
use Rattle.ds2_locality.specs.Walk.{DirtySet, WalkEnd, FailsAt, GoesOn, then_walk, WaysOut, ways_past, CallWalks}
use Rattle.ds2_recorded_walk.specs.declared.record.CallEffect.{CallEffect}
use Rattle.ds2_recorded_walk.specs.declared.record.RecordedRead.{RecordedRead}
use Rattle.ds2_recorded_walk.specs.declared.record.RecordedWalk.{RecordedWalk}
use Rattle.ds2_recorded_walk.specs.LocationBits.{is_on, both_on, set_of_bits}
use Rattle.ds2_recorded_walk.specs.MarkedReads.{is_read_in}
use Rattle.ds2_deeds.specs.NamedMethods.{number_among_methods}
use Rattle.ds2_deeds.specs.NumberedDeeds.{ProgramNumbers}

-- ---- what is recorded

-- a walk that begins with these locations
abbrev pub nothing_recorded : List Bool → RecordedWalk
nothing_recorded locations = record { reads = []; onward = locations; leaves = []; continues = []; returns = [] }

-- a read is recorded where nothing made its location clean, the first one of each location
abbrev pub with_read : Place → ℕ → RecordedWalk → RecordedWalk
with_read place number w =
    if is_on w.onward number && not (is_read_in number w.reads) then record w { reads = w.reads ++ (record { location = number; place = place }) ∷ [] } else w

-- reads in order
abbrev pub with_reads : Place → List ℕ → RecordedWalk → RecordedWalk
with_reads place [] w = w
with_reads place (number ∷ numbers) w = with_reads place numbers (with_read place number w)

-- a call: its reads, and then what it keeps
abbrev pub with_effect : Place → CallEffect → RecordedWalk → RecordedWalk
with_effect place effect w =
    let past = with_reads place effect.reads w in record past { onward = both_on past.onward effect.keeps }

-- ---- what it tells

-- those locations of a set that were dirty before
abbrev pub of_those : DirtySet → DirtySet → DirtySet
of_those still before = λ at. still at && before at

-- a read that fails
pub record FailingRead : Type 0 where
  pub at : Location
  pub place : Place

-- a read fails where its location was dirty before
abbrev pub failing_at : DirtySet → Place → Option Location → Option FailingRead
failing_at before place None = None
failing_at before place (Some at) = if before at then Some (record { at = at; place = place }) else None

-- the first of two
abbrev pub first_failing_of : Option FailingRead → Option FailingRead → Option FailingRead
first_failing_of None later = later
first_failing_of (Some f) later = Some f

-- the first one of reads that fails
abbrev pub first_failing : List Location → DirtySet → List RecordedRead → Option FailingRead
first_failing locations before [] = None
first_failing locations before (r ∷ rs) = first_failing_of (failing_at before r.place (slice_get locations r.location)) (first_failing locations before rs)

-- how a walk ends, by the first read that fails and by what is dirty past it
abbrev pub walk_ending : {A : Type 0} → Option FailingRead → A → WalkEnd A
walk_ending None dirty = GoesOn dirty
walk_ending (Some f) dirty = FailsAt f.at f.place

-- what is dirty on the ways out
abbrev pub ways_recorded : List Location → DirtySet → RecordedWalk → WaysOut
ways_recorded locations before w = record {
  onward = of_those (set_of_bits locations w.onward) before;
  leaves = of_those (set_of_bits locations w.leaves) before;
  continues = of_those (set_of_bits locations w.continues) before;
  returns = of_those (set_of_bits locations w.returns) before;
}

-- how walks go, each from the dirty set that was there before
abbrev pub Telling : Type 0
Telling = DirtySet → WalkEnd WaysOut

-- what a recorded walk tells
unfoldable pub told : List Location → RecordedWalk → Telling
told locations w = λ before. walk_ending (first_failing locations before w.reads) (ways_recorded locations before w)

-- ---- walks that go on

-- past the next part of a statement
abbrev pub onward_by : (DirtySet → WalkEnd DirtySet) → WaysOut → WalkEnd WaysOut
onward_by go x = then_walk (go x.onward) (λ y. GoesOn (record x { onward = y }))

-- past the next statement
abbrev pub past_by : (DirtySet → WalkEnd WaysOut) → WaysOut → WalkEnd WaysOut
past_by go x = then_walk (go x.onward) (λ y. GoesOn (ways_past x y))

-- walks that go on past a part of a statement
unfoldable pub walked_on : (DirtySet → WalkEnd DirtySet) → Telling → Telling
walked_on go t = λ before. then_walk (t before) (onward_by go)

-- walks that go on past a statement
unfoldable pub walked_past : (DirtySet → WalkEnd WaysOut) → Telling → Telling
walked_past go t = λ before. then_walk (t before) (past_by go)

-- ---- calls

-- the reads of a call, at its place
abbrev pub reads_at : Place → List ℕ → List RecordedRead
reads_at place numbers = map (λ n. record { location = n; place = place }) numbers

-- how a walk goes past a call of this effect
abbrev pub past_effect : List Location → Option CallEffect → Place → DirtySet → WalkEnd DirtySet
past_effect locations None place dirty = GoesOn dirty
past_effect locations (Some e) place dirty =
    walk_ending (first_failing locations dirty (reads_at place e.reads)) (of_those (set_of_bits locations e.keeps) dirty)

-- the effect of the method of this number, where there is one
abbrev pub effect_numbered : List CallEffect → Option ℕ → Option CallEffect
effect_numbered effects None = None
effect_numbered effects (Some number) = slice_get effects number

-- effects tell how calls are walked, from any dirty set of the program's locations
abbrev pub EffectsTell : ProgramNumbers → List CallEffect → CallWalks → Type 0
EffectsTell n effects calls =
    (m : MethodAt) (place : Place) (bits : List Bool) (before : DirtySet)
    → calls m place (of_those (set_of_bits n.locations bits) before)
    ≡ past_effect n.locations (effect_numbered effects (number_among_methods n.methods m)) place (of_those (set_of_bits n.locations bits) before)
