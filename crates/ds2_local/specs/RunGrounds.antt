-- What the walks over `run` find, by numbers.
use Rattle.std.specs.List.{find, range_with_len}
use Rattle.std.specs.Prelude.{◌≡◌, ℕ, is_some, Bool, if◌then◌else◌, List, length, slice_get, Option, Some, None}
use Rattle.ds2_base.specs.declared.place.Place.{Place}
use Rattle.ds2_meaning.specs.declared.readings.ByVariable.{ByVariable}
use Rattle.ds2_meaning.specs.Location.{Location}
use Rattle.ds2_locality.specs.declared.locality.Reason.TheVariants.{Reads}
use Rattle.ds2_locality.specs.declared.locality.Verdict.{Verdict}
use Rattle.ds2_locality.specs.declared.locality.Verdict.TheVariants.{NotLocal}
use Rattle.ds2_locality.specs.Deeds.{columns_written}
use Rattle.ds2_locality.specs.KeptLocations.{is_flag_of_by}
use Rattle.ds2_locality.specs.Verdict.{JudgedThread, is_cell, Ground, name_given, ground_at}
use Rattle.ds2_locality.specs.Walk.{DirtySet, WalkEnd, GoesOn, read_locations, WalkScope}
use Rattle.ds2_recorded_walk.specs.declared.record.RecordedRead.{RecordedRead}
use Rattle.ds2_recorded_walk.specs.LocationBits.{is_on, set_of_bits}

-- these are the cells of a thread program, one value for each location
pub record AreCells (t : JudgedThread) (locations : List Location) (bits : List Bool) : Type 0 where
  pub count : length bits ≡ length locations
  pub cells : set_of_bits locations bits ≡ is_cell t.program

-- the end of `run`: an implicit output reads these columns
abbrev pub past_run_by : (has_output : Bool) → Place → List Location → DirtySet → WalkEnd DirtySet
past_run_by has_output place columns dirty = if has_output then GoesOn dirty else read_locations place columns dirty

-- likewise within a scope, where it reads the columns of all outputs
abbrev pub past_run_in : (has_output : Bool) → Place → WalkScope → DirtySet → WalkEnd DirtySet
past_run_in has_output place s = past_run_by has_output place (columns_written s.code (range_with_len 0 (length s.code.outputs)))

-- a location is a flag of one of these BY variables
abbrev pub is_flag_at : List ByVariable → Location → Bool
is_flag_at bys at = is_flag_of_by bys at.home at.global

-- the first of reads whose location is in a set
abbrev pub find_dirty : List Bool → List RecordedRead → Option RecordedRead
find_dirty bits reads = find (λ (r : RecordedRead). is_on bits r.location) reads

-- the ground of a read of a dirty location
abbrev pub ground_at_location : Place → Option Location → Option Ground
ground_at_location place None = None
ground_at_location place (Some at) = Some (record { reason = Reads (name_given at.home at.global); place = place })

-- the ground of a read that fails, where one does
abbrev pub ground_of_read : List Location → Option RecordedRead → Option Ground
ground_of_read locations None = None
ground_of_read locations (Some r) = ground_at_location r.place (slice_get locations r.location)

-- what is not local for a ground, which there is
abbrev pub IsNotLocalBy : Option Ground → Verdict → Type 0
IsNotLocalBy None v = ⊥
IsNotLocalBy (Some g) v = v ≡ NotLocal g.reason g.place

-- the read that fails in the walks of a grain, where one does, is the ground there
pub record IsGroundAt (t : JudgedThread) (locations : List Location) (grain : ℕ) (read : Option RecordedRead) : Type 0 where
  pub is : ground_at t grain ≡ ground_of_read locations read
  pub there : is_some (ground_of_read locations read) ≡ is_some read
