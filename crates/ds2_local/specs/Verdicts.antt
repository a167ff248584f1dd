-- The verdict, by what the code of the checker finds.
use Rattle.std.specs.List.{list_any}
use Rattle.std.specs.Prelude.{◌≡◌, ℕ, true, List, [], ◌∷◌, Option, Some, None}
use Rattle.ds2_base.specs.declared.place.Place.{Place}
use Rattle.ds2_meaning.specs.Location.{Location, is_same_location}
use Rattle.ds2_meaning.specs.ProgramTree.{UnitTree}
use Rattle.ds2_meaning.specs.Reading.{bys_of}
use Rattle.ds2_locality.specs.declared.locality.Reason.{Reason}
use Rattle.ds2_locality.specs.declared.locality.Verdict.{Verdict}
use Rattle.ds2_locality.specs.declared.locality.Verdict.TheVariants.{Local}
use Rattle.ds2_locality.specs.Independence.{IsIndependentAt}
use Rattle.ds2_locality.specs.KeptLocations.{is_flag_of_by}
use Rattle.ds2_locality.specs.Verdict.{JudgedThread, locations_in_order, is_cell, Ground, earlier_place}
use Rattle.ds2_deeds.specs.declared.deed.NumberedDeed.{NumberedDeed}
use Rattle.ds2_deeds.specs.declared.deed.NumberedDeed.TheVariants as numbered

-- a ground for this reason, where there is a place
abbrev pub ground_of_place : Reason → Option Place → Option Ground
ground_of_place reason None = None
ground_of_place reason (Some place) = Some (record { reason = reason; place = place })

-- the earlier one of two places, where there are such
abbrev pub earlier_of_places : Option Place → Option Place → Option Place
earlier_of_places None later = later
earlier_of_places (Some place) later = Some (earlier_place place later)

-- the place at which a deed by numbers writes
abbrev pub place_written : NumberedDeed → Option Place
place_written (numbered.Write place) = Some place
place_written _ = None

-- the earliest place at which deeds by numbers write
abbrev pub first_write_numbered : List NumberedDeed → Option Place
first_write_numbered [] = None
first_write_numbered (deed ∷ deeds) = earlier_of_places (place_written deed) (first_write_numbered deeds)

-- a location is among those of a thread program
abbrev pub IsTold : JudgedThread → Location → Type 0
IsTold t at = list_any (λ other. is_same_location at other) (locations_in_order t) ≡ true

-- what `run` changes and keeps is among the locations of a thread program, and so are the flags of BY variables
pub record TellsCells (t : JudgedThread) : Type 0 where
  pub cells : (at : Location) → is_cell t.program at ≡ true → IsTold t at
  pub flags : (at : Location) → is_flag_of_by (bys_of t.program.reading) at.home at.global ≡ true → IsTold t at

-- a verdict is sound of a program: where it says local at a grain, the program is group independent there
abbrev pub IsSoundAt : UnitTree → Verdict → Type 0
IsSoundAt p v = (grain : ℕ) → v ≡ Local grain → IsIndependentAt p grain
