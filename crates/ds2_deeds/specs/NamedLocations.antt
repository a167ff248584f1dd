-- Locations as the code of the checker names them, and their numbers.
use Rattle.std.specs.List.{list_any}
use Rattle.std.specs.Prelude.{◌≡◌, ℕ, if◌then◌else◌, List, [], ◌∷◌, ◌++◌, fold, map, slice_get, Some, None}
use Rattle.ds2_meaning.specs.declared.location.Global.{Global}
use Rattle.ds2_meaning.specs.declared.location.Global.TheVariants as global
use Rattle.ds2_meaning.specs.Location.{Home, Location, is_same_location}
use Rattle.ds2_program_code.specs.PlacedProgram.{number_of_location}
use Rattle.ds2_deeds.specs.declared.location.CodeHome.{CodeHome}
use Rattle.ds2_deeds.specs.declared.location.CodeHome.TheVariants as code_home_is
use Rattle.ds2_deeds.specs.declared.location.GlobalName.{GlobalName}
use Rattle.ds2_deeds.specs.declared.location.GlobalName.TheVariants as named
use Rattle.ds2_deeds.specs.declared.location.LocationName.{LocationName}

-- whose code it is
abbrev pub code_home : CodeHome → Home
code_home code_home_is.Program = None
code_home (code_home_is.Instance name) = Some name.now

-- the global of a sort and a name
abbrev pub global_named : GlobalName → Global
global_named (named.Named name) = global.Named name.now
global_named (named.First name) = global.First name.now
global_named (named.Last name) = global.Last name.now
global_named (named.Present name) = global.Present name.now
global_named (named.Parameter name) = global.Parameter name.now

-- the location that is named
abbrev pub location_named : LocationName → Location
location_named l = record { home = code_home l.home; global = global_named l.global }

-- the locations that are named, in order
abbrev pub locations_named : List LocationName → List Location
locations_named names = map location_named names

-- one more location, where it is not there
abbrev pub with_location : List Location → Location → List Location
with_location locations at = if list_any (is_same_location at) locations then locations else locations ++ at ∷ []

-- further locations, in order
abbrev pub with_locations : List Location → List Location → List Location
with_locations locations more = fold with_location locations more

-- each location once, where it stands first
abbrev pub told_once : List Location → List Location
told_once locations = with_locations [] locations

-- each location has the number of its place
abbrev pub AreDistinct : List Location → Type 0
AreDistinct locations = (n : ℕ) (at : Location) → slice_get locations n ≡ Some at → number_of_location locations at ≡ Some n
