-- Deeds by the numbers of the locations and methods that they are of.
use Rattle.std.specs.Prelude.{ℕ, List, [], ◌∷◌, ◌++◌, flat_map, Option, Some, None}
use Rattle.ds2_meaning.specs.Location.{Location}
use Rattle.ds2_locality.specs.Deeds.{MethodAt, Deed, Mention, MentionObject, Change, CallOf, WriteAt}
use Rattle.ds2_deeds.specs.declared.deed.NumberedDeed.{NumberedDeed}
use Rattle.ds2_deeds.specs.declared.deed.NumberedDeed.TheVariants as numbered
use Rattle.ds2_deeds.specs.declared.numbers.Numbers.{Numbers}
use Rattle.ds2_program_code.specs.PlacedProgram.{number_of_location}
use Rattle.ds2_deeds.specs.NamedLocations.{locations_named}
use Rattle.ds2_deeds.specs.NamedMethods.{methods_named, number_among_methods}

-- the locations and the methods of a program, in the order of their numbers
pub record ProgramNumbers : Type 0 where
  pub locations : List Location
  pub methods : List MethodAt

-- those that the code holds
abbrev pub numbers_of : Numbers → ProgramNumbers
numbers_of n = record { locations = locations_named n.locations.now; methods = methods_named n.methods.now }

-- a deed of what has a number; of what has none there is none
abbrev pub deed_if_numbered : (ℕ → NumberedDeed) → Option ℕ → List NumberedDeed
deed_if_numbered deed None = []
deed_if_numbered deed (Some number) = deed number ∷ []

-- a deed by numbers
abbrev pub numbered_deed : ProgramNumbers → Deed → List NumberedDeed
numbered_deed n (Mention at) = deed_if_numbered (λ k. numbered.Mention k) (number_of_location n.locations at)
numbered_deed n (MentionObject at) = deed_if_numbered (λ k. numbered.Mention k) (number_of_location n.locations at)
numbered_deed n (Change at) = deed_if_numbered (λ k. numbered.Change k) (number_of_location n.locations at)
numbered_deed n (CallOf m) = deed_if_numbered (λ k. numbered.Call k) (number_among_methods n.methods m)
numbered_deed n (WriteAt place) = numbered.Write place ∷ []

-- deeds by numbers
abbrev pub numbered_deeds : ProgramNumbers → List Deed → List NumberedDeed
numbered_deeds n deeds = flat_map (numbered_deed n) deeds

-- deeds by numbers, with further ones behind them
unfoldable pub with_deeds : ProgramNumbers → List Deed → List NumberedDeed → List NumberedDeed
with_deeds n more deeds = deeds ++ numbered_deeds n more
