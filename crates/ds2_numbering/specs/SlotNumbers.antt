-- The numbers of slots by their locations.
use Rattle.std.specs.Prelude.{◌≡◌, ℕ, List, map}
use Rattle.std.specs.HashMap.{HashMap, get}
use Rattle.ds2_layout.specs.declared.slot.LayoutSlot.{LayoutSlot}
use Rattle.ds2_layout.specs.Layout.{location_of_slot}
use Rattle.ds2_program_code.specs.PlacedProgram.{number_of_location}
use Rattle.ds2_numbering.specs.declared.sought.Sought.{Sought}
use Rattle.ds2_numbering.specs.SoughtKeys.{is_one_sought}
use Rattle.ds2_numbering.specs.SoughtLocations.{location_sought}

-- each location has the number of the first slot that is for it
abbrev pub AreNumbered : {S : Type 0} → List LayoutSlot → HashMap Sought ℕ S → Type 0
AreNumbered slots numbers = (s : Sought) → get is_one_sought numbers s ≡ number_of_location (map location_of_slot slots) (location_sought s)
