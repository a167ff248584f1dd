-- Where the loads of a program come from, one after the other.
use Rattle.std.specs.Prelude.{◌≡◌, Bool, true, false, List, [], ◌∷◌}
use Rattle.ds2_code.specs.Desk.{SlotSettings}

-- a source that has gone on stands at the first of the loads that were left, and those behind it are left now; it has not where none was
-- left
abbrev pub IsNextLoad : Bool → List SlotSettings → SlotSettings → List SlotSettings → Type 0
IsNextLoad true before load after = before ≡ load ∷ after
IsNextLoad false before load after = before ≡ []
