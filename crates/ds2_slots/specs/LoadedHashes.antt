-- What hash objects ask for that are loaded from tables.
use Rattle.std.specs.Prelude.{ℕ, IsTrue, List, [], get_or}
use Rattle.std.specs.List.{list_all}
use Rattle.ds2_value.specs.Row.{Row}
use Rattle.ds2_value.specs.Types.{in_bounds}
use Rattle.ds2_code.specs.declared.parts.Slot.{Slot}

-- the types of slots are in bounds
abbrev pub AreSlotTypesInBounds : List Slot → Type 0
AreSlotTypesInBounds slots = IsTrue (list_all (λ (s : Slot). in_bounds s.ty) slots)

-- the row of a number in the table of a number; one without values where there is none
abbrev pub row_in_table : List (List Row) → ℕ → ℕ → Row
row_in_table tables table row = get_or (get_or tables table []) row []
