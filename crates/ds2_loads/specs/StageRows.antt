-- The rows of a thread program as loads of the program that reads from it.
use Rattle.std.specs.Prelude.{ℕ, List, [], ◌∷◌, map}
use Rattle.ds2_code.specs.declared.parts.Slot.{Slot}
use Rattle.ds2_code.specs.CodeUnit.{row_slot_settings}
use Rattle.ds2_code.specs.Desk.{SlotSettings}
use Rattle.ds2_machine.specs.declared.record.OutRow.{OutRow}

-- rows that were written, as loads of the program that reads from a thread program
abbrev pub rows_as_loads : List Slot → List ℕ → List OutRow → List SlotSettings
rows_as_loads slots into rows = map (λ (r : OutRow). row_slot_settings slots into r.row) rows

-- likewise, each row a group
abbrev pub rows_apart : List Slot → List ℕ → List OutRow → List (List SlotSettings)
rows_apart slots into rows = map (λ (r : OutRow). row_slot_settings slots into r.row ∷ []) rows
