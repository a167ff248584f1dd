-- What the loads of a program over its tables set.
use Rattle.std.specs.Prelude.{ℕ, List, take, Option, None, Some}
use Rattle.ds2_code.specs.Desk.{SlotSettings}
use Rattle.ds2_loads.specs.LoadCursors.{cursor_left, cursor_groups}
use Rattle.ds2_loads.specs.declared.program_loads.ProgramLoads.{ProgramLoads}

-- at most so many of the first items, or all
abbrev pub at_most : {A : Type 0} → Option ℕ → List A → List A
at_most None xs = xs
at_most (Some n) xs = take n xs

-- what each load sets that is left: behind a group that was entered nothing is
abbrev pub program_left : ProgramLoads → List SlotSettings
program_left loads = at_most loads.most (cursor_left loads.at loads.cursor)

-- what each load of each group sets
abbrev pub program_groups : ProgramLoads → List (List SlotSettings)
program_groups loads = cursor_groups loads.at loads.cursor
