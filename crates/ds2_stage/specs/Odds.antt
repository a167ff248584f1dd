-- When a test of the book may fail.
use Rattle.std.specs.Prelude.{◌≡◌, ◌≢◌, ℕ, ◌^◌}
use Rattle.ds2_stage.specs.declared.desk.Odd.{Odd}
use Rattle.ds2_stage.specs.declared.desk.Odd.TheVariants.{Groups, Full}

-- The book has another number of groups than the worker's job, or as many hand-ins as it takes.
abbrev pub IsOdd : ℕ → Odd → Type 0
IsOdd groups (Groups kept found) = (kept ≡ groups) × (kept ≢ found)
IsOdd groups (Full hand_ins) = hand_ins ≡ 2 ^ 32
