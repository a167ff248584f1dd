use Rattle.std.proofs.Common.{ℕ, ◌≡◌, ◌<◌, length}
use Rattle.std.specs.Prelude.{get_or}
use Rattle.ds2_reading.specs.Numbers.{common_of_numbers}
use Rattle.ds2_reading.proofs.sorted_rows.commons.Given as goal

abbrev pub invariant-places : goal.invariant-places
invariant-places l =
    (length l.commons ≡ l.place) × ((k : ℕ) → k < l.place → get_or l.commons k 0 ≡ common_of_numbers l.inputs l.numbers k)
