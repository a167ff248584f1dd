use Rattle.std.proofs.Common.{◌≡◌, ◌+◌, ◌==◌, length}
use Rattle.std.specs.List.{position_or_len}
use Rattle.ds2_reading.proofs.columns.column_of_slot.Given as goal

abbrev pub invariant-slots : goal.invariant-slots
invariant-slots l =
    (l.column + length l.rest ≡ length l.slots)
    × (l.column + position_or_len (λ n. n == l.slot) l.rest ≡ position_or_len (λ n. n == l.slot) l.slots)

abbrev pub decreases-slots : goal.decreases-slots
decreases-slots l = length l.rest
