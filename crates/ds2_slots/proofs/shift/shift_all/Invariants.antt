use Rattle.std.proofs.Common.{◌≡◌, take}
use Rattle.ds2_code.specs.HashCalls.{all_shifted}
use Rattle.ds2_slots.specs.SlotHashes.{meaning_of_shift}
use Rattle.ds2_slots.proofs.shift.shift_all.Given as goal

abbrev pub invariant-loop-number : goal.invariant-loop-number
invariant-loop-number l = l.iterators ≡ all_shifted (meaning_of_shift l.shift) l.object (take l.number l.objects) l.initial.iterators
