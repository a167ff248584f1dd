use Rattle.std.proofs.Common.{◌≡◌, take}
use Rattle.ds2_slots.proofs.objects.copy_objects.Given as goal

abbrev pub invariant-loop-object : goal.invariant-loop-object
invariant-loop-object l = l.list ≡ take l.object-index l.objects
