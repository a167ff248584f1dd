use Rattle.std.proofs.Common.{◌≡◌, drop}
use Rattle.std.specs.List.{list_any}
use Rattle.ds2_local.specs.SettledEffects.{waits_for}
use Rattle.ds2_local.proofs.settled.waits.Given as goal

abbrev pub invariant-deeds : goal.invariant-deeds
invariant-deeds l = list_any (waits_for l.settled) (drop l.deed-index l.deeds) ≡ list_any (waits_for l.settled) l.deeds
