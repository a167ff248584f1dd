use Rattle.std.proofs.Common.{◌≡◌, drop}
use Rattle.ds2_local.specs.CallParts.{all_lead_below}
use Rattle.ds2_local.proofs.cycles.all_lead_below.Given as goal

abbrev pub invariant-deeds : goal.invariant-deeds
invariant-deeds l = all_lead_below l.parts l.bound (drop l.deed-index l.deeds) ≡ all_lead_below l.parts l.bound l.deeds
