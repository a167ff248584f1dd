use Rattle.std.proofs.Common.{◌≡◌, false, drop}
use Rattle.std.specs.Prelude.{replicate}
use Rattle.ds2_local.specs.MarkedLocations.{number_changed}
use Rattle.ds2_local.proofs.MarkLemmas.{with_named}
use Rattle.ds2_local.proofs.marks.changed_bits.Given as goal

abbrev pub invariant-deeds : goal.invariant-deeds
invariant-deeds l = with_named number_changed l.bits (drop l.deed-index l.deeds) ≡ with_named number_changed (replicate l.count false) l.deeds
