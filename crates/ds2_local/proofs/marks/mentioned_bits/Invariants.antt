use Rattle.std.proofs.Common.{◌≡◌, false, drop}
use Rattle.std.specs.Prelude.{replicate}
use Rattle.ds2_local.specs.MarkedLocations.{number_mentioned}
use Rattle.ds2_local.proofs.MarkLemmas.{with_named}
use Rattle.ds2_local.proofs.marks.mentioned_bits.Given as goal

abbrev pub invariant-deeds : goal.invariant-deeds
invariant-deeds l = with_named number_mentioned l.bits (drop l.deed-index l.deeds) ≡ with_named number_mentioned (replicate l.count false) l.deeds
