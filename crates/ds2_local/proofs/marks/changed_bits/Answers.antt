use Rattle.std.proofs.Common.{◌∙◌}
use Rattle.ds2_local.specs.MarkedLocations.{number_changed}
use Rattle.ds2_local.proofs.MarkLemmas.{all_changed, named_whole}
use Rattle.ds2_local.proofs.marks.changed_bits.Goals as goal

pub returns : goal.returns
returns c = named_whole number_changed c.args.deeds.now c.deeds.deed-index c.deeds.bits _ c.deeds-test.false c.deeds.invariant ∙ all_changed c.args.count c.args.deeds.now
