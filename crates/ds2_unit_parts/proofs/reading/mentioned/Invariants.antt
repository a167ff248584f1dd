use Rattle.std.proofs.Common.{◌≡◌, drop}
use Rattle.ds2_names.specs.SourceLimits.{mentioned_table}
use Rattle.ds2_unit_parts.proofs.reading.mentioned.Given as goal

abbrev pub invariant-made : goal.invariant-made
invariant-made l = mentioned_table (drop l.t-index l.made) l.name ≡ mentioned_table l.made l.name
