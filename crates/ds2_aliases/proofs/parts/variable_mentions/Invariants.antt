use Rattle.std.proofs.Common.{◌≡◌, ◌++◌, drop}
use Rattle.ds2_aliases.specs.MentionParts.{variable_mentions}
use Rattle.ds2_aliases.proofs.parts.variable_mentions.Given as goal

abbrev pub invariant-variables : goal.invariant-variables
invariant-variables l = l.found ++ variable_mentions (drop l.variable-index l.variables) ≡ variable_mentions l.variables
