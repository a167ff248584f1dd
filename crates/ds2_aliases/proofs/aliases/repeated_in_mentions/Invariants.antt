use Rattle.std.proofs.Common.{◌≡◌, drop}
use Rattle.ds2_names.specs.NameRules.{from_each}
use Rattle.ds2_scope.specs.Earliest.{earlier_of, earliest}
use Rattle.ds2_aliases.specs.HandedGlobals.{repeated_in_mention}
use Rattle.ds2_aliases.proofs.aliases.repeated_in_mentions.Given as goal

abbrev pub invariant-mentions : goal.invariant-mentions
invariant-mentions l = earlier_of l.found (earliest (from_each repeated_in_mention (drop l.mention-index l.mentions))) ≡ earliest (from_each repeated_in_mention l.mentions)
