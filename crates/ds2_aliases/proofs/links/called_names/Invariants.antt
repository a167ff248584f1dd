use Rattle.std.proofs.Common.{◌≡◌, ◌++◌, drop}
use Rattle.ds2_names.specs.NameRules.{from_each}
use Rattle.ds2_aliases.specs.ReachingMethods.{called_in}
use Rattle.ds2_aliases.proofs.links.called_names.Given as goal

abbrev pub invariant-mentions : goal.invariant-mentions
invariant-mentions l = l.names ++ from_each called_in (drop l.mention-index l.mentions) ≡ from_each called_in l.mentions
