use Rattle.std.proofs.Common.{◌≡◌, ◌++◌, drop}
use Rattle.ds2_names.specs.NameRules.{from_each}
use Rattle.ds2_aliases.specs.MethodLinks.{linked}
use Rattle.ds2_aliases.proofs.reach.linked_to.Given as goal

abbrev pub invariant-names : goal.invariant-names
invariant-names l = l.found ++ from_each (linked l.table) (drop l.name-index l.names) ≡ from_each (linked l.table) l.names
