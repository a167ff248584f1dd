use Rattle.std.proofs.Common.{◌≡◌, drop}
use Rattle.ds2_name_uses.specs.ListedParts.{unknown_global}
use Rattle.ds2_name_uses.specs.ScopeTables.{tests_by}
use Rattle.ds2_names.specs.NameRules.{from_each}
use Rattle.ds2_scope.specs.Earliest.{earlier_of, earliest}
use Rattle.ds2_name_uses.proofs.listed_names.in_tokens.Given as goal

abbrev pub invariant-names : goal.invariant-names
invariant-names l = earlier_of l.found (earliest (from_each (unknown_global (tests_by l.scope)) (drop l.name-index l.names))) ≡ earliest (from_each (unknown_global (tests_by l.scope)) l.names)
