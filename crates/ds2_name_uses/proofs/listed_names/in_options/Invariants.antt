use Rattle.std.proofs.Common.{◌≡◌, drop}
use Rattle.ds2_name_uses.specs.ListedParts.{unknown_in_option}
use Rattle.ds2_name_uses.specs.ScopeTables.{tests_by}
use Rattle.ds2_names.specs.NameRules.{from_each}
use Rattle.ds2_scope.specs.Earliest.{earlier_of, earliest}
use Rattle.ds2_name_uses.proofs.listed_names.in_options.Given as goal

abbrev pub invariant-options : goal.invariant-options
invariant-options l = earlier_of l.found (earliest (from_each (unknown_in_option (tests_by l.scope)) (drop l.option-index l.options))) ≡ earliest (from_each (unknown_in_option (tests_by l.scope)) l.options)
