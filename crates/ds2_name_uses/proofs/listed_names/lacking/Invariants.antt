use Rattle.std.proofs.Common.{◌≡◌, drop}
use Rattle.ds2_name_uses.specs.ListedParts.{lacking_column}
use Rattle.ds2_names.specs.NameRules.{from_each}
use Rattle.ds2_scope.specs.Earliest.{earlier_of, earliest}
use Rattle.ds2_name_uses.proofs.listed_names.lacking.Given as goal

abbrev pub invariant-bys : goal.invariant-bys
invariant-bys l = earlier_of l.found (earliest (from_each (lacking_column l.columns) (drop l.b-index l.bys))) ≡ earliest (from_each (lacking_column l.columns) l.bys)
