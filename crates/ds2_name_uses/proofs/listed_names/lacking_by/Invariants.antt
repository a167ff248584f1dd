use Rattle.std.proofs.Common.{◌≡◌, drop}
use Rattle.ds2_names.specs.NameRules.{from_each}
use Rattle.ds2_names.specs.SourceUnit.{columns_stored}
use Rattle.ds2_scope.specs.Earliest.{earlier_of, earliest}
use Rattle.ds2_name_uses.specs.ListedParts.{lacking_by}
use Rattle.ds2_name_uses.proofs.listed_names.lacking_by.Given as goal

abbrev pub invariant-inputs : goal.invariant-inputs
invariant-inputs l =
    earlier_of l.found (earliest (from_each (lacking_by (columns_stored l.tables) (drop l.input-index l.inputs)) l.bys)) ≡ earliest (from_each (lacking_by (columns_stored l.tables) l.inputs) l.bys)
