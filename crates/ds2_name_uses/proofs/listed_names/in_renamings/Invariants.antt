use Rattle.std.proofs.Common.{◌≡◌, drop}
use Rattle.std.specs.Prelude.{map}
use Rattle.ds2_tree.specs.declared.units.Renaming.{Renaming}
use Rattle.ds2_name_uses.specs.ListedParts.{unknown_global}
use Rattle.ds2_name_uses.specs.ScopeTables.{tests_by}
use Rattle.ds2_names.specs.NameRules.{from_each}
use Rattle.ds2_scope.specs.Earliest.{earlier_of, earliest}
use Rattle.ds2_name_uses.proofs.listed_names.in_renamings.Given as goal

abbrev pub invariant-renamings : goal.invariant-renamings
invariant-renamings l = earlier_of l.found (earliest (from_each (unknown_global (tests_by l.scope)) (map (λ (r : Renaming). r.old) (drop l.r-index l.renamings)))) ≡ earliest (from_each (unknown_global (tests_by l.scope)) (map (λ (r : Renaming). r.old) l.renamings))
