use Rattle.std.proofs.Common.{◌≡◌, drop}
use Rattle.ds2_names.specs.NameRules.{from_each}
use Rattle.ds2_scope.specs.Earliest.{earlier_of, earliest}
use Rattle.ds2_aliases.specs.declared.parts.UnitParts.{UnitParts}
use Rattle.ds2_aliases.specs.HandedGlobals.{reached_place}
use Rattle.ds2_aliases.specs.ReachedNames.{AreLinks, HasReached}
use Rattle.ds2_aliases.proofs.aliases.reached_handing.Given as goal

abbrev pub invariant-handings : goal.invariant-handings
invariant-handings l =
    (unit : UnitParts) → AreLinks l.links unit
    → HasReached l.reached unit
    × (earlier_of l.found (earliest (from_each (reached_place unit) (drop l.h-index l.handings))) ≡ earliest (from_each (reached_place unit) l.handings))
