use Rattle.ds2_aliases.specs.declared.parts.UnitParts.{UnitParts}
use Rattle.ds2_aliases.specs.ReachedNames.{AreLinks}
use Rattle.ds2_aliases.proofs.ReachLemmas.{IsLayer}
use Rattle.ds2_aliases.proofs.reach.reaching.Given as goal

abbrev pub invariant-layers : goal.invariant-layers
invariant-layers l = (unit : UnitParts) → AreLinks l.links unit → IsLayer unit l.name l._layer l.reached l.next
