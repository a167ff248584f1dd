use Rattle.ds2_object.proofs.WalkLemmas.{LinksLeft}
use Rattle.ds2_object.proofs.linked.links_hold.Given as goal

abbrev pub invariant-programs : goal.invariant-programs
invariant-programs l = LinksLeft l.programs l.i l.made
