use Rattle.std.proofs.Common.{◌≡◌, ◌++◌, drop, nat_eq}
use Rattle.std.specs.Cmp.Lexicographic.{pointwise}
use Rattle.std.specs.HashSet.{contains}
use Rattle.ds2_names.specs.NameRules.{from_each}
use Rattle.ds2_aliases.specs.ReachingMethods.{unhidden_object}
use Rattle.ds2_aliases.proofs.links.unhidden_objects.Given as goal

abbrev pub invariant-mentions : goal.invariant-mentions
invariant-mentions l =
    l.names ++ from_each (unhidden_object (contains (pointwise nat_eq) l.locals)) (drop l.mention-index l.mentions) ≡ from_each (unhidden_object (contains (pointwise nat_eq) l.locals)) l.mentions
