use Rattle.std.proofs.Common.{◌≡◌, ◌++◌, drop, nat_eq}
use Rattle.std.specs.Cmp.Lexicographic.{pointwise}
use Rattle.std.specs.HashSet.{contains}
use Rattle.ds2_names.specs.NameRules.{from_each}
use Rattle.ds2_aliases.specs.HandedGlobals.{handings_in}
use Rattle.ds2_aliases.proofs.handings.push_in_mentions.Given as goal

abbrev pub invariant-mentions : goal.invariant-mentions
invariant-mentions l =
    l.found ++ from_each (handings_in (contains (pointwise nat_eq) l.locals)) (drop l.mention-index l.mentions)
    ≡ l.fn.found ++ from_each (handings_in (contains (pointwise nat_eq) l.locals)) l.mentions
