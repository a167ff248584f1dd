use Rattle.std.proofs.Common.{◌≡◌, ◌++◌, drop, nat_eq}
use Rattle.std.specs.Cmp.Lexicographic.{pointwise}
use Rattle.std.specs.HashSet.{contains}
use Rattle.ds2_names.specs.NameRules.{from_each}
use Rattle.ds2_aliases.specs.HandedGlobals.{unhidden_handing}
use Rattle.ds2_aliases.proofs.handings.push_handings.Given as goal

abbrev pub invariant-handed : goal.invariant-handed
invariant-handed l =
    l.found ++ from_each (unhidden_handing (contains (pointwise nat_eq) l.locals) l.method) (drop l.n-index l.handed)
    ≡ l.fn.found ++ from_each (unhidden_handing (contains (pointwise nat_eq) l.locals) l.method) l.handed
