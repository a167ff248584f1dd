use Rattle.std.proofs.Common.{◌≡◌, ◌++◌, drop}
use Rattle.ds2_names.specs.NameRules.{from_each}
use Rattle.ds2_aliases.specs.HandedGlobals.{handings_of_method}
use Rattle.ds2_aliases.proofs.handings.handings_of.Given as goal

abbrev pub invariant-methods : goal.invariant-methods
invariant-methods l = l.found ++ from_each handings_of_method (drop l.m-index l.methods) ≡ from_each handings_of_method l.methods
