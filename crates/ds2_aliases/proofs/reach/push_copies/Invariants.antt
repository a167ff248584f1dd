use Rattle.std.proofs.Common.{◌≡◌, ◌++◌, drop}
use Rattle.ds2_aliases.proofs.reach.push_copies.Given as goal

abbrev pub invariant-names : goal.invariant-names
invariant-names l = l.found ++ drop l.name-index l.names ≡ l.fn.found ++ l.names
