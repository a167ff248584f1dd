use Rattle.std.proofs.Common.{◌≡◌, ◌++◌, drop}
use Rattle.ds2_given_names.proofs.repetitions.push_copies.Given as goal

abbrev pub invariant-names : goal.invariant-names
invariant-names l = l.all ++ drop l.n-index l.names ≡ l.fn.all ++ l.names
