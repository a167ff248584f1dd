use Rattle.std.proofs.Common.{◌≡◌, ◌++◌}
use Rattle.ds2_hash.proofs.object.HashObject.copy.Given as goal

abbrev pub invariant-items : goal.invariant-items
invariant-items l = l.items.entries ++ l.key-iterator ≡ l.self
