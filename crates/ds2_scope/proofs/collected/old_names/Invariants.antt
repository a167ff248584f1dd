use Rattle.std.proofs.Common.{◌≡◌, ◌++◌, drop}
use Rattle.std.specs.Prelude.{map}
use Rattle.ds2_scope.specs.Collected.{old_name}
use Rattle.ds2_scope.proofs.collected.old_names.Given as goal

abbrev pub invariant-renamings : goal.invariant-renamings
invariant-renamings l = l.names ++ map old_name (drop l.r-index l.renamings) ≡ map old_name l.renamings
