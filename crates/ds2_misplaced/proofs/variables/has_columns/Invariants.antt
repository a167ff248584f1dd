use Rattle.std.proofs.Common.{◌≡◌, drop, nat_eq}
use Rattle.std.specs.Cmp.Lexicographic.{pointwise}
use Rattle.std.specs.HashSet.{contains}
use Rattle.ds2_scope.specs.CodeUnits.{names_bracketed}
use Rattle.ds2_misplaced.specs.InstanceTests.{are_all}
use Rattle.ds2_misplaced.proofs.variables.has_columns.Given as goal

abbrev pub invariant-names : goal.invariant-names
invariant-names l = are_all (contains (pointwise nat_eq) l.columns) (names_bracketed (drop l.n-index l.names)) ≡ are_all (contains (pointwise nat_eq) l.columns) (names_bracketed l.names)
