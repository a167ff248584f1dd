use Rattle.std.proofs.Common.{◌≡◌, ◌++◌, drop}
use Rattle.std.specs.Prelude.{nat_eq}
use Rattle.std.specs.Cmp.Lexicographic.{pointwise}
use Rattle.std.specs.HashSet.{contains}
use Rattle.ds2_scope.specs.NameSets.{stage_columns_by}
use Rattle.ds2_scope.proofs.columns.push_stage_columns.Given as goal

abbrev pub invariant-columns : goal.invariant-columns
invariant-columns l = l.names ++ stage_columns_by (contains (pointwise nat_eq) l.known) l.place (drop l.name-index l.columns) ≡ l.fn.names ++ stage_columns_by (contains (pointwise nat_eq) l.known) l.place l.columns
