use Rattle.std.proofs.Common.{◌≡◌, ◌||◌, ℕ, List, drop}
use Rattle.std.specs.Prelude.{nat_eq}
use Rattle.std.specs.Cmp.Lexicographic.{pointwise}
use Rattle.std.specs.HashSet.{contains}
use Rattle.ds2_meaning.specs.ProgramTree.{is_listed}
use Rattle.ds2_scope.specs.NameSets.{column_names}
use Rattle.ds2_scope.proofs.columns.column_set.Given as goal

abbrev pub invariant-columns : goal.invariant-columns
invariant-columns l =
    (name : List ℕ) → (contains (pointwise nat_eq) l.set name || is_listed (column_names (drop l.column-index l.columns)) name) ≡ is_listed (column_names l.columns) name
