use Rattle.std.proofs.Common.{◌≡◌, ◌||◌, ℕ, List, drop}
use Rattle.std.specs.Prelude.{nat_eq}
use Rattle.std.specs.Cmp.Lexicographic.{pointwise}
use Rattle.std.specs.HashSet.{contains}
use Rattle.ds2_meaning.specs.ProgramTree.{is_listed}
use Rattle.ds2_names.specs.SourceUnit.{names_alone}
use Rattle.ds2_scope.proofs.columns.name_set.Given as goal

abbrev pub invariant-names : goal.invariant-names
invariant-names l = (name : List ℕ) → (contains (pointwise nat_eq) l.set name || is_listed (names_alone (drop l.n-index l.names)) name) ≡ is_listed (names_alone l.names) name
