use Rattle.std.proofs.Common.{◌≡◌, ◌||◌, ◌++◌, ℕ, List, drop, nat_eq}
use Rattle.std.specs.Cmp.Lexicographic.{pointwise}
use Rattle.std.specs.HashSet.{contains}
use Rattle.ds2_meaning.specs.ProgramTree.{is_listed}
use Rattle.ds2_names.specs.SourceUnit.{names_alone}
use Rattle.ds2_source.specs.InputTables.{first_not_known}
use Rattle.ds2_source.proofs.mentions.add_first_mentions.Given as goal

abbrev pub invariant-tables : goal.invariant-tables
invariant-tables l =
    ((name : List ℕ) → (is_listed (names_alone (drop l.table-index l.tables)) name || contains (pointwise nat_eq) l.known name) ≡ (is_listed (names_alone l.tables) name || contains (pointwise nat_eq) l.fn.known name))
    × (l.first ++ first_not_known (contains (pointwise nat_eq) l.known) (drop l.table-index l.tables) ≡ l.fn.first ++ first_not_known (contains (pointwise nat_eq) l.fn.known) l.tables)
