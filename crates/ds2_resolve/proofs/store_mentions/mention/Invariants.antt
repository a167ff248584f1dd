use Rattle.std.proofs.Common.{◌≡◌, ◌||◌, ◌++◌, ℕ, List, drop, nat_eq}
use Rattle.std.specs.Cmp.Lexicographic.{pointwise}
use Rattle.std.specs.HashSet.{contains}
use Rattle.ds2_meaning.specs.ProgramTree.{is_listed}
use Rattle.ds2_names.specs.SourceUnit.{names_alone}
use Rattle.ds2_resolve.specs.StoreMentions.{first_by}
use Rattle.ds2_resolve.proofs.store_mentions.mention.Given as goal

abbrev pub invariant-tables : goal.invariant-tables
invariant-tables l =
    ((name : List ℕ) → contains (pointwise nat_eq) l.mentioned name ≡ (is_listed (names_alone l.first) name || contains (pointwise nat_eq) l.fn.mentioned name))
    × (l.first ++ first_by (contains (pointwise nat_eq) l.mentioned) (drop l.table-index l.tables) ≡ first_by (contains (pointwise nat_eq) l.fn.mentioned) l.tables)
