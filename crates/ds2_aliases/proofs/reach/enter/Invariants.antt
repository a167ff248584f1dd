use Rattle.std.proofs.Common.{◌≡◌, ◌||◌, ◌&&◌, not, ℕ, List, drop, nat_eq}
use Rattle.std.specs.Cmp.Lexicographic.{pointwise}
use Rattle.std.specs.HashSet.{contains}
use Rattle.ds2_meaning.specs.ProgramTree.{is_listed}
use Rattle.ds2_aliases.proofs.reach.enter.Given as goal

abbrev pub invariant-names : goal.invariant-names
invariant-names l =
    ((other : List ℕ) → (contains (pointwise nat_eq) l.set other || is_listed (drop l.name-index l.names) other) ≡ (contains (pointwise nat_eq) l.fn.set other || is_listed l.names other))
    × ((other : List ℕ) → (is_listed l.added other || (not (contains (pointwise nat_eq) l.set other) && is_listed (drop l.name-index l.names) other))
    ≡ (not (contains (pointwise nat_eq) l.fn.set other) && is_listed l.names other))
