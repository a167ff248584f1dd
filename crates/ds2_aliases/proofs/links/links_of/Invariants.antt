use Rattle.std.proofs.Common.{◌≡◌, ◌||◌, ◌&&◌, not, ℕ, List, drop, nat_eq}
use Rattle.std.specs.Cmp.Lexicographic.{pointwise}
use Rattle.std.specs.HashSet.{contains}
use Rattle.ds2_meaning.specs.ProgramTree.{is_listed}
use Rattle.ds2_aliases.specs.MethodLinks.{linked, links_if_any}
use Rattle.ds2_aliases.specs.ReachingMethods.{part_named}
use Rattle.ds2_aliases.proofs.links.links_of.Given as goal

abbrev pub invariant-methods : goal.invariant-methods
invariant-methods l =
    (name method : List ℕ)
    → (is_listed (linked l.table name) method || (not (contains (pointwise nat_eq) l.seen method) && is_listed (links_if_any l.kind (part_named (drop l.m-index l.methods) method)) name))
    ≡ is_listed (links_if_any l.kind (part_named l.methods method)) name
