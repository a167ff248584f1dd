use Rattle.std.proofs.Common.{◌≡◌, ◌||◌, ◌&&◌, ℕ, List, drop, bytes_eq}
use Rattle.ds2_meaning.specs.ProgramTree.{is_listed}
use Rattle.ds2_aliases.specs.MethodLinks.{linked}
use Rattle.ds2_aliases.proofs.links.link_all.Given as goal

abbrev pub invariant-names : goal.invariant-names
invariant-names l =
    (other m : List ℕ) → (is_listed (linked l.table other) m || (bytes_eq l.method m && is_listed (drop l.name-index l.names) other))
    ≡ (is_listed (linked l.fn.table other) m || (bytes_eq l.method m && is_listed l.names other))
