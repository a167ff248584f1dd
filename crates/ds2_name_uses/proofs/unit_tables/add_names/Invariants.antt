use Rattle.std.proofs.Common.{◌≡◌, ◌||◌, ℕ, List, drop, nat_eq}
use Rattle.std.specs.Cmp.Lexicographic.{pointwise}
use Rattle.std.specs.HashSet.{contains}
use Rattle.ds2_names.specs.SourceUnit.{is_named}
use Rattle.ds2_name_uses.proofs.unit_tables.add_names.Given as goal

abbrev pub invariant-names : goal.invariant-names
invariant-names l =
    (name : List ℕ) → (contains (pointwise nat_eq) l.set name || is_named (drop l.n-index l.names) name) ≡ (contains (pointwise nat_eq) l.fn.set name || is_named l.names name)
