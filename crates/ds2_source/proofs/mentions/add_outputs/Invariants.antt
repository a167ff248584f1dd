use Rattle.std.proofs.Common.{◌≡◌, ◌||◌, ℕ, List, drop, nat_eq}
use Rattle.std.specs.Cmp.Lexicographic.{pointwise}
use Rattle.std.specs.HashSet.{contains}
use Rattle.ds2_meaning.specs.ProgramTree.{is_listed}
use Rattle.ds2_source.specs.InputTables.{names_made_by_outputs}
use Rattle.ds2_source.proofs.mentions.add_outputs.Given as goal

abbrev pub invariant-outputs : goal.invariant-outputs
invariant-outputs l =
    (name : List ℕ) → (is_listed (names_made_by_outputs (drop l.o-index l.outputs)) name || contains (pointwise nat_eq) l.known name) ≡ (is_listed (names_made_by_outputs l.outputs) name || contains (pointwise nat_eq) l.fn.known name)
