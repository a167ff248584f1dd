use Rattle.std.proofs.Common.{◌≡◌, ℕ, List, drop}
use Rattle.std.specs.Prelude.{◌||◌}
use Rattle.std.specs.HashSet.{contains_text}
use Rattle.ds2_meaning.specs.ProgramTree.{is_listed}
use Rattle.ds2_layout.proofs.names.add_names.Given as goal

abbrev pub invariant-names : goal.invariant-names
invariant-names l = (other : List ℕ) → (is_listed (drop l.name-index l.names) other || contains_text l.set other) ≡ (is_listed l.names other || contains_text l.fn.set other)
