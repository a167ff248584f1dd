use Rattle.std.proofs.Common.{◌≡◌, ℕ, List, drop}
use Rattle.std.specs.Prelude.{◌||◌}
use Rattle.std.specs.HashSet.{contains_text}
use Rattle.ds2_value.specs.Schema.{has_column}
use Rattle.ds2_layout.proofs.names.add_columns.Given as goal

abbrev pub invariant-columns : goal.invariant-columns
invariant-columns l = (other : List ℕ) → (has_column other (drop l.column-index l.columns) || contains_text l.set other) ≡ (has_column other l.columns || contains_text l.fn.set other)
