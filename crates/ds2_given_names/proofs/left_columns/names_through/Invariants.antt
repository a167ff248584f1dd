use Rattle.std.proofs.Common.{◌≡◌, ◌++◌, drop}
use Rattle.std.specs.Prelude.{filter}
use Rattle.ds2_names.specs.SourceUnit.{names_alone}
use Rattle.ds2_given_names.specs.OutputParts.{passes_lists}
use Rattle.ds2_given_names.proofs.left_columns.names_through.Given as goal

abbrev pub invariant-names : goal.invariant-names
invariant-names l = l.through ++ filter (passes_lists l.lists) (names_alone (drop l.n-index l.names)) ≡ filter (passes_lists l.lists) (names_alone l.names)
