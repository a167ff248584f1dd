use Rattle.std.proofs.Common.{◌≡◌, ◌++◌, drop, nat_eq}
use Rattle.std.specs.Prelude.{map}
use Rattle.std.specs.Cmp.Lexicographic.{pointwise}
use Rattle.std.specs.HashSet.{contains}
use Rattle.ds2_tree.specs.UnitViews.{part_tree}
use Rattle.ds2_source.specs.InputTables.{source_inputs}
use Rattle.ds2_source.proofs.StoreTables.{stored_behind}
use Rattle.ds2_source.proofs.inputs.source_inputs.Given as goal

abbrev pub invariant-parts : goal.invariant-parts
invariant-parts l =
    l.first ++ stored_behind (contains (pointwise nat_eq) l.known) (map part_tree (drop l.part-index l.parts)) ≡ source_inputs (map part_tree l.parts)
