use Rattle.std.proofs.Common.{◌≡◌, ◌++◌, drop, map}
use Rattle.ds2_tree.specs.Lists.{all_spelled}
use Rattle.ds2_tree.specs.Units.{part_spelling}
use Rattle.ds2_tree.specs.UnitViews.{part_tree}
use Rattle.ds2_spelling.proofs.units.source_spelling.Given as goal

abbrev pub invariant-loop-part : goal.invariant-loop-part
invariant-loop-part l = l.out ++ all_spelled part_spelling (map part_tree (drop l.part-index l.part-items)) ≡ all_spelled part_spelling (map part_tree l.part-items)
