use Rattle.std.proofs.Common.{◌≡◌, ◌++◌, length, map}
use Rattle.std.specs.List.{AllByRecursion}
use Rattle.ds2_tree.specs.UnitViews.{part_tree, source_tree}
use Rattle.ds2_verdicts.specs.ThreadVerdicts.{IsTyped, verdicts_on}
use Rattle.ds2_verdicts.proofs.verdicts.judge_threads.Given as goal

abbrev pub invariant-parts : goal.invariant-parts
invariant-parts l = (l.verdicts ++ verdicts_on (map part_tree l.rest) l.left ≡ verdicts_on (source_tree l.source) l.threads) × AllByRecursion IsTyped l.left

abbrev pub decreases-parts : goal.decreases-parts
decreases-parts l = length l.rest
