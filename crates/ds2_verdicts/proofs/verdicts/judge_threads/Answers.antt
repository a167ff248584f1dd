use Rattle.std.proofs.Common.{List, ◌++◌, drop, length, map, sym, take, ap, ◌-◌, ◌∙◌}
use Rattle.ds2_tree.specs.Units.{SourcePart}
use Rattle.ds2_tree.specs.UnitViews.{part_tree}
use Rattle.ds2_verdicts.specs.ThreadVerdicts.{verdicts_on}
use Rattle.ds2_verdicts.proofs.Judged.{parts_by_first}
use Rattle.ds2_verdicts.proofs.verdicts.judge_threads.Goals as goal

pub judge_part-requires : goal.judge_part-requires
judge_part-requires c = c.parts.invariant.1

pub parts-preserved : goal.parts-preserved
parts-preserved c =
    let first = parts_by_first c.parts.rest.now c.part-item.result c.in-len1-up.len_at_least c.part-item.is in (
      c.in_ok-left.ensures.tells (map part_tree (take (length c.parts.rest.now - 1) (drop 1 c.parts.rest.now)))
          ∙ ap (λ (ps : List SourcePart). c.parts.verdicts ++ verdicts_on ps c.parts.left.now) (sym first) ∙ c.parts.invariant.0,
      c.in_ok-left.ensures.typed,
    )
