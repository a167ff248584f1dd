use Rattle.std.proofs.Common.{◌+◌, ◌++◌, List, drop, nat_eq, ap, sym, ◌∙◌, arith}
use Rattle.std.proofs.lemmas.Grind.{common_steps}
use Rattle.std.specs.Prelude.{map}
use Rattle.std.specs.Cmp.Lexicographic.{pointwise}
use Rattle.std.specs.HashSet.{contains}
use Rattle.ds2_tree.specs.UnitViews.{part_tree}
use Rattle.ds2_tree.specs.declared.units.SourcePart.{SourcePart}
use Rattle.ds2_scope.proofs.SetLemmas.{item_first}
use Rattle.ds2_source.proofs.StoreTables.{stored_behind, none_known, one_part}
use Rattle.ds2_source.proofs.inputs.source_inputs.Goals as goal

pub parts-init : goal.parts-init
parts-init c =
    let k = none_known (contains (pointwise nat_eq) c.new-known.result) (λ name. grind (arith, common_steps)) (map part_tree c.args.parts.now) in
    grind (arith, common_steps, k)

pub parts-preserved : goal.parts-preserved
parts-preserved c =
    let split = item_first c.args.parts.now c.parts.part-index c.part-item.result c.part-item.is (omega arith) in
    let before = contains (pointwise nat_eq) c.parts.known in
    one_part before (contains (pointwise nat_eq) c.add_part.new.known) c.parts.first c.add_part.new.first (part_tree c.part-item.result) (map part_tree (drop (c.parts.part-index + 1) c.args.parts.now))
    c.in_ok-add_part.ensures.known c.in_ok-add_part.ensures.first
    ∙ ap (λ (ps : List SourcePart). c.parts.first ++ stored_behind before (map part_tree ps)) (sym split)
    ∙ c.parts.invariant
