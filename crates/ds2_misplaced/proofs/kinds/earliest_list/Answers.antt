use Rattle.std.proofs.Common.{◌+◌, drop, ap, ◌∙◌, sym, arith}
use Rattle.std.proofs.lemmas.Grind.{common_steps}
use Rattle.std.specs.Prelude.{map}
use Rattle.ds2_tree.specs.UnitViews.{global_tree}
use Rattle.ds2_names.specs.UnitRules.{list_keywords}
use Rattle.ds2_scope.specs.Earliest.{earlier_of, earliest}
use Rattle.ds2_misplaced.specs.MisplacedParts.{list_keyword_in}
use Rattle.ds2_misplaced.proofs.MisplacedLemmas.{list_item}
use Rattle.ds2_scope.proofs.StatementRows.{one_more_list}
use Rattle.ds2_misplaced.proofs.kinds.earliest_list.Goals as goal

pub globals-preserved : goal.globals-preserved
globals-preserved c =
    let g = global_tree c.global-item.result in
    let rest = map global_tree (drop (c.globals.global-index + 1) c.args.globals.now) in
    let k = one_more_list c.globals.found (list_keyword_in g) (list_keywords rest) ∙ ap (λ ps. earlier_of c.globals.found (earliest ps)) (sym (list_item g rest)) in
    grind (arith, common_steps, k, c.globals.invariant)
