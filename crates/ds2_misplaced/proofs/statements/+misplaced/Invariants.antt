use Rattle.std.proofs.Common.{◌≡◌, drop}
use Rattle.ds2_tree.specs.StatementViews.{statements_of, whens_of}
use Rattle.ds2_names.specs.NameRules.{from_each}
use Rattle.ds2_scope.specs.Earliest.{earlier_of, earliest}
use Rattle.ds2_misplaced.specs.MisplacedParts.{misplaced_within_all, misplaced_within_whens, misplaced_within_else_if}
use Rattle.ds2_misplaced.proofs.statements.+misplaced.Given as goal

abbrev pub invariant-within_others-others : goal.invariant-within_others-others
invariant-within_others-others l =
    earlier_of l.found (earliest (from_each (misplaced_within_else_if l.rule l.returns l.inside) (drop l.x-index l.others)))
    ≡ earliest (from_each (misplaced_within_else_if l.rule l.returns l.inside) l.others)

abbrev pub invariant-within_whens-whens : goal.invariant-within_whens-whens
invariant-within_whens-whens l =
    earlier_of l.found (earliest (misplaced_within_whens l.rule l.returns l.inside (whens_of (drop l.when-index l.whens))))
    ≡ earliest (misplaced_within_whens l.rule l.returns l.inside (whens_of l.whens))

abbrev pub invariant-within_all-body : goal.invariant-within_all-body
invariant-within_all-body l =
    earlier_of l.found (earliest (misplaced_within_all l.rule l.returns l.inside (statements_of (drop l.s-index l.body))))
    ≡ earliest (misplaced_within_all l.rule l.returns l.inside (statements_of l.body))
