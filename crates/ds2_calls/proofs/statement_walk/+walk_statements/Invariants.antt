use Rattle.std.proofs.Common.{◌≡◌, drop}
use Rattle.ds2_tree.specs.StatementViews.{statements_of, whens_of}
use Rattle.ds2_names.specs.NameRules.{from_each}
use Rattle.ds2_names.specs.Uses.{statements_uses, when_uses}
use Rattle.ds2_scope.specs.Earliest.{earlier_of, earliest}
use Rattle.ds2_calls.specs.UseParts.{earliest_use, else_if_uses}
use Rattle.ds2_calls.proofs.statement_walk.+walk_statements.Given as goal

abbrev pub invariant-in_others-others : goal.invariant-in_others-others
invariant-in_others-others g l =
    earlier_of l.found (earliest (from_each (λ x. from_each (g.R.UseRule.places l.rule) (else_if_uses (g.R.UseRule.flags l.rule) x)) (drop l.x-index l.others)))
    ≡ earliest (from_each (λ x. from_each (g.R.UseRule.places l.rule) (else_if_uses (g.R.UseRule.flags l.rule) x)) l.others)

abbrev pub invariant-in_whens-whens : goal.invariant-in_whens-whens
invariant-in_whens-whens g l =
    earlier_of l.found (earliest_use (g.R.UseRule.places l.rule) (when_uses (g.R.UseRule.flags l.rule) (whens_of (drop l.when-index l.whens))))
    ≡ earliest_use (g.R.UseRule.places l.rule) (when_uses (g.R.UseRule.flags l.rule) (whens_of l.whens))

abbrev pub invariant-in_statements-body : goal.invariant-in_statements-body
invariant-in_statements-body g l =
    earlier_of l.found (earliest_use (g.R.UseRule.places l.rule) (statements_uses (g.R.UseRule.flags l.rule) (statements_of (drop l.s-index l.body))))
    ≡ earliest_use (g.R.UseRule.places l.rule) (statements_uses (g.R.UseRule.flags l.rule) (statements_of l.body))
