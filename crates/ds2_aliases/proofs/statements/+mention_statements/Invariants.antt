use Rattle.std.proofs.Common.{◌≡◌, ◌++◌, drop}
use Rattle.ds2_tree.specs.StatementViews.{statements_of, whens_of}
use Rattle.ds2_names.specs.NameRules.{from_each}
use Rattle.ds2_names.specs.Uses.{statements_uses, when_uses}
use Rattle.ds2_calls.specs.UseParts.{else_if_uses}
use Rattle.ds2_aliases.specs.MentionParts.{flags_by_calls, mentions_in_uses}
use Rattle.ds2_aliases.proofs.statements.+mention_statements.Given as goal

abbrev pub invariant-push_others-others : goal.invariant-push_others-others
invariant-push_others-others l =
    l.found ++ from_each (λ x. mentions_in_uses (flags_by_calls l.calls) (else_if_uses (flags_by_calls l.calls) x)) (drop l.x-index l.others)
    ≡ l.fn.found ++ from_each (λ x. mentions_in_uses (flags_by_calls l.calls) (else_if_uses (flags_by_calls l.calls) x)) l.others

abbrev pub invariant-push_whens-whens : goal.invariant-push_whens-whens
invariant-push_whens-whens l =
    l.found ++ mentions_in_uses (flags_by_calls l.calls) (when_uses (flags_by_calls l.calls) (whens_of (drop l.when-index l.whens)))
    ≡ l.fn.found ++ mentions_in_uses (flags_by_calls l.calls) (when_uses (flags_by_calls l.calls) (whens_of l.whens))

abbrev pub invariant-push_statements-body : goal.invariant-push_statements-body
invariant-push_statements-body l =
    l.found ++ mentions_in_uses (flags_by_calls l.calls) (statements_uses (flags_by_calls l.calls) (statements_of (drop l.s-index l.body)))
    ≡ l.fn.found ++ mentions_in_uses (flags_by_calls l.calls) (statements_uses (flags_by_calls l.calls) (statements_of l.body))
