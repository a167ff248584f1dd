use Rattle.std.proofs.Common.{sym, ap, subst, ◌∙◌}
use Rattle.ds2_tree.specs.UnitViews.{thread_tree}
use Rattle.ds2_meaning.specs.declared.units.TypedThread.{TypedThread}
use Rattle.ds2_verdicts.specs.ThreadVerdicts.{IsTyped, verdict_on_typed}
use Rattle.ds2_verdicts.proofs.Judged.{first_of, next_judged}
use Rattle.ds2_verdicts.proofs.verdicts.judge_next.Goals as goal

pub verdict_on-requires : goal.verdict_on-requires
verdict_on-requires c = subst (λ (t : TypedThread). IsTyped t) (sym c.get.ensures) (first_of IsTyped _ c.thread-item.result c.in-len1-up.len_at_least c.thread-item.is c.requires)

pub returns-in_ok-push-clause-tells : goal.returns-in_ok-push-clause-tells
returns-in_ok-push-clause-tells c =
    next_judged (thread_tree c.args.unit.now) c.args.threads.now c.thread-item.result c.in-len1-up.len_at_least c.thread-item.is c.args.verdicts.now c.push.new.self c.in_ok-verdict_on.field-0
    (c.in_ok-verdict_on.ensures ∙ ap (λ (t : TypedThread). verdict_on_typed (thread_tree c.args.unit.now) t) c.get.ensures) c.in_ok-push.ensures.ok
