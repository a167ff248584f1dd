use Rattle.std.proofs.Common.{ap, sym, subst, ◌∙◌}
use Rattle.ds2_local.specs.CallParts.{number_at, CallsIfSome}
use Rattle.ds2_local.proofs.ReachLemmas.{joined_head, joined_next}
use Rattle.ds2_local.proofs.members.mark_joined.Goals as goal

pub returns-then-own-ne0 : goal.returns-then-own-ne0
returns-then-own-ne0 c = λ reached before.
    joined_head c.args.all.now c.args.marks.now c.put.new.numbers c.args.method c.head_mark-own.result c.head_mark-own.ensures c.put.ensures before

pub returns-then-reached-mark : goal.returns-then-reached-mark
returns-then-reached-mark c = λ reached before.
    let all = c.args.all.now in
    let method = c.args.method in
    joined_next all c.args.from.now c.args.marks.now c.put-then-reached-mark.new.numbers c.in-Some.called method c.number_at-mark.result (subst (λ o. CallsIfSome all method o) c.in-Some.is c.called_at.ensures)
    (c.number_at-mark.ensures ∙ ap (λ l. number_at l c.in-Some.called) c.as_slice-in-Some.ensures) (sym c.number_at-reached.ensures ∙ c.if-reached-mark.true) c.put-then-reached-mark.ensures reached before
