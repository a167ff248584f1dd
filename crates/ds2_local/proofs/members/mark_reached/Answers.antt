use Rattle.std.proofs.Common.{ap, subst, ◌∙◌}
use Rattle.ds2_local.specs.CallParts.{number_at, CallsIfSome}
use Rattle.ds2_local.proofs.ReachLemmas.{reached_head, reached_next}
use Rattle.ds2_local.proofs.members.mark_reached.Goals as goal

pub returns-then-own-ne0 : goal.returns-then-own-ne0
returns-then-own-ne0 c = λ before.
    reached_head c.args.all.now c.args.marks.now c.put.new.numbers c.args.method c.head_mark-own.result c.head_mark-own.ensures c.put.ensures before

pub returns-in-Some : goal.returns-in-Some
returns-in-Some c = λ before.
    let all = c.args.all.now in
    let caller = c.number_at-caller.result in
    reached_next all c.args.marks.now c.put-in-Some.new.numbers caller c.in-Some.called c.number_at-mark.result (subst (λ o. CallsIfSome all caller o) c.in-Some.is c.called_at.ensures)
    (c.number_at-mark.ensures ∙ ap (λ l. number_at l caller) c.as_slice-in-Some.ensures) c.put-in-Some.ensures before
