use Rattle.std.proofs.Common.{◌≡◌, ◌<◌, ℕ, length, ap, ◌∙◌, sym, subst, arith, None, vec_len}
use Rattle.std.specs.Prelude.{slice_index_or}
use Rattle.ds2_schedule.specs.Runs.{run_length, once_below}
use Rattle.ds2_bags.specs.Endings.{ended_by_fault}
use Rattle.ds2_bags.specs.Rest.{HasRunRest}
use Rattle.ds2_bags.specs.StageEnds.{IsStageEnd}
use Rattle.ds2_stage.specs.Ended.{ComesOfHistory}
use Rattle.ds2_stage.proofs.Drawn.{may_draw_joined}
use Rattle.ds2_stage.proofs.Ended.{ended_by_bags, once_by_bags, history_by_bags}
use Rattle.ds2_stage.proofs.concluding.conclude.Goals as goal

pub draw_rest-requires-clause-may : goal.draw_rest-requires-clause-may
draw_rest-requires-clause-may g c = may_draw_joined c.args.shared.now.tickets c.in_ok-passes.field-0.passes _ c.gather-seat.ensures.seat

pub returns-clause-ended : goal.returns-clause-ended
returns-clause-ended g c =
    let answer = g.J.Answers.answer c.args.job.now in
    let t = c.args.shared.now.tickets in
    let len : vec_len c.args.brought.bags ≡ length c.args.brought.bags.items = omega arith in
    let P : ℕ → Type 0 = λ m. HasRunRest answer (λ k. slice_index_or c.in_ok-placed.placed k None) m c.in_ok-end.field-0.ran in
    ended_by_bags c.runs_are_least.ensures c.ended_is_complete.ensures c.ended_is_carried.ensures (λ b. b.pass) (λ b. b.dones) (λ d. record { group = d.group; rows = length d.end.rows; faulted = ended_by_fault d.end.ending }) (λ b. record { short = b.short; odd = b.odd; stop = b.stop })
    c.args.brought.bags.items answer t c.in_ok-passes.field-0.passes c.in_ok-placed.placed c.in_ok-passes.field-0.dones c.in_ok-end.field-0.ran _ _ t.long t.all (c.requires.cut ∙ ap (run_length t.groups) len) (c.in_ok-passes.ensures.len ∙ len) (λ k b low. (c.requires.bags k b low).0) c.in_ok-passes.ensures.numbers
    c.gather-seat.ensures.seat c.draw_rest.ensures (λ k low. c.in_ok-placed.ensures.each k (subst (λ (m : ℕ). k < m) (sym c.requires.groups) low)) c.in_ok-passes.ensures.named (subst P c.requires.groups c.in_ok-end.ensures.ran)

pub returns-clause-whole : goal.returns-clause-whole
returns-clause-whole g c = λ full k.
    let answer = g.J.Answers.answer c.args.job.now in
    let t = c.args.shared.now.tickets in
    let len : vec_len c.args.brought.bags ≡ length c.args.brought.bags.items = omega arith in
    let some : 0 < length c.args.brought.bags.items = omega (arith, c.requires.some.0) in
    once_by_bags c.whole_bags_have_all.ensures (λ b. b.pass) (λ b. b.dones) (λ d. record { group = d.group; rows = length d.end.rows; faulted = ended_by_fault d.end.ending }) (λ b. record { short = b.short; odd = b.odd; stop = b.stop })
    c.args.brought.bags.items answer t _ _ some t.all (c.requires.cut ∙ ap (run_length t.groups) len) (λ i b low. (c.requires.bags i b low).0) (returns-clause-ended g c) full k
    ∙ ap (once_below k) (sym c.requires.groups)

pub returns-clause-history : goal.returns-clause-history
returns-clause-history g c =
    let answer = g.J.Answers.answer c.args.job.now in
    let t = c.args.shared.now.tickets in
    let len : length c.args.brought.bags.items ≡ vec_len c.args.brought.bags = omega arith in
    let same : IsStageEnd answer t.groups c.in_ok-end.field-0.end = subst (λ (m : ℕ). IsStageEnd answer m c.in_ok-end.field-0.end) c.requires.groups c.in_ok-end.ensures.end in
    subst (λ (m : ℕ). ComesOfHistory answer m (vec_len c.args.brought.bags) c.in_ok-end.field-0.end) (sym c.requires.groups)
    (subst (λ (w : ℕ). ComesOfHistory answer t.groups w c.in_ok-end.field-0.end) len
    (history_by_bags c.every_schedule.ensures (λ b. b.pass) (λ b. b.dones) (λ d. record { group = d.group; rows = length d.end.rows; faulted = ended_by_fault d.end.ending })
    c.args.brought.bags.items answer t _ _ c.in_ok-end.field-0.end (returns-clause-ended g c) same))
