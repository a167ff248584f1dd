use Rattle.std.proofs.Common.{◌≡◌, ◌<◌, ◌-◌, ◌∙◌, ℕ, ap, sym, subst, refl, length, arith, Option, None}
use Rattle.std.specs.Prelude.{slice_index_or}
use Rattle.std.proofs.lemmas.List.{get_or-set_other, get_or_read_under}
use Rattle.ds2_bags.specs.declared.finishing.StageEnd.{StageEnd}
use Rattle.ds2_bags.specs.declared.group_end.GroupEnd.{GroupEnd}
use Rattle.ds2_bags.specs.Endings.{ended_by_fault}
use Rattle.ds2_bags.specs.Rest.{HasRunRest}
use Rattle.ds2_bags.specs.StageEnds.{Brings, first_faulted, program_of_job}
use Rattle.ds2_schedule.specs.Schedule.{one_thread}
use Rattle.ds2_bags.proofs.InTurn.{turn_goes_on, fault_goes_on, turn_ends, fault_ends}
use Rattle.ds2_bags.proofs.Rest.{noted_slot, rest_goes_on, rest_at_fault, rest_ends}
use Rattle.ds2_bags.proofs.finishing.finish.Goals as goal

pub returns-then-fault-clause-end : goal.returns-then-fault-clause-end
returns-then-fault-clause-end g c =
    let answer = g.J.Answers.answer c.args.job.now in
    let n = c.loop-g.g in
    let i = c.loop-g.invariant in
    let end = c.in_ok-end.end in
    let is = c.in_ok-end.ensures.answer in
    let same = c.groups-groups.ensures in
    let low : n < c.groups-groups.result = omega arith in
    let fault = sym c.is_fault-fault.ensures ∙ c.if-fault.true in
    let turn = turn_ends answer c.groups-groups.result n c.loop-g.ends.items c.push_reserved.new.self.items end low is fault c.push_reserved.ensures.items i.in_turn in
    let first = fault_ends answer c.groups-groups.result n end low is fault i.fault in
    record {
      in_turn = ap (λ (e : StageEnd). e.ends) c.ended.ensures.end ∙ turn ∙ ap (one_thread (program_of_job answer) tt 0) same;
      fault = ap (λ (e : StageEnd). e.faulted) c.ended.ensures.end ∙ first ∙ ap (first_faulted answer 0) same;
    }

pub returns-then-fault-clause-ran : goal.returns-then-fault-clause-ran
returns-then-fault-clause-ran g c =
    let answer = g.J.Answers.answer c.args.job.now in
    let slot : ℕ → Option GroupEnd = λ k. slice_index_or c.args.placed k None in
    let n = c.loop-g.g in
    let i = c.loop-g.invariant in
    let low : n < c.groups-groups.result = omega arith in
    let fault = sym (ap (λ (e : GroupEnd). ended_by_fault e.ending) c.in_ok-end.ensures.answer) ∙ sym c.is_fault-fault.ensures ∙ c.if-fault.true in
    let items = c.loop-g.placed.items in
    let read : c.index_mut.result.now ≡ slice_index_or items n None = get_or_read_under items n (length items) c.index_mut.result.now None c.index_mut.ensures.value (omega (arith, i.placed, low)) refl in
    let noted = noted_slot slot c.take-brought.result n c.loop-g.ran.items c.note.new.ran.items (c.take-brought.ensures.value ∙ read ∙ i.same n (omega arith)) c.note.ensures.items in
    let ran = rest_at_fault answer slot c.groups-groups.result n c.loop-g.ran.items c.note.new.ran.items low noted fault i.rest in
    subst (λ (m : ℕ). HasRunRest answer slot m c.ended.result.ran) c.groups-groups.ensures (subst (HasRunRest answer slot c.groups-groups.result) (sym c.ended.ensures.ran) ran)

pub loop-g-preserved : goal.loop-g-preserved
loop-g-preserved g c =
    let answer = g.J.Answers.answer c.args.job.now in
    let slot : ℕ → Option GroupEnd = λ k. slice_index_or c.args.placed k None in
    let n = c.loop-g.g in
    let i = c.loop-g.invariant in
    let end = c.in_ok-end.end in
    let is = c.in_ok-end.ensures.answer in
    let calm = sym c.is_fault-fault.ensures ∙ c.if-fault.false in
    let calm_answer = sym (ap (λ (e : GroupEnd). ended_by_fault e.ending) is) ∙ calm in
    let low : n < c.groups-groups.result = omega arith in
    let items = c.loop-g.placed.items in
    let read : c.index_mut.result.now ≡ slice_index_or items n None = get_or_read_under items n (length items) c.index_mut.result.now None c.index_mut.ensures.value (omega (arith, i.placed, low)) refl in
    let noted = noted_slot slot c.take-brought.result n c.loop-g.ran.items c.note.new.ran.items (c.take-brought.ensures.value ∙ read ∙ i.same n (omega arith)) c.note.ensures.items in
    record {
      count = i.count;
      placed = i.placed;
      left = λ k low below. subst (λ o. Brings answer k o) (sym (get_or-set_other c.loop-g.placed.items n k c.take-brought.new.self None (λ e. absurd (omega (arith, e, low))))) (i.left k (omega arith) below);
      made = omega (arith, c.push_reserved.ensures.len, i.made);
      room = omega (arith, c.push_reserved.ensures.capacity, i.room);
      in_turn = turn_goes_on answer c.groups-groups.result n c.loop-g.ends.items c.push_reserved.new.self.items end low is calm c.push_reserved.ensures.items i.in_turn;
      fault = fault_goes_on answer c.groups-groups.result n end low is calm i.fault;
      fits = c.in_ok-end.ensures.fits calm;
      same = λ k high. get_or-set_other c.loop-g.placed.items n k c.take-brought.new.self None (λ e. absurd (omega (arith, e, high))) ∙ i.same k (omega (arith, high));
      spare = (omega (arith, c.note.ensures.room.1, i.spare.0), omega (arith, c.note.ensures.room.0, i.spare.1));
      rest = rest_goes_on answer slot c.groups-groups.result n c.loop-g.ran.items c.note.new.ran.items low noted calm_answer i.rest;
    }

pub returns-clause-ran : goal.returns-clause-ran
returns-clause-ran g c =
    let answer = g.J.Answers.answer c.args.job.now in
    let slot : ℕ → Option GroupEnd = λ k. slice_index_or c.args.placed k None in
    let over : c.groups-groups.result - c.loop-g.g ≡ 0 = omega arith in
    let ran = rest_ends answer slot c.groups-groups.result c.loop-g.g c.loop-g.ran.items over c.loop-g.invariant.rest in
    subst (λ (m : ℕ). HasRunRest answer slot m c.ended-2.result.ran) c.groups-groups.ensures (subst (HasRunRest answer slot c.groups-groups.result) (sym c.ended-2.ensures.ran) ran)
