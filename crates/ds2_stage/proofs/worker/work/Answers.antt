use Rattle.std.proofs.Common.{◌∙◌, ℕ, List, [], refl, ap, subst, arith, length, map}
use Rattle.ds2_bags.specs.Endings.{ended_by_fault}
use Rattle.ds2_bags.specs.declared.done.Done.{Done}
use Rattle.ds2_schedule.specs.Bags.{GroupRun}
use Rattle.ds2_stage.specs.Odds.{IsOdd}
use Rattle.ds2_stage.proofs.Worked.{begins_working, bag_done, bag_short, bag_odd, bag_stop, ends_at_fault, goes_on_working}
use Rattle.ds2_stage.proofs.worker.work.Goals as goal

pub returns-in_default-clause-worked : goal.returns-in_default-clause-worked
returns-in_default-clause-worked g c =
    let f : List (Done g.row.J.Denot g.J.Answers) → List GroupRun = map (λ d. record { group = d.group; rows = length d.end.rows; faulted = ended_by_fault d.end.ending }) in
    bag_short (g.J.Answers.answer c.args.job.now) c.args.shared.now.tickets c.args.pass c.args.pass c.args.pass [] (f c.new.result) 0 0 _ _ _
    (begins_working (g.J.Answers.answer c.args.job.now) c.args.shared.now.tickets c.args.pass c.requires.number c.requires.pass) refl (ap f c.new.ensures) (refl, refl, refl)

pub returns-in_default-next_group-clause-worked : goal.returns-in_default-next_group-clause-worked
returns-in_default-next_group-clause-worked g c =
    let f : List (Done g.row.J.Denot g.J.Answers) → List GroupRun = map (λ d. record { group = d.group; rows = length d.end.rows; faulted = ended_by_fault d.end.ending }) in
    bag_done (g.J.Answers.answer c.args.job.now) c.args.shared.now.tickets c.args.pass c.next_group.new.pass c.filled.result.pass (f c.loop.worker.dones.items) (f c.filled.result.dones) _ _ _
    (c.in_default-next_group.ensures (g.J.Answers.answer c.args.job.now) c.args.pass (f c.loop.worker.dones.items) c.loop.invariant.working) c.filled.ensures.pass (ap f c.filled.ensures.dones) c.filled.ensures.early

pub returns-in-Some-below-clause-worked : goal.returns-in-Some-below-clause-worked
returns-in-Some-below-clause-worked g c =
    let f : List (Done g.row.J.Denot g.J.Answers) → List GroupRun = map (λ d. record { group = d.group; rows = length d.end.rows; faulted = ended_by_fault d.end.ending }) in
    let at = c.in-Some-next_group.ensures (g.J.Answers.answer c.args.job.now) c.args.pass (f c.loop.worker.dones.items) c.loop.invariant.working in
    bag_stop (g.J.Answers.answer c.args.job.now) c.args.shared.now.tickets c.args.pass c.next_group.new.pass c.filled-in-Some-below.result.pass (f c.loop.worker.dones.items) (f c.filled-in-Some-below.result.dones) c.in-Some-next_group.g c.in-Some-next_group.to c.in-Some-below.fault _ _ _
    c.in-Some-below.ensures at.0 c.filled-in-Some-below.ensures.pass (ap f c.filled-in-Some-below.ensures.dones) c.filled-in-Some-below.ensures.early

pub run_one-requires-clause-group : goal.run_one-requires-clause-group
run_one-requires-clause-group g c κs within =
    let f : List (Done g.row.J.Denot g.J.Answers) → List GroupRun = map (λ d. record { group = d.group; rows = length d.end.rows; faulted = ended_by_fault d.end.ending }) in
    let at = c.in-Some-next_group.ensures (g.J.Answers.answer c.args.job.now) c.args.pass (f c.loop.worker.dones.items) c.loop.invariant.working in
    omega (arith, c.requires.same, at.0.inside.1, at.1)

pub run_one-requires-clause-part : goal.run_one-requires-clause-part
run_one-requires-clause-part g c κs within =
    let f : List (Done g.row.J.Denot g.J.Answers) → List GroupRun = map (λ d. record { group = d.group; rows = length d.end.rows; faulted = ended_by_fault d.end.ending }) in
    let at = c.in-Some-next_group.ensures (g.J.Answers.answer c.args.job.now) c.args.pass (f c.loop.worker.dones.items) c.loop.invariant.working in
    omega (arith, at.0.parts, c.requires.pass.parts)

pub returns-in-Fault-clause-worked : goal.returns-in-Fault-clause-worked
returns-in-Fault-clause-worked g c =
    let f : List (Done g.row.J.Denot g.J.Answers) → List GroupRun = map (λ d. record { group = d.group; rows = length d.end.rows; faulted = ended_by_fault d.end.ending }) in
    let t = c.args.shared.now.tickets in
    let at = c.in-Some-next_group.ensures (g.J.Answers.answer c.args.job.now) c.args.pass (f c.loop.worker.dones.items) c.loop.invariant.working in
    bag_done (g.J.Answers.answer c.args.job.now) t c.args.pass c.run_one.new.worker.pass c.filled-in-Fault.result.pass (f c.run_one.new.worker.dones.items) (f c.filled-in-Fault.result.dones) _ _ _
    (ends_at_fault (g.J.Answers.answer c.args.job.now) t c.args.pass c.next_group.new.pass c.run_one.new.worker.pass (f c.loop.worker.dones.items) (f c.run_one.new.worker.dones.items) c.in-Some-next_group.g c.in-Some-next_group.to at.1 at.0 c.in-Fault.ensures.gone)
    c.filled-in-Fault.ensures.pass (ap f c.filled-in-Fault.ensures.dones) c.filled-in-Fault.ensures.early

pub returns-in-Short-clause-worked : goal.returns-in-Short-clause-worked
returns-in-Short-clause-worked g c =
    let f : List (Done g.row.J.Denot g.J.Answers) → List GroupRun = map (λ d. record { group = d.group; rows = length d.end.rows; faulted = ended_by_fault d.end.ending }) in
    let at = c.in-Some-next_group.ensures (g.J.Answers.answer c.args.job.now) c.args.pass (f c.loop.worker.dones.items) c.loop.invariant.working in
    bag_short (g.J.Answers.answer c.args.job.now) c.args.shared.now.tickets c.args.pass c.next_group.new.pass c.filled-in-Short.result.pass (f c.loop.worker.dones.items) (f c.filled-in-Short.result.dones) c.in-Some-next_group.g c.in-Some-next_group.to _ _ _
    at.0 (c.filled-in-Short.ensures.pass ∙ c.in-Short.ensures.gone.0) (ap f c.filled-in-Short.ensures.dones ∙ c.in-Short.ensures.gone.1) c.filled-in-Short.ensures.early

pub returns-in-Refused-clause-worked : goal.returns-in-Refused-clause-worked
returns-in-Refused-clause-worked g c =
    let f : List (Done g.row.J.Denot g.J.Answers) → List GroupRun = map (λ d. record { group = d.group; rows = length d.end.rows; faulted = ended_by_fault d.end.ending }) in
    let at = c.in-Some-next_group.ensures (g.J.Answers.answer c.args.job.now) c.args.pass (f c.loop.worker.dones.items) c.loop.invariant.working in
    bag_odd (g.J.Answers.answer c.args.job.now) c.args.shared.now.tickets c.args.pass c.next_group.new.pass c.filled-in-Refused.result.pass (f c.loop.worker.dones.items) (f c.filled-in-Refused.result.dones) c.in-Some-next_group.g c.in-Some-next_group.to c.in-Refused.odd _ _ _
    (subst (λ (m : ℕ). IsOdd m c.in-Refused.odd) c.requires.same c.in-Refused.ensures.gone.2) at.0
    (c.filled-in-Refused.ensures.pass ∙ c.in-Refused.ensures.gone.0) (ap f c.filled-in-Refused.ensures.dones ∙ c.in-Refused.ensures.gone.1) c.filled-in-Refused.ensures.early

pub overflow_add-next : goal.overflow_add-next
overflow_add-next g c =
    let f : List (Done g.row.J.Denot g.J.Answers) → List GroupRun = map (λ d. record { group = d.group; rows = length d.end.rows; faulted = ended_by_fault d.end.ending }) in
    let at = c.in-Some-next_group.ensures (g.J.Answers.answer c.args.job.now) c.args.pass (f c.loop.worker.dones.items) c.loop.invariant.working in
    omega (arith, at.1, at.0.inside.1, c.args.shared.now.tickets.small)

pub loop-preserved : goal.loop-preserved
loop-preserved g c =
    let f : List (Done g.row.J.Denot g.J.Answers) → List GroupRun = map (λ d. record { group = d.group; rows = length d.end.rows; faulted = ended_by_fault d.end.ending }) in
    let at = c.in-Some-next_group.ensures (g.J.Answers.answer c.args.job.now) c.args.pass (f c.loop.worker.dones.items) c.loop.invariant.working in
    record {
      of = c.in-On.ensures.of;
      working = goes_on_working (g.J.Answers.answer c.args.job.now) c.args.shared.now.tickets c.args.pass c.next_group.new.pass c.run_one.new.worker.pass (f c.loop.worker.dones.items) (f c.run_one.new.worker.dones.items) c.in-Some-next_group.g c.in-Some-next_group.to at.1 at.0 c.in-On.ensures.gone;
      fits = c.in-On.ensures.fits refl;
    }
