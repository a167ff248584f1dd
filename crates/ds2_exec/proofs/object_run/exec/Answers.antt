use Rattle.std.proofs.Common.{◌≡◌, Result, Ok, Err, refl, rules, subst}
use Rattle.ds2_base.specs.declared.stop.OutOfMemory.{OutOfMemory}
use Rattle.ds2_answer.specs.ObjectPlans.{object_plan}
use Rattle.ds2_answer.specs.declared.status.Status.TheVariants.{Done}
use Rattle.ds2_store_steps.specs.Halts.{FollowsAll}
use Rattle.ds2_store_steps.specs.PlanOutcomes.{CutShort}
use Rattle.ds2_store_steps.specs.declared.halt.Halt.{Halt}
use Rattle.ds2_store_steps.specs.declared.halt.Halt.TheVariants as halt
use Rattle.ds2_store_steps.proofs.Leading.{store_ends}
use Rattle.ds2_exec.specs.ExecOutcomes.{ExecutesPlan, OverStore}
use Rattle.ds2_exec.proofs.ExecSteps.{executed_done, executed_ended, executed_short}
use Rattle.ds2_exec.proofs.object_run.exec.Goals as goal

pub returns-in-Ok-clause-does : goal.returns-in-Ok-clause-does
returns-in-Ok-clause-does g c =
    let told = g.S.Store.files c.args.store.now in
    let log = c.run_object-ran.new.session.log in
    let now = g.S.Store.files c.run_object-ran.new.session.store.now in
    store_ends (λ s. OverStore told (λ files there. ExecutesPlan {E = OutOfMemory} (object_plan c.args.object.now c.args.budget files there) told (Ok (record { status = Done; log = log })) (g.S.Store.files s)))
    c.run_object-ran.new.session.store.now _ (search rules)
    (executed_done c.args.object.now c.args.budget told now OutOfMemory c.new.result log _ c.new.ensures refl refl
    (subst (λ (ran : Result (Unit {0}) Halt). OverStore told (λ files there. FollowsAll (object_plan c.args.object.now c.args.budget files there) c.new.result told ran log now)) c.in-Ok.is c.run_object-ran.ensures.does))

pub returns-in-Err-Ended-clause-does : goal.returns-in-Err-Ended-clause-does
returns-in-Err-Ended-clause-does g c =
    let told = g.S.Store.files c.args.store.now in
    let log = c.run_object-ran.new.session.log in
    let now = g.S.Store.files c.run_object-ran.new.session.store.now in
    let is : c.run_object-ran.result ≡ Err (halt.Ended c.in-Err-Ended.status) = search rules in
    store_ends (λ s. OverStore told (λ files there. ExecutesPlan {E = OutOfMemory} (object_plan c.args.object.now c.args.budget files there) told (Ok (record { status = c.in-Err-Ended.status; log = log })) (g.S.Store.files s)))
    c.run_object-ran.new.session.store.now _ (search rules)
    (executed_ended c.args.object.now c.args.budget told now OutOfMemory c.new.result log c.in-Err-Ended.status (halt.Ended c.in-Err-Ended.status) _ c.new.ensures refl refl refl
    (subst (λ (ran : Result (Unit {0}) Halt). OverStore told (λ files there. FollowsAll (object_plan c.args.object.now c.args.budget files there) c.new.result told ran log now)) is c.run_object-ran.ensures.does))

pub returns-in-Err-OutOfMemory-clause-does : goal.returns-in-Err-OutOfMemory-clause-does
returns-in-Err-OutOfMemory-clause-does g c =
    let told = g.S.Store.files c.args.store.now in
    let log = c.run_object-ran.new.session.log in
    let now = g.S.Store.files c.run_object-ran.new.session.store.now in
    let is : c.run_object-ran.result ≡ Err halt.OutOfMemory = search rules in
    store_ends (λ s. OverStore told (λ files there. CutShort (object_plan c.args.object.now c.args.budget files there) told (g.S.Store.files s))) c.run_object-ran.new.session.store.now _ (search rules)
    (executed_short c.args.object.now c.args.budget told now c.new.result log halt.OutOfMemory refl
    (subst (λ (ran : Result (Unit {0}) Halt). OverStore told (λ files there. FollowsAll (object_plan c.args.object.now c.args.budget files there) c.new.result told ran log now)) is c.run_object-ran.ensures.does))
