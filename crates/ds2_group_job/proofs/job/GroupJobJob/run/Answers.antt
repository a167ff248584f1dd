use Rattle.std.proofs.Common.{◌≡◌, ℕ, ◌<◌, false, List, [], ◌∷◌, ◌++◌, length, refl, sym, ap, ◌∙◌, subst}
use Rattle.std.specs.List.{AllByRecursion}
use Rattle.ds2_bags.specs.declared.group_end.GroupEnd.{GroupEnd}
use Rattle.ds2_code.specs.declared.parts.StagedParts.{StagedParts}
use Rattle.ds2_code.specs.Desk.{SlotSettings}
use Rattle.ds2_machine.specs.AtRest.{staged_program}
use Rattle.ds2_machine.specs.declared.record.UnitRecord.{UnitRecord}
use Rattle.ds2_code.specs.Scales.{AreSettingsScaled, IsDataScaled}
use Rattle.ds2_loads.specs.ProgramSources.{program_left}
use Rattle.ds2_group_job.specs.GroupRuns.{run_of_group, loads_or_none, group_at_number}
use Rattle.ds2_group_job.specs.StageJobs.{StageJob, IsReadyJob}
use Rattle.ds2_group_job.proofs.GroupSteps.{told_is, not_spent, answer_is, ran_on}
use Rattle.ds2_group_job.proofs.LoadsTaken.{group_scaled}
use Rattle.ds2_group_job.proofs.job.GroupJobJob.run.Goals as goal

pub enter-requires : goal.enter-requires
enter-requires c =
    let P : List (List SlotSettings) → Type 0 = λ gs. c.args.g < length gs in
    subst P (sym c.requires.1.loads) c.requires.0

pub run_loads-requires-clause-scaled : goal.run_loads-requires-clause-scaled
run_loads-requires-clause-scaled c =
    let P : StageJob → Type 0 = λ j. IsDataScaled (staged_program j.code c.args.worker.now.machine.program) c.args.worker.now.machine.state in
    subst P (sym c.self.view_is) c.requires.1.scaled

pub run_loads-requires-clause-budget : goal.run_loads-requires-clause-budget
run_loads-requires-clause-budget c = c.self.invariant.budget

pub run_loads-requires-clause-ready : goal.run_loads-requires-clause-ready
run_loads-requires-clause-ready c = c.requires.1.ready

pub run_loads-requires-clause-loads : goal.run_loads-requires-clause-loads
run_loads-requires-clause-loads c =
    let job = c.args.self.now in
    let P : StageJob → Type 0 = λ j. IsReadyJob j c.self.inside.start.now.spent in
    let ready : IsReadyJob job c.self.inside.start.now.spent = subst P c.self.view_is c.self.invariant in
    let all = group_scaled (staged_program job.code job.number).slots job.groups c.args.g ready.loads in
    let given : List SlotSettings = program_left c.enter.new.self in
    let loads : given ≡ group_at_number job.groups c.args.g = sym (ap loads_or_none c.enter.ensures.entered) ∙ ap (λ gs. group_at_number gs c.args.g) c.requires.1.loads in
    let Q : List SlotSettings → Type 0 = λ ls. AllByRecursion (AreSettingsScaled (staged_program job.code job.number).slots) ls in
    let R : ℕ → Type 0 = λ n. AllByRecursion (AreSettingsScaled (staged_program job.code n).slots) given in
    let S : StagedParts → Type 0 = λ code. AllByRecursion (AreSettingsScaled (staged_program code c.args.worker.now.machine.program).slots) given in
    subst S (sym (ap (λ (j : StageJob). j.code) c.self.view_is)) (subst R (sym c.requires.1.program) (subst Q (sym loads) all))

pub returns-clause-answer : goal.returns-clause-answer
returns-clause-answer c =
    let job = c.args.self.now in
    let P : StageJob → Type 0 = λ j. IsReadyJob j c.self.inside.start.now.spent in
    let ready : IsReadyJob job c.self.inside.start.now.spent = subst P c.self.view_is c.self.invariant in
    let machine = c.args.worker.now.machine in
    let code = c.self.inside.code.now in
    let budget = c.self.inside.budget in
    let loads = sym (ap loads_or_none c.enter.ensures.entered) ∙ ap (λ gs. group_at_number gs c.args.g) c.requires.1.loads in
    let told : GroupEnd = record { rows = c.in_ok-rows.rows; lines = c.run_loads.new.sink.lines; ending = c.in_ok-end.end.ending; executed = c.in_ok-end.end.executed } in
    told_is c.new-written.result c.run_loads.new.sink (run_of_group (staged_program code machine.program) budget _ machine.state) c.in_ok-end.end c.run_loads.new.machine
    (ap (λ (r : UnitRecord). r.rows) c.new-written.ensures) (ap (λ (r : UnitRecord). r.lines) c.new-written.ensures) c.in_ok-end.ensures.ran told c.in_ok-rows.ensures refl refl refl
    ∙ answer_is job ready.independent c.requires.1.ran machine.state c.args.g c.requires.1.behind c.requires.0 code machine.program budget _ (ap (λ (j : StageJob). j.code) c.self.view_is) c.requires.1.program
    (ap (λ (j : StageJob). j.budget) c.self.view_is) loads

pub returns-clause-fits : goal.returns-clause-fits
returns-clause-fits c = λ fine.
    let job = c.args.self.now in
    let P : StageJob → Type 0 = λ j. IsReadyJob j c.self.inside.start.now.spent in
    let ready : IsReadyJob job c.self.inside.start.now.spent = subst P c.self.view_is c.self.invariant in
    let machine = c.args.worker.now.machine in
    let code = c.self.inside.code.now in
    let budget = c.self.inside.budget in
    let loads = sym (ap loads_or_none c.enter.ensures.entered) ∙ ap (λ gs. group_at_number gs c.args.g) c.requires.1.loads in
    let now = c.run_loads.new.machine in
    let stands = c.in_ok-end.ensures.ran.stands in
    let idle : now.spent ≡ false = not_spent (run_of_group (staged_program code machine.program) budget _ machine.state).reached c.in_ok-end.end.ending now stands fine in
    let Q : StagedParts → Type 0 = λ x. IsDataScaled (staged_program x now.program) now.state in
    record {
      program = c.in_ok-end.ensures.program ∙ c.requires.1.program;
      ready = idle;
      scaled = subst Q (ap (λ (j : StageJob). j.code) c.self.view_is) (c.in_ok-end.ensures.scaled idle);
      loads = c.in_ok-end.ensures.grouped ∙ c.enter.ensures.grouped ∙ c.requires.1.loads;
      ran = c.requires.1.ran ++ c.args.g ∷ [];
      behind = ran_on job ready.independent c.requires.1.ran machine.state c.args.g c.requires.1.behind c.requires.0 code machine.program budget _ (ap (λ (j : StageJob). j.code) c.self.view_is) c.requires.1.program
          (ap (λ (j : StageJob). j.budget) c.self.view_is) loads c.in_ok-end.end.ending now stands fine;
    }
