use Rattle.std.proofs.Common.{List, sym, ap, ◌∙◌, subst}
use Rattle.ds2_code.specs.declared.parts.ProgramParts.{ProgramParts}
use Rattle.ds2_code.specs.Desk.{SlotSettings}
use Rattle.ds2_code_answer.specs.CodeLoads.{code_loads}
use Rattle.ds2_loads.specs.GroupedLoads.{loads_of_groups}
use Rattle.ds2_loads.specs.ProgramSources.{program_groups}
use Rattle.ds2_group_job.specs.GroupRuns.{end_of_group, run_of_group}
use Rattle.ds2_group_job.specs.StageJobs.{AreGroupsScaled, StageJob, HasKeptGroups, answer_of_all}
use Rattle.ds2_group_job.specs.WhateverRan.{GivesWhateverRan}
use Rattle.ds2_group_job.proofs.ThreadBegun.{groups_are_scaled, as_many_groups}
use Rattle.ds2_group_job.proofs.on_workers.run_loads_on.Goals as goal

pub open-job-requires-clause-budget : goal.open-job-requires-clause-budget
open-job-requires-clause-budget g c = c.requires.run.thread.within

pub open-job-requires-clause-ready : goal.open-job-requires-clause-ready
open-job-requires-clause-ready g c = c.requires.machine.ready

pub open-job-requires-clause-scaled : goal.open-job-requires-clause-scaled
open-job-requires-clause-scaled g c = c.requires.machine.scaled

pub open-job-requires-clause-loads : goal.open-job-requires-clause-loads
open-job-requires-clause-loads g c =
    let run = c.args.run.now.thread in
    let groups = program_groups c.in_ok-loads.loads in
    let P : ProgramParts → Type 0 = λ p. AreGroupsScaled p.slots groups in
    subst P (sym c.requires.machine.number)
    (groups_are_scaled run.stage.now.slots groups (code_loads run.stage.now run.tables.now)
    (ap loads_of_groups c.in_ok-loads.ensures.groups ∙ c.groups_are_all_loads.ensures run.grain run.stage.now run.tables.now)
    (c.loads_are_scaled.ensures run.stage.now run.tables.now))

pub open-job-requires-clause-independent : goal.open-job-requires-clause-independent
open-job-requires-clause-independent g c =
    let run = c.args.run.now.thread in
    let state = c.args.machine.now.state in
    let R : ProgramParts → Type 0 = λ p. GivesWhateverRan p run.budget (program_groups c.in_ok-loads.loads) state in
    let S : List (List SlotSettings) → Type 0 = λ gs. GivesWhateverRan run.stage.now run.budget gs state in
    subst R (sym c.requires.machine.number) (subst S (sym c.in_ok-loads.ensures.groups) c.requires.independent)

pub returns-clause-kept : goal.returns-clause-kept
returns-clause-kept g c =
    let run = c.args.run.now.thread in
    let state = c.args.machine.now.state in
    let before = c.args.written.now in
    let after = c.run_groups.new.written in
    let groups = program_groups c.in_ok-loads.loads in
    let P : StageJob → Type 0 = λ j. HasKeptGroups before after (answer_of_all j) c.in_ok-end.end in
    let R : ProgramParts → Type 0 = λ p. HasKeptGroups before after (end_of_group (run_of_group p run.budget (loads_of_groups groups) state)) c.in_ok-end.end in
    let S : List (List SlotSettings) → Type 0 = λ gs. HasKeptGroups before after (end_of_group (run_of_group run.stage.now run.budget (loads_of_groups gs) state)) c.in_ok-end.end in
    subst S c.in_ok-loads.ensures.groups (subst R c.requires.machine.number (subst P c.open-job.ensures c.in_ok-end.ensures))

pub returns-clause-groups : goal.returns-clause-groups
returns-clause-groups g c =
    let run = c.args.run.now.thread in
    c.groups-groups.ensures ∙ as_many_groups run.grain run.stage.now run.tables.now (program_groups c.in_ok-loads.loads) c.in_ok-loads.ensures.groups
