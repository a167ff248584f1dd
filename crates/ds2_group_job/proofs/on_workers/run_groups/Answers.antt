use Rattle.std.proofs.Common.{ap, ◌∙◌, subst, IfOk}
use Rattle.ds2_bags.specs.declared.group_end.GroupEnd.{GroupEnd}
use Rattle.ds2_machine.specs.AtRest.{staged_program}
use Rattle.ds2_group_job.specs.GroupRuns.{given_together}
use Rattle.ds2_group_job.specs.StageJobs.{HasKeptGroups}
use Rattle.ds2_group_job.proofs.GroupsInTurn.{groups_in_turn}
use Rattle.ds2_group_job.proofs.NoneStrays.{none_strays}
use Rattle.ds2_group_job.proofs.on_workers.run_groups.Goals as goal

pub returns : goal.returns
returns g c =
    let job = c.args.job.now in
    let ready = c.is_ready.ensures in
    let code = staged_program job.code job.number in
    let is = ap given_together c.in_ok-end.ensures.end.in_turn
    ∙ groups_in_turn code job.budget job.groups (none_strays c.valid_code_ends.ensures job.code job.number job.budget job.groups ready.valid) job.first ready.independent in
    let P : GroupEnd → Type 0 = λ given. IfOk c.keep_all.result (λ end. HasKeptGroups c.args.written.now c.keep_all.new.written given end) in
    subst P is c.keep_all.ensures
