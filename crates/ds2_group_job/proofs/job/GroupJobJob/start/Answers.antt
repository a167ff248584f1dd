use Rattle.std.proofs.Common.{[], sym, ap, ◌∙◌, subst}
use Rattle.ds2_code.specs.declared.parts.StagedParts.{StagedParts}
use Rattle.ds2_machine.specs.AtRest.{MachineAtRest, staged_program}
use Rattle.ds2_code.specs.Scales.{IsDataScaled}
use Rattle.ds2_group_job.specs.StageJobs.{StageJob}
use Rattle.ds2_group_job.proofs.job.GroupJobJob.start.Goals as goal

pub returns : goal.returns
returns c =
    let same = c.in_ok-machine.ensures in
    let P : MachineAtRest → Type 0 = λ m. IsDataScaled (staged_program c.self.inside.code.now m.program) m.state in
    let Q : StagedParts → Type 0 = λ code. IsDataScaled (staged_program code c.in_ok-machine.machine.program) c.in_ok-machine.machine.state in
    record {
      program = ap (λ (m : MachineAtRest). m.program) same ∙ ap (λ (j : StageJob). j.number) c.self.view_is;
      ready = ap (λ (m : MachineAtRest). m.spent) same ∙ c.self.invariant.ready;
      scaled = subst Q (ap (λ (j : StageJob). j.code) c.self.view_is) (subst P (sym same) c.self.invariant.scaled);
      loads = c.in_ok-loads.ensures.grouped ∙ ap (λ (j : StageJob). j.groups) c.self.view_is;
      ran = [];
      behind = ap (λ (m : MachineAtRest). m.state) same ∙ ap (λ (j : StageJob). j.first) c.self.view_is;
    }
