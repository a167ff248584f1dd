-- What comes behind `init` of a thread program on many workers.
use Rattle.std.proofs.Common.{◌≡◌, ℕ, ◌+◌, true, false, List, refl, sym}
use Rattle.ds2_table.specs.OneThread.{last_unit, run_each}
use Rattle.ds2_bags.specs.Endings.{ended_by_fault}
use Rattle.ds2_code.specs.declared.parts.ProgramParts.{ProgramParts}
use Rattle.ds2_code.specs.CodeUnit.{code_term}
use Rattle.ds2_code.specs.Desk.{ProgramData, SlotSettings}
use Rattle.ds2_code_answer.specs.CodeAnswer.{code_units}
use Rattle.ds2_code_answer.specs.StageTold.{told_by_answer}
use Rattle.ds2_machine.specs.AtRest.{IsUnitEnd}
use Rattle.ds2_machine.specs.declared.record.UnitRecord.{UnitRecord}
use Rattle.ds2_machine.specs.declared.unit_end.UnitEnd.{UnitEnd}
use Rattle.ds2_loads.specs.GroupedLoads.{loads_of_groups}
use Rattle.ds2_unit.specs.declared.units_end.UnitsEnd.{UnitsEnd}
use Rattle.ds2_group_job.specs.GroupRuns.{run_of_group, end_of_group}
use Rattle.ds2_group_job.specs.KeptAnswers.{HasKeptTold}
use Rattle.ds2_group_job.specs.StageJobs.{HasKeptGroups}
use Rattle.ds2_group_job.specs.WhateverRan.{GivesWhateverRan}
use Rattle.ds2_group_job.proofs.GroupSteps.{HasKeptRows}
use Rattle.ds2_group_job.proofs.GroupsInTurn.{NoneStrays, behind_all}
use Rattle.ds2_group_job.proofs.KeptUnits.{groups_ended, stands_on, groups_before, last_kept}

module _ (code : ProgramParts) (budget : ℕ) (groups : List (List SlotSettings)) (first : ProgramData) (before middle : UnitRecord) (all : UnitsEnd)
    (kept : HasKeptGroups before middle (end_of_group (run_of_group code budget (loads_of_groups groups) first)) all) where
  -- a group faulted
  pub rest_faulted : ended_by_fault all.ending ≡ true → HasKeptTold before middle (told_by_answer (run_each (code_units code budget) (loads_of_groups groups) first)) all
  rest_faulted faulted = groups_ended (run_of_group code budget (loads_of_groups groups) first) (last_unit (code_units code budget)) before middle all kept faulted

  -- `term` ran
  pub rest_ended : (free : GivesWhateverRan code budget groups first) (stays : NoneStrays code budget groups) → ended_by_fault all.ending ≡ false → (after : UnitRecord) (unit : UnitEnd) (now : ProgramData) (end : UnitsEnd)
      → IsUnitEnd HasKeptRows middle after (code_term code budget first) unit now → end.ending ≡ unit.ending → end.executed ≡ all.executed + unit.executed
      → HasKeptTold before after (told_by_answer (run_each (code_units code budget) (loads_of_groups groups) first)) end
  rest_ended free stays fine after unit now end ran ending executed =
      let result = run_of_group code budget (loads_of_groups groups) first in
      let there = stands_on result before middle all kept fine (stays (loads_of_groups groups) first) in
      let behind = behind_all code budget groups first there.last there.there in
      let last : UnitsEnd = record { ending = unit.ending; executed = unit.executed } in
      groups_before result (last_unit (code_units code budget)) there.last before middle after (told_by_answer (last_unit (code_units code budget) first)) all last end there.there kept
      (last_kept (code_term code budget first) middle after unit now last ran refl refl)
      (sym (free.term behind.ran there.last behind.behind)) ending executed
