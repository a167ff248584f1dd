-- The groups of a thread program as a job.
use Rattle.std.specs.List.{AllByRecursion}
use Rattle.std.specs.Prelude.{◌≡◌, ℕ, ◌++◌, ◌≤◌, false, Bool, List}
use Rattle.ds2_bags.specs.declared.group_end.GroupEnd.{GroupEnd}
use Rattle.ds2_code.specs.declared.parts.Slot.{Slot}
use Rattle.ds2_code.specs.declared.parts.StagedParts.{StagedParts}
use Rattle.ds2_code.specs.Desk.{ProgramData, SlotSettings}
use Rattle.ds2_code.specs.ValidCode.{IsValidStaged}
use Rattle.ds2_machine.specs.AtRest.{staged_program}
use Rattle.ds2_machine.specs.declared.machine.TheConstants.{MOST_BUDGET}
use Rattle.ds2_machine.specs.declared.record.UnitRecord.{UnitRecord}
use Rattle.ds2_code.specs.Scales.{AreSettingsScaled, IsDataScaled}
use Rattle.ds2_loads.specs.GroupedLoads.{loads_of_groups}
use Rattle.ds2_unit.specs.Threads.{rows_kept}
use Rattle.ds2_unit.specs.declared.units_end.UnitsEnd.{UnitsEnd}
use Rattle.ds2_group_job.specs.GroupRuns.{run_of_group, end_of_group, group_at_number}
use Rattle.ds2_group_job.specs.WhateverRan.{GivesWhateverRan}

-- a program of a chain, the budget of each unit, what each load of each group sets, and the data behind `init`
pub record StageJob : Type 0 where
  pub code : StagedParts
  pub number : ℕ
  pub budget : ℕ
  pub groups : List (List SlotSettings)
  pub first : ProgramData

-- what a group gives: what it gives from the data behind `init`
abbrev pub answer_of_group : StageJob → ℕ → GroupEnd
answer_of_group job g = end_of_group (run_of_group (staged_program job.code job.number) job.budget (group_at_number job.groups g) job.first)

-- what one thread gives: `run` on the loads of all groups in order, from the data behind `init`
abbrev pub answer_of_all : StageJob → GroupEnd
answer_of_all job = end_of_group (run_of_group (staged_program job.code job.number) job.budget (loads_of_groups job.groups) job.first)

-- the loads of each group set decimals of the scales of their slots
abbrev pub AreGroupsScaled : List Slot → List (List SlotSettings) → Type 0
AreGroupsScaled slots groups = AllByRecursion (AllByRecursion (AreSettingsScaled slots)) groups

-- a job of valid code whose workers may run any of its groups behind any others; its machine is spent or not
pub record IsReadyJob (job : StageJob) (spent : Bool) : Type 0 where
  pub valid : IsValidStaged job.code
  pub budget : job.budget ≤ MOST_BUDGET
  pub ready : spent ≡ false
  pub scaled : IsDataScaled (staged_program job.code job.number) job.first
  pub loads : AreGroupsScaled (staged_program job.code job.number).slots job.groups
  pub independent : GivesWhateverRan (staged_program job.code job.number) job.budget job.groups job.first

-- what groups gave has been kept behind what was written before, and this is how they have ended
pub record HasKeptGroups (before after : UnitRecord) (given : GroupEnd) (end : UnitsEnd) : Type 0 where
  pub rows : rows_kept after.rows ≡ rows_kept before.rows ++ given.rows
  pub lines : after.lines ≡ before.lines ++ given.lines
  pub ending : end.ending ≡ given.ending
  pub executed : end.executed ≡ given.executed
