-- Groups of code that are independent at a grain give the same whatever groups ran before them.
use Rattle.std.specs.Prelude.{◌≡◌, ℕ, Bool, true, List}
use Rattle.ds2_schedule.specs.Groups.{IsGroupIndependent, IsAmongGroups}
use Rattle.ds2_schedule.specs.Schedule.{FixedPart, AgreeAsStates}
use Rattle.ds2_code.specs.declared.parts.ProgramParts.{ProgramParts}
use Rattle.ds2_code.specs.Desk.{ProgramData, SlotSettings}
use Rattle.ds2_code_answer.specs.StageSchedules.{units_of_code}
use Rattle.ds2_code_answer.specs.StageTold.{told_units}
use Rattle.ds2_group_job.specs.WhateverRan.{GivesWhateverRan}

-- whatever is taken for states and for their fixed part: the groups of code that are independent between states that agree give, and
-- `term` gives, behind whatever groups what they give from the first data, where these are a state
abbrev pub IndependentGroupsGive : Type 0 → Type 0 → Type 0
IndependentGroupsGive K C = (code : ProgramParts) (budget : ℕ) (groups : List (List SlotSettings)) (first : ProgramData)
    (is_state : ProgramData → Bool) (fixed : FixedPart ProgramData K C) (early : ℕ → Bool)
    → IsGroupIndependent (told_units (units_of_code code)) (IsAmongGroups groups) early (AgreeAsStates is_state fixed) → is_state first ≡ true
    → GivesWhateverRan code budget groups first
