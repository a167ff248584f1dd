-- What the groups of a thread program give.
use Rattle.std.specs.List.{flat_map}
use Rattle.std.specs.Prelude.{ℕ, ◌+◌, List, [], ◌∷◌, map, slice_get, Option, Some, None}
use Rattle.ds2_value.specs.Run.{Written}
use Rattle.ds2_value.specs.declared.fault.Ending.{Ending}
use Rattle.ds2_value.specs.declared.fault.Ending.TheVariants.{Normal, Faulted}
use Rattle.ds2_table.specs.OneThread.{Reached, Standing, Halted, Astray, GroupResult, run_all}
use Rattle.ds2_bags.specs.declared.group_end.GroupEnd.{GroupEnd}
use Rattle.ds2_code.specs.declared.parts.ProgramParts.{ProgramParts}
use Rattle.ds2_code.specs.Desk.{ProgramData, SlotSettings}
use Rattle.ds2_code_answer.specs.CodeAnswer.{code_units}

-- `run` on the loads of a group, from these data
abbrev pub run_of_group : ProgramParts → (budget : ℕ) → List SlotSettings → ProgramData → GroupResult ProgramData
run_of_group code budget loads state = run_all (code_units code budget) loads state

-- how a group has ended; a unit of valid code does not go astray
abbrev pub ending_of_reached : Reached ProgramData → Ending
ending_of_reached (Standing state) = Normal
ending_of_reached (Halted fault place) = Faulted fault place
ending_of_reached Astray = Normal

-- what a group tells: its rows, lines, ending and number of instructions
abbrev pub end_of_group : GroupResult ProgramData → GroupEnd
end_of_group result = record { rows = map (λ (w : Written). w.row) result.rows; lines = result.lines; ending = ending_of_reached result.reached; executed = result.executed }

-- some loads where there are some, else none
abbrev pub loads_or_none : Option (List SlotSettings) → List SlotSettings
loads_or_none None = []
loads_or_none (Some loads) = loads

-- the loads of the group of this number; none where there is no such group
abbrev pub group_at_number : List (List SlotSettings) → ℕ → List SlotSettings
group_at_number groups g = loads_or_none (slice_get groups g)

-- how the last of these groups has ended; where there is none, how what came before them has
abbrev pub last_ending : Ending → List GroupEnd → Ending
last_ending before [] = before
last_ending before (e ∷ ends) = last_ending e.ending ends

-- how many instructions these groups have executed together
abbrev pub executed_together : List GroupEnd → ℕ
executed_together [] = 0
executed_together (e ∷ ends) = e.executed + executed_together ends

-- what groups give one after the other: all rows and lines in order, the last one's ending, and all instructions
abbrev pub given_together : List GroupEnd → GroupEnd
given_together ends = record {
  rows = flat_map (λ (e : GroupEnd). e.rows) ends;
  lines = flat_map (λ (e : GroupEnd). e.lines) ends;
  ending = last_ending Normal ends;
  executed = executed_together ends;
}
