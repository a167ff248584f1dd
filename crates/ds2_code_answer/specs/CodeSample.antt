-- A small stage of code for which the premises of the law on schedules hold: it writes the value that each load sets.
use Rattle.std.specs.Prelude.{ℕ, Bool, true, false, codes, List, [], ◌∷◌, Option, Some, None, pos}
use Rattle.ds2_value.specs.Progress.{at_the_start}
use Rattle.ds2_value.specs.Row.{Row}
use Rattle.ds2_value.specs.declared.ty.Ty.TheVariants.{BigInt}
use Rattle.ds2_value.specs.declared.value.Value.{Value}
use Rattle.ds2_value.specs.declared.value.Value.TheVariants.{Null, Int}
use Rattle.ds2_table.specs.Loads.{Load, KeyedLoad, keyed_load}
use Rattle.ds2_schedule.specs.Stage.{StageStep, Draws, HandsIn, Retakes}
use Rattle.ds2_schedule.specs.Schedule.{FixedPart}
use Rattle.ds2_code.specs.declared.instr.Instr.TheVariants as instr
use Rattle.ds2_code.specs.declared.parts.ProgramParts.{ProgramParts}
use Rattle.ds2_code.specs.declared.parts.ReadingPart.TheVariants as reading
use Rattle.ds2_code.specs.declared.parts.SlotRole.TheVariants.{Column}
use Rattle.ds2_code.specs.Desk.{ProgramData}
use Rattle.ds2_code_answer.specs.StageSchedules.{StageSetting, IsIndependentStage, IsStageHistory, stage_of_code}

-- Its code: one column, and one output of it; `init` and `term` do nothing.
abbrev pub copying_code : ProgramParts
copying_code = record {
  name = None;
  slots = record { name = codes "v"; ty = BigInt; role = Column } ∷ [];
  constants = [];
  hashes = [];
  iterators = [];
  parameters = [];
  methods = [];
  reading = reading.Set (record { table = record { name = codes "t"; maker = 0; columns = record { name = codes "v"; ty = BigInt } ∷ [] }; present = None; slots = 0 ∷ [] } ∷ []) [];
  outputs = record { name = codes "o"; overwrites = false; columns = (codes "v", 0) ∷ [] } ∷ [];
  init = 0;
  run = 1;
  term = 0;
  instrs = instr.End ∷ instr.Output 0 ∷ instr.End ∷ [];
}

-- Its data, with this value in the slot.
abbrev pub copied_data : Value → ProgramData
copied_data v = record { slots = v ∷ []; hashes = []; iterators = []; parameters = [] }

-- The number of the row that a load has of the table, as a value.
abbrev pub number_read : List (Option ℕ) → Value
number_read [] = Null
number_read (None ∷ rows) = Null
number_read (Some n ∷ rows) = Int (pos n)

-- A load sets the column to it.
abbrev pub copied_sets : Load → List (ℕ × Value)
copied_sets l = (0, number_read l.rows) ∷ []

-- Three loads without BY variables, each of which is a group.
abbrev pub copied_loads : List KeyedLoad
copied_loads = keyed_load [] (Some 0 ∷ []) (true ∷ []) ∷ keyed_load [] (Some 1 ∷ []) (true ∷ []) ∷ keyed_load [] (Some 2 ∷ []) (true ∷ []) ∷ []

-- There is one slot.
abbrev pub has_one_slot : Row → Bool
has_one_slot [] = false
has_one_slot (v ∷ []) = true
has_one_slot (v ∷ w ∷ slots) = false

-- Data with the one slot are its states.
abbrev pub is_copied_state : ProgramData → Bool
is_copied_state s = has_one_slot s.slots

-- No location is fixed.
abbrev pub copied_fixed : FixedPart ProgramData ℕ Value
copied_fixed = record { content = λ s k. Null; is_fixed = λ k. false }

-- The stage on a budget of 5, at grain 0.
abbrev pub copying_stage : StageSetting ProgramData ℕ Value
copying_stage = stage_of_code copying_code copied_sets copied_loads 0 5 (copied_data Null) (copied_data Null) (at_the_start 5) 1

-- Two workers: the first ends before its group, the second behind its first one, and the caller runs both that are left.
abbrev pub copying_history : List StageStep
copying_history = Draws 0 0 ∷ Draws 1 1 ∷ Draws 1 2 ∷ HandsIn 1 1 1 false ∷ Retakes ∷ HandsIn 2 0 1 false ∷ HandsIn 2 2 1 false ∷ []

-- The premises of the law hold of the stage and this history.
pub record CodeSampleMeetsPremises : Type 0 where
  pub stage : IsIndependentStage copying_stage is_copied_state copied_fixed (λ n. false) []
  pub steps : IsStageHistory copying_stage 2 copying_history
