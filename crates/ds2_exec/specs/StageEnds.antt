-- The thread programs of a program's code: the grains of their groups, and what is told of them behind their end.
use Rattle.std.specs.Prelude.{ℕ, List, [], ◌∷◌, ◌++◌, length, map, Option, Some, None, option_map, slice_get}
use Rattle.std.specs.List.{AllByRecursion, flat_map}
use Rattle.ds2_code.specs.declared.parts.ProgramParts.{ProgramParts}
use Rattle.ds2_code.specs.declared.parts.StagedParts.{StagedParts}
use Rattle.ds2_locality.specs.declared.locality.Verdict.{Verdict}
use Rattle.ds2_same_meaning.specs.SameMeaning.{number_of_bys}
use Rattle.ds2_unit.specs.Grains.{IsGrainOfReading}
use Rattle.ds2_unit.specs.declared.program_end.StageNote.{StageNote}
use Rattle.ds2_answer.specs.Lines.{count_line, thread_line, verdict_text}
use Rattle.ds2_answer.specs.Plan.{Plan, Logs}
use Rattle.ds2_answer.specs.StagesLeft.{StageLeft, VerdictsTold, grain_told, name_of_stage}
use Rattle.ds2_exec.specs.declared.stages.StageEnd.{StageEnd}

-- a thread program, and the verdict that is told on it, where one is
pub record JudgedStage : Type 0 where
  pub stage : ProgramParts
  pub verdict : Option Verdict

-- a thread program with the verdict that is told under its name
abbrev pub judged_stage : VerdictsTold → ProgramParts → JudgedStage
judged_stage told stage = record { stage = stage; verdict = told (name_of_stage stage.name) }

-- thread programs, each with the verdict that is told under its name
abbrev pub judged_stages : VerdictsTold → List ProgramParts → List JudgedStage
judged_stages told stages = map (judged_stage told) stages

-- the grain of a thread program on which a verdict is told, or none
abbrev pub grain_of : JudgedStage → ℕ
grain_of s = grain_told s.verdict (number_of_bys s.stage.reading)

-- the loads of a thread program can be put into groups at the grain that the verdicts tell
abbrev pub GrainFits : VerdictsTold → ProgramParts → Type 0
GrainFits told stage = IsGrainOfReading stage.reading (grain_of (judged_stage told stage))

-- so can those of each thread program that code reads from
abbrev pub GrainsFit : VerdictsTold → StagedParts → Type 0
GrainsFit told code = AllByRecursion (GrainFits told) code.stages

-- the verdict on the last of these thread programs, which reads tables; where there is none, this one
abbrev pub last_verdict : (before : Option Verdict) → List JudgedStage → Option Verdict
last_verdict before [] = before
last_verdict before (s ∷ stages) = last_verdict s.verdict stages

-- the grains of thread programs, the innermost first
abbrev pub grains_told : List JudgedStage → List ℕ
grains_told [] = []
grains_told (s ∷ stages) = grains_told stages ++ grain_of s ∷ []

-- a thread program behind its end, as the answer tells it
abbrev pub stage_told : StageEnd → StageLeft
stage_told end = record { name = end.name; verdict = end.verdict; groups = end.groups; instructions = end.executed }

-- what is told of a thread program with this note
abbrev pub stage_noted : JudgedStage → StageNote → StageEnd
stage_noted s note = record { name = name_of_stage s.stage.name; verdict = option_map verdict_text s.verdict; groups = note.groups; executed = note.executed }

-- what is told of a thread program with this note, where there is one
abbrev pub noted : Option JudgedStage → StageNote → List StageEnd
noted None note = []
noted (Some s) note = stage_noted s note ∷ []

-- what is told of the thread programs that were begun, of which there are notes: of both the innermost first
abbrev pub stages_noted : List JudgedStage → List StageNote → List StageEnd
stages_noted stages [] = []
stages_noted stages (note ∷ notes) = noted (slice_get stages (length notes)) note ++ stages_noted stages notes

-- the lines that count what thread programs did
abbrev pub stages_counted : List StageEnd → List ℕ
stages_counted ends = flat_map (λ (end : StageEnd). thread_line end.name end.verdict end.groups ++ count_line end.executed) ends

-- the groups and then the instructions of a thread program are counted in the log
abbrev pub count_end_then : StageEnd → Plan → Plan
count_end_then end rest = Logs (thread_line end.name end.verdict end.groups) (Logs (count_line end.executed) rest)
