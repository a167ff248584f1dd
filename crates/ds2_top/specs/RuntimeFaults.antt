-- A runtime fault of a source: the first of the one-thread meaning of its programs.
use Rattle.std.specs.Prelude.{◌≡◌, ℕ, List, [], ◌∷◌, ◌++◌, map, Option, Some, None}
use Rattle.ds2_base.specs.declared.place.Place.{Place}
use Rattle.ds2_value.specs.declared.fault.Ending.{Ending}
use Rattle.ds2_value.specs.declared.fault.Ending.TheVariants.{Normal, Faulted}
use Rattle.ds2_value.specs.declared.fault.Fault.{Fault}
use Rattle.ds2_commands.specs.AnswersOfTexts.{SourcesRead}
use Rattle.ds2_commands.specs.ProgramTree.{ProgramTree}
use Rattle.ds2_commands.specs.StagedParts.{StagedParts}
use Rattle.ds2_outside.specs.Files.{Files}
use Rattle.ds2_answer.specs.declared.command_line.CommandLine.{CommandLine}
use Rattle.ds2_answer.specs.declared.command_line.CommandLine.TheVariants.{Run, Compile, Exec, Check, Demo}
use Rattle.ds2_answer.specs.declared.status.Status.TheVariants.{Done}
use Rattle.ds2_answer.specs.HeldTables.{HeldTables, NamedTable, held_behind, held_from_store}
use Rattle.ds2_answer.specs.Lines.{error_line, fault_text, line_put}
use Rattle.ds2_answer.specs.Plan.{Plan, Stops}
use Rattle.ds2_answer.specs.PlanSteps.{PlanStep, LogLine, files_behind_all, steps_of}
use Rattle.ds2_answer.specs.ProgramPlans.{ProgramLeft, ProgramRun, program_then}
use Rattle.ds2_answer.specs.SourcePlans.{runs_of_programs, source_plan}
use Rattle.ds2_commands.specs.ThreadVerdicts.{verdict_named}
use Rattle.ds2_commands.specs.ThreadVerdict.{ThreadVerdict}
use Rattle.ds2_top.specs.Outside.{Outside, HoldsFiles}
use Rattle.ds2_commands.specs.SourceObjects.{BecomesPrograms}

-- a program does not end in a fault
abbrev pub EndsWithoutFault : Option Ending → Type 0
EndsWithoutFault None = Unit {0}
EndsWithoutFault (Some Normal) = Unit {0}
EndsWithoutFault (Some (Faulted fault place)) = ⊥

-- programs run one behind the other, and none ends in a fault
abbrev pub RunWithoutFault : List ProgramRun → HeldTables → Type 0
RunWithoutFault [] held = Unit {0}
RunWithoutFault (run ∷ runs) held = EndsWithoutFault (ProgramLeft.ending (run held)) × RunWithoutFault runs (held_behind held (ProgramLeft.tables (run held)))

-- the tables that are held behind programs
abbrev pub held_behind_runs : List ProgramRun → HeldTables → HeldTables
held_behind_runs [] held = held
held_behind_runs (run ∷ runs) held = held_behind_runs runs (held_behind held (ProgramLeft.tables (run held)))

-- the steps of programs none of which ends in a fault
abbrev pub steps_of_runs : List ProgramRun → HeldTables → List PlanStep
steps_of_runs [] held = []
steps_of_runs (run ∷ runs) held = steps_of (program_then (run held) (Stops Done)) ++ steps_of_runs runs (held_behind held (ProgramLeft.tables (run held)))

-- the steps of a program that ends in a fault: its lines, and the fault's line; it writes nothing
abbrev pub steps_of_fault : List (List ℕ) → Fault → Place → List PlanStep
steps_of_fault lines fault place = map (λ (line : List ℕ). LogLine (line_put line)) lines ++ LogLine (error_line (fault_text fault) place) ∷ []

-- the first of programs that ends in a fault, over the tables that those before it have made
pub record FirstFault (runs : List ProgramRun) (held : HeldTables) (fault : Fault) (place : Place) : Type 0 where
  pub earlier : List ProgramRun
  pub faulting : ProgramRun
  pub later : List ProgramRun
  pub runs_are : runs ≡ earlier ++ faulting ∷ later
  pub passed : RunWithoutFault earlier held
  pub ends : ProgramLeft.ending (faulting (held_behind_runs earlier held)) ≡ Some (Faulted fault place)

-- the lines of the program that ends in a fault
abbrev pub lines_of_faulting : (held : HeldTables) → {runs : List ProgramRun} {fault : Fault} {place : Place} → FirstFault runs held fault place → List (List ℕ)
lines_of_faulting held first = ProgramLeft.lines (first.faulting (held_behind_runs first.earlier held))

-- a command on a source has ended in the first fault of its programs: behind some first steps and those of the programs before it stand its
-- lines and the fault's line, and no file has changed behind those first ones
pub record LeavesFault (sources : SourcesRead) (object : List StagedParts) (source : List ℕ) (budget : ℕ) (answer : Plan) (files : Files) (before now : Outside) : Type 0 where
  pub stored : List NamedTable
  pub verdicts : List ThreadVerdict
  pub programs : List ProgramTree
  pub becomes : BecomesPrograms (source_plan sources source files) stored verdicts programs
  pub fault : Fault
  pub place : Place
  pub first : FirstFault (runs_of_programs (verdict_named verdicts) budget programs object) (held_from_store stored) fault place
  pub front : List PlanStep
  pub steps_are : steps_of answer ≡ front ++ (steps_of_runs first.earlier (held_from_store stored) ++ steps_of_fault (lines_of_faulting (held_from_store stored) first) fault place)
  pub files_are : HoldsFiles (files_behind_all (front ++ steps_of_runs first.earlier (held_from_store stored)) files) before now

-- what `run` leaves that ends in a fault; `exec` and `demo` end in the fault of their plan, which the answer says, and the other commands run
-- nothing
abbrev pub FaultLeft : SourcesRead → (object : List StagedParts) → Option CommandLine → (answer : Plan) → Files → Outside → Outside → Type 0
FaultLeft sources object None answer files before now = ⊥
FaultLeft sources object (Some (Run source threads budget)) answer files before now = LeavesFault sources object source budget answer files before now
FaultLeft sources object (Some (Compile source)) answer files before now = ⊥
FaultLeft sources object (Some (Exec name budget)) answer files before now = Unit {0}
FaultLeft sources object (Some (Check source)) answer files before now = ⊥
FaultLeft sources object (Some (Demo n)) answer files before now = Unit {0}
