-- What a command leaves, but for the writing of the log.
use Rattle.std.specs.Prelude.{◌≡◌, ◌⊎◌, ℕ, Bool, true, false, List, IsTrue, flat_map, Option, Some, None, IfSome, Result}
use Rattle.ds2_outside.specs.Files.{Files}
use Rattle.ds2_compile.specs.AnswersOfTexts.{SourcesRead}
use Rattle.ds2_compile.specs.StagedParts.{StagedParts}
use Rattle.ds2_answer.specs.declared.command_line.CommandLine.{CommandLine}
use Rattle.ds2_answer.specs.declared.command_line.CommandLine.TheVariants.{Run, Compile, Exec, Check, Demo}
use Rattle.ds2_answer.specs.CommandLines.{HasRowsWithin, is_object_name}
use Rattle.ds2_answer.specs.CommandPlans.{plan_of_command}
use Rattle.ds2_answer.specs.DemoPlans.{demo_files, demo_job}
use Rattle.ds2_answer.specs.ObjectPlans.{ObjectReading}
use Rattle.ds2_answer.specs.Lines.{checked_thread_line, verdict_text}
use Rattle.ds2_answer.specs.SourcePlans.{SourceCommand, check_threads, compile_programs_of, run_programs_of, source_plan}
use Rattle.ds2_answer.specs.TablePlans.{Presence, present_in}
use Rattle.ds2_answer.specs.Words.{is_source}
use Rattle.ds2_verdicts.specs.declared.verdicts.ThreadVerdict.{ThreadVerdict}
use Rattle.ds2_store_steps.specs.Halts.{FollowsAll}
use Rattle.ds2_store_steps.specs.declared.halt.Halt.{Halt}
use Rattle.ds2_commands.specs.ObjectRuns.{DecodesFile, HaltsUndecoded}
use Rattle.ds2_commands.specs.SourceObjects.{HaltsUnstored, IsObjectOf}

-- a line names a source, or `exec` an object, or `demo` a number of rows
abbrev pub NamesFile : CommandLine → Type 0
NamesFile (Run source threads budget) = IsTrue (is_source source)
NamesFile (Compile source) = IsTrue (is_source source)
NamesFile (Exec object budget) = IsTrue (is_object_name object)
NamesFile (Check source) = IsTrue (is_source source)
NamesFile (Demo n) = HasRowsWithin (Demo n)

-- what a command does with a source: whether it stores the object, and its plan, given the object and which files are there
pub record StoringCommand : Type 0 where
  pub keeps : Bool
  pub plan : List StagedParts → Presence → SourceCommand

-- `run`
abbrev pub runs_with : List ℕ → ℕ → StoringCommand
runs_with source budget = record { keeps = true; plan = run_programs_of source budget }

-- `compile`
abbrev pub compiles : List ℕ → StoringCommand
compiles source = record { keeps = true; plan = λ object there held verdicts programs. compile_programs_of source object }

-- `check`
abbrev pub checks : StoringCommand
checks = record { keeps = false; plan = λ object there held verdicts programs. check_threads verdicts }

-- the lines that tell verdicts
abbrev pub verdicts_said : List ThreadVerdict → List ℕ
verdicts_said verdicts = flat_map (λ (v : ThreadVerdict). checked_thread_line v.name (verdict_text v.verdict)) verdicts

-- what a command on a source leaves, over the files of a store and some object: where it stores one, that is the object of the source, unless
-- the command has ended before
pub record DoesSource (sources : SourcesRead) (source : List ℕ) (does : StoringCommand) (said : List ℕ) (told : Option Files) (result : Result (Unit {0}) Halt) (log : List ℕ) (now : Option Files) : Type 0 where
  pub files : Files
  pub there : Presence
  pub object : List StagedParts
  pub files_told : IfSome told (λ held. held ≡ files)
  pub there_told : IfSome told (λ held. (name : List ℕ) → there name ≡ present_in held name)
  pub stores : IsTrue does.keeps → IsObjectOf sources source files object ⊎ HaltsUnstored result told now
  pub follows : FollowsAll (source_plan sources source files (does.plan object there)) said told result log now

-- what a command stores of its source
abbrev pub StoresUnlessHalted : SourcesRead → Option CommandLine → Files → List StagedParts → Result (Unit {0}) Halt → Option Files → Option Files → Type 0
StoresUnlessHalted sources None files object result told now = Unit {0}
StoresUnlessHalted sources (Some (Run source threads budget)) files object result told now = IsObjectOf sources source files object ⊎ HaltsUnstored result told now
StoresUnlessHalted sources (Some (Compile source)) files object result told now = IsObjectOf sources source files object ⊎ HaltsUnstored result told now
StoresUnlessHalted sources (Some (Exec name budget)) files object result told now = Unit {0}
StoresUnlessHalted sources (Some (Check source)) files object result told now = Unit {0}
StoresUnlessHalted sources (Some (Demo n)) files object result told now = IsObjectOf sources demo_job (demo_files n) object ⊎ HaltsUnstored result told now

-- what a command decodes
abbrev pub DecodesUnlessHalted : ObjectReading → Option CommandLine → Files → List ℕ → Option Files → Result (Unit {0}) Halt → List ℕ → Option Files → Type 0
DecodesUnlessHalted object_for None files said told result log now = Unit {0}
DecodesUnlessHalted object_for (Some (Run source threads budget)) files said told result log now = Unit {0}
DecodesUnlessHalted object_for (Some (Compile source)) files said told result log now = Unit {0}
DecodesUnlessHalted object_for (Some (Exec name budget)) files said told result log now = DecodesFile object_for name files ⊎ HaltsUndecoded name said told result log now
DecodesUnlessHalted object_for (Some (Check source)) files said told result log now = Unit {0}
DecodesUnlessHalted object_for (Some (Demo n)) files said told result log now = Unit {0}

-- what a line of words leaves: its plan was done, or it has halted in it, over the files of a store, with the object that it stores and the file
-- that it decodes
pub record DoesCommand (sources : SourcesRead) (line : Option CommandLine) (said : List ℕ) (told : Option Files) (result : Result (Unit {0}) Halt) (log : List ℕ) (now : Option Files) : Type 0 where
  pub object_for : ObjectReading
  pub files : Files
  pub there : Presence
  pub object : List StagedParts
  pub files_told : IfSome told (λ held. held ≡ files)
  pub there_told : IfSome told (λ held. (name : List ℕ) → there name ≡ present_in held name)
  pub stores : StoresUnlessHalted sources line files object result told now
  pub decodes : DecodesUnlessHalted object_for line files said told result log now
  pub follows : FollowsAll (plan_of_command sources object_for object line files there) said told result log now
