-- What a line of words stores.
use Rattle.std.specs.Prelude.{◌⊎◌, ℕ, List, Option, Some, None}
use Rattle.ds2_commands.specs.AnswersOfTexts.{SourcesRead}
use Rattle.ds2_outside.specs.Files.{Files}
use Rattle.ds2_commands.specs.StagedParts.{StagedParts}
use Rattle.ds2_answer.specs.declared.command_line.CommandLine.{CommandLine}
use Rattle.ds2_answer.specs.declared.command_line.CommandLine.TheVariants.{Run, Compile, Exec, Check, Demo}
use Rattle.ds2_answer.specs.DemoPlans.{demo_files, demo_job}
use Rattle.ds2_answer.specs.declared.status.Status.{Status}
use Rattle.ds2_commands.specs.SourceObjects.{IsBeforeStoring, IsObjectOf}
use Rattle.ds2_top.specs.Outside.{Outside, HoldsFiles}

-- an object is that of the source, or the command has ended before it stored one, and each file is as it was
abbrev pub StoresObjectOf : SourcesRead → (source : List ℕ) → Files → List StagedParts → Outside → Outside → Status → Type 0
StoresObjectOf sources source files object before now status = IsObjectOf sources source files object ⊎ (IsBeforeStoring status × HoldsFiles files before now)

-- what a line of words stores: `run` and `compile` store the object of their source, `demo` that of its job in files of its own, and the other
-- commands none
abbrev pub StoresObject : SourcesRead → Option CommandLine → Files → List StagedParts → Outside → Outside → Status → Type 0
StoresObject sources None files object before now status = Unit {0}
StoresObject sources (Some (Run source threads budget)) files object before now status = StoresObjectOf sources source files object before now status
StoresObject sources (Some (Compile source)) files object before now status = StoresObjectOf sources source files object before now status
StoresObject sources (Some (Exec name budget)) files object before now status = Unit {0}
StoresObject sources (Some (Check source)) files object before now status = Unit {0}
StoresObject sources (Some (Demo n)) files object before now status = IsObjectOf sources demo_job (demo_files n) object ⊎ (IsBeforeStoring status × HoldsFiles files before now)
