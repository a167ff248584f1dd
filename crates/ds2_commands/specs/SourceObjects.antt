-- The object that a command stores for a source.
use Rattle.std.specs.Prelude.{◌≡◌, ℕ, List, Option, Result, Ok, Err}
use Rattle.ds2_compile.specs.AnswersOfTexts.{SourcesRead}
use Rattle.ds2_compile.specs.ProgramTree.{ProgramTree}
use Rattle.ds2_outside.specs.Files.{Files}
use Rattle.ds2_object.specs.ObjectSpelling.{DecodesTo}
use Rattle.ds2_compile.specs.StagedParts.{StagedParts}
use Rattle.ds2_answer.specs.declared.status.Status.{Status}
use Rattle.ds2_answer.specs.declared.status.Status.TheVariants as ended
use Rattle.ds2_answer.specs.HeldTables.{NamedTable, held_from_store}
use Rattle.ds2_answer.specs.Plan.{Plan, ReadsFile, each_in_turn}
use Rattle.ds2_answer.specs.SourcePlans.{SourceCommand, object_bytes, source_plan}
use Rattle.ds2_answer.specs.StoredCodes.{HaveCodes}
use Rattle.ds2_verdicts.specs.declared.verdicts.ThreadVerdict.{ThreadVerdict}
use Rattle.ds2_store_steps.specs.declared.halt.Halt.{Halt}
use Rattle.ds2_store_steps.specs.declared.halt.Halt.TheVariants.{Ended, OutOfMemory}

-- the plan of a source reads some files, and then does what the command does with these tables, verdicts and programs
pub record BecomesPrograms (plan : SourceCommand → Plan) (stored : List NamedTable) (verdicts : List ThreadVerdict) (programs : List ProgramTree) : Type 0 where
  pub names : List (List ℕ)
  pub plan_is : (go : SourceCommand) → plan go ≡ each_in_turn ReadsFile names (go (held_from_store stored) verdicts programs)

-- an object is that of a source: each of its programs means the same as the source's program at its place, and the bytes that are stored are
-- decoded to just these programs, which are valid code
pub record IsObjectOf (sources : SourcesRead) (source : List ℕ) (files : Files) (object : List StagedParts) : Type 0 where
  pub stored : List NamedTable
  pub verdicts : List ThreadVerdict
  pub programs : List ProgramTree
  pub becomes : BecomesPrograms (source_plan sources source files) stored verdicts programs
  pub codes : HaveCodes programs object
  pub decoded : DecodesTo (Ok object) (object_bytes object)

-- a status with which a command may end before it stores an object
abbrev pub IsBeforeStoring : Status → Type 0
IsBeforeStoring ended.Done = ⊥
IsBeforeStoring ended.Usage = Unit {0}
IsBeforeStoring ended.Source = Unit {0}
IsBeforeStoring ended.File = Unit {0}
IsBeforeStoring ended.Exists = Unit {0}
IsBeforeStoring ended.Fault = ⊥
IsBeforeStoring ended.Read = Unit {0}
IsBeforeStoring ended.Write = ⊥
IsBeforeStoring ended.Log = ⊥
IsBeforeStoring ended.Object = ⊥
IsBeforeStoring ended.Memory = Unit {0}

-- a command has ended before it stored an object, and no file has changed
abbrev pub HaltsUnstored : Result (Unit {0}) Halt → Option Files → Option Files → Type 0
HaltsUnstored (Ok value) told now = ⊥
HaltsUnstored (Err (Ended status)) told now = IsBeforeStoring status × (now ≡ told)
HaltsUnstored (Err OutOfMemory) told now = now ≡ told
